-- What a rule makes of a formula's own part is what is made of the formula.
use Rattle.std.proofs.Common.{◌≡◌, ℕ, ◌+◌, ◌<◌, ◌≤◌, false, not, ◌&&◌, ◌||◌, List, [], ◌∷◌, ◌++◌, length, get_or, sym, refl, ap, ◌∙◌, ap₂, append_assoc, append-nil, add-zero, zero-add, arith, length-append}
use lib.Seq.{get_or_at}
use Rattle.std.proofs.lemmas.Bool.{ltb-true}
use Rattle.property_parts.specs.Parts.{Falls, Rule, made_of, truth_rule, truth}
use Rattle.property_parts.specs.Formula.{Formula, letter, no_letter, top, bottom, and, or, holds_in, root, size, parts_of}
use Rattle.property_parts.specs.Table.{held}
use Rattle.property_parts.specs.declared.table.PartTable.{PartTable}
use Rattle.property_parts.specs.declared.parts.Part.{Part}
use Rattle.property_parts.specs.declared.parts.Part.TheVariants.{Letter, Not, True, False, And, Or}
use Rattle.property_parts.proofs.Filled.{both_earlier, held_falls}
use Rattle.property_parts.proofs.Made.{Local, made_at}

length_joined : (n : ℕ) (a b : Formula) (p : Part) → length (parts_of n a) ≡ size a → length (parts_of (n + size a) b) ≡ size b
    → length ((parts_of n a ++ parts_of (n + size a) b) ++ (p ∷ [])) ≡ size (and a b)
length_joined n a b p x y = simp (length-append, length-append) (omega arith)

pub length_parts : (n : ℕ) (a : Formula) → length (parts_of n a) ≡ size a
length_parts n (letter l) = refl
length_parts n (no_letter l) = refl
length_parts n top = refl
length_parts n bottom = refl
length_parts n (and a b) = length_joined n a b (And (n + root a) ((n + size a) + root b)) (length_parts n a) (length_parts (n + size a) b)
length_parts n (or a b) = length_joined n a b (Or (n + root a) ((n + size a) + root b)) (length_parts n a) (length_parts (n + size a) b)

-- F makes of each formula what the rule makes of its part
pub record Follows {A : Type 0} (rule : Rule A) (F : Formula → A) : Type 0 where
  pub on_letter : (t : ℕ → A) (l : ℕ) → rule t (Letter l) ≡ F (letter l)
  pub on_not : (t : ℕ → A) (l k : ℕ) → t k ≡ F (letter l) → rule t (Not k) ≡ F (no_letter l)
  pub on_top : (t : ℕ → A) → rule t True ≡ F top
  pub on_bottom : (t : ℕ → A) → rule t False ≡ F bottom
  pub on_and : (t : ℕ → A) (a b : Formula) (j k : ℕ) → t j ≡ F a → t k ≡ F b → rule t (And j k) ≡ F (and a b)
  pub on_or : (t : ℕ → A) (a b : Formula) (j k : ℕ) → t j ≡ F a → t k ≡ F b → rule t (Or j k) ≡ F (or a b)

module _ {A : Type 0} (nothing : A) (rule : Rule A) (local : Local rule) (F : Formula → A) (follows : Follows rule F) (ps : List Part) (m : ℕ) (falls : Falls ps m) where
  abbrev made : ℕ → A
  made n = made_of nothing rule ps n

  own : (k : ℕ) (p : Part) (before after : List Part) → length before ≡ k → k < m → ps ≡ before ++ (p ∷ after) → made k ≡ rule made p
  own k p before after e h q = made_at nothing rule local ps m falls k p h (ap (λ x. get_or x k (Letter 0)) q ∙ get_or_at before p after (Letter 0) k e)

  -- the parts of a formula stand behind n others
  abbrev Makes : Formula → Type 0
  Makes a = (n : ℕ) (before after : List Part) → length before ≡ n → n + size a ≤ m → ps ≡ before ++ (parts_of n a ++ after) → made (n + root a) ≡ F a

  joined : (a b c : Formula) (part : ℕ → ℕ → Part) → ((n : ℕ) → parts_of n c ≡ (parts_of n a ++ parts_of (n + size a) b) ++ (part (n + root a) ((n + size a) + root b) ∷ []))
      → root c ≡ (root a + 1) + (root b + 1)
      → ((j k : ℕ) → made j ≡ F a → made k ≡ F b → rule made (part j k) ≡ F c)
      → Makes a → Makes b → Makes c
  joined a b c part lists roots on of-a of-b n before after e h q =
      let la = length_parts n a in
      let lb = length_parts (n + size a) b in
      let p : Part = part (n + root a) ((n + size a) + root b) in
      let q₁ : ps ≡ before ++ (((parts_of n a ++ parts_of (n + size a) b) ++ (p ∷ [])) ++ after) = q ∙ ap (λ x. before ++ (x ++ after)) (lists n) in
      let at : made ((n + size a) + size b) ≡ rule made p =
      own ((n + size a) + size b) p (before ++ (parts_of n a ++ parts_of (n + size a) b)) after (simp (length-append, length-append) (omega arith)) (omega arith) (q₁ ∙ simp append_assoc) in
      let place : n + root c ≡ (n + size a) + size b = omega arith in
      ap (λ k. made k) place ∙ (at ∙ on (n + root a) ((n + size a) + root b)
      (of-a n before (parts_of (n + size a) b ++ (p ∷ after)) e (omega arith) (q₁ ∙ simp append_assoc))
      (of-b (n + size a) (before ++ parts_of n a) (p ∷ after) (simp length-append (omega arith)) (omega arith) (q₁ ∙ simp append_assoc)))

  pub makes : (a : Formula) → Makes a
  makes (letter l) n before after e h q = rw (add-zero n) (own n (Letter l) before after e (omega arith) q ∙ follows.on_letter made l)
  makes (no_letter l) n before after e h q =
      own (n + 1) (Not n) (before ++ (Letter l ∷ [])) after (simp length-append (omega arith)) (omega arith) (q ∙ simp append_assoc)
      ∙ follows.on_not made l n (own n (Letter l) before (Not n ∷ after) e (omega arith) q ∙ follows.on_letter made l)
  makes top n before after e h q = rw (add-zero n) (own n True before after e (omega arith) q ∙ follows.on_top made)
  makes bottom n before after e h q = rw (add-zero n) (own n False before after e (omega arith) q ∙ follows.on_bottom made)
  makes (and a b) n before after e h q =
      joined a b (and a b) And (λ n. refl) refl (λ j k. follows.on_and made a b j k) (makes a) (makes b) n before after e h q
  makes (or a b) n before after e h q =
      joined a b (or a b) Or (λ n. refl) refl (λ j k. follows.on_or made a b j k) (makes a) (makes b) n before after e h q

  -- the parts of two formulas, one behind the other
  module _ (a b : Formula) (count : size a + size b ≤ m) (both : ps ≡ parts_of 0 a ++ parts_of (size a) b) where
    pub first_made : made (root a) ≡ F a
    first_made = ap (λ k. made k) (sym (zero-add (root a))) ∙ makes a 0 [] (parts_of (size a) b) refl (omega arith) both

    pub second_made : made (size a + root b) ≡ F b
    second_made = makes b (size a) (parts_of 0 a) [] (length_parts 0 a) (omega arith) (both ∙ ap (λ x. parts_of 0 a ++ x) (sym (append-nil (parts_of (size a) b))))

-- truths
pub truth_local : (w : ℕ) → Local (truth_rule w)
truth_local w (Letter l) n s t h e = refl
truth_local w (Not a) n s t h e = rw (e a (ltb-true a n h))
truth_local w True n s t h e = refl
truth_local w False n s t h e = refl
truth_local w (And a b) n s t h e = let q = both_earlier a b n h in rw (e a q.0, e b q.1)
truth_local w (Or a b) n s t h e = let q = both_earlier a b n h in rw (e a q.0, e b q.1)

pub truth_follows : (w : ℕ) → Follows (truth_rule w) (λ a. holds_in a w)
truth_follows w =
    record {
      on_letter = λ t l. refl;
      on_not = λ t l k e. ap (λ x. not x) e;
      on_top = λ t. refl;
      on_bottom = λ t. refl;
      on_and = λ t a b j k x y. ap₂ (λ x y. x && y) x y;
      on_or = λ t a b j k x y. ap₂ (λ x y. x || y) x y;
    }

-- the truth of a part that a table holds
pub truth_at : (t : PartTable) (w n : ℕ) (p : Part) → n < t.count → p ≡ get_or (held t) n (Letter 0) → truth (held t) w n ≡ truth_rule w (truth (held t) w) p
truth_at t w n p h at = made_at false (truth_rule w) (truth_local w) (held t) t.count (held_falls _ _ t.falls) n p h (sym at)
