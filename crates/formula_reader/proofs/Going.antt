-- A loop that reads items joined by an operator: what the whole gives is what the rest gives.
use Rattle.std.proofs.Common.{◌≡◌, ℕ, zero, suc, ◌+◌, ◌<◌, ◌≤◌, true, false, eqb, ltb, Option, Some, None, List, [], ◌∷◌, ◌++◌, length, get_or, Ok, Err, sym, refl, ap, ◌∙◌, append_assoc, arith}
use Rattle.std.proofs.lemmas.Bool.{lt-ltb, le-ltb, eq-eqb, eqb-true, ne_eqb, both_ways}
use Rattle.std.specs.Option.{option_eq, unwrap_or}
use Rattle.refusal.specs.declared.Refusal.{Refusal}
use Rattle.property_parts.specs.Formula.{Formula, root, size, parts_of}
use Rattle.property_parts.specs.Parts.{most_parts}
use Rattle.property_parts.specs.declared.parts.Part.{Part}
use Rattle.property_parts.specs.declared.table.PartTable.{PartTable}
use Rattle.property_text.specs.Faults.{refused, ◌>>=◌}
use Rattle.property_text.specs.Tokens.{past}
use Rattle.property_text.proofs.Places.{inside}
use Rattle.property_text.specs.declared.fault.PropertyFault.{PropertyFault}
use Rattle.property_text.specs.declared.fault.PropertyFault.TheVariants.{TooManyParts}
use Rattle.formula_reader.specs.Operators.{sign, join, part}
use Rattle.formula_reader.specs.Reading.{Reader, room, more, joined}
use Rattle.formula_reader.specs.declared.operator.Operator.{Operator}
use Rattle.formula_reader.specs.declared.operator.Operator.TheVariants.{And, Or}
use Rattle.property_parts.specs.Table.{held, Filled}
use Rattle.formula_reader.specs.Answers.{Made}

pub join_root : (o : Operator) (a b : Formula) → root (join o a b) ≡ size a + size b
join_root And a b = refl
join_root Or a b = refl

join_parts : (o : Operator) (n : ℕ) (a b : Formula) → parts_of n (join o a b) ≡ (parts_of n a ++ parts_of (n + size a) b) ++ (part o (n + root a) ((n + size a) + root b) ∷ [])
join_parts And n a b = refl
join_parts Or n a b = refl

module _ (s : List ℕ) (full : ℕ) (o : Operator) (item : Reader) where
  -- a turn, where there is one more item
  pub turn : (t n : ℕ) (a : Formula) (i m : ℕ) → m ≡ n + size a → full < t + m → m ≤ full → get_or s i 0 ≡ sign o
      → (u : ℕ) × (t ≡ u + 1) × (more s full o item t n a i ≡ (item m (past s (i + 1)) >>= (λ c. room full (m + size c.0) i (more s full o item u n (join o a c.0) c.1))))
  unfolding more
  turn zero n a i m e h k q = absurd (omega arith)
  turn (suc u) n a i m e h k q = (u, omega arith, rw (eq-eqb _ _ q, e))

  pub last : (t n : ℕ) (a : Formula) (i : ℕ) → (get_or s i 0 ≡ sign o → ⊥) → more s full o item t n a i ≡ Ok (a, i)
  unfolding more
  last zero n a i q = refl
  last (suc t) n a i q = rw (ne_eqb _ _ q)

-- from the formula a, read before the loop behind n parts, up to where the loop has come
pub record Going (s : List ℕ) (o : Operator) (item : Reader) (n : ℕ) (a : Formula) (i : ℕ) (before : List Part) (after : PartTable) (number at : ℕ) : Type 0 where
  pub formula : Formula
  pub turns : ℕ
  pub same : more s most_parts o item most_parts n a i ≡ more s most_parts o item turns n formula at
  pub own : number ≡ n + root formula
  pub count : after.count ≡ n + size formula
  pub parts : held after ≡ before ++ parts_of n formula
  pub enough : most_parts < turns + after.count

-- the same, whatever was read before the loop
abbrev pub Goes : (s : List ℕ) (o : Operator) (item : Reader) (start : PartTable) (first i : ℕ) (after : PartTable) (number at : ℕ) → Type 0
Goes s o item start first i after number at =
    (n : ℕ) (a : Formula) (before : List Part) → first ≡ n + root a → start.count ≡ n + size a → held start ≡ before ++ parts_of n a
    → Going s o item n a i before after number at

-- an operator stands at i, and behind it the text u is read from j on
pub record Behind (s : List ℕ) (o : Operator) (i : ℕ) (u : List ℕ) (j : ℕ) : Type 0 where
  pub here : get_or s i 0 ≡ sign o
  pub same : u ≡ s
  pub next : j ≡ past s (i + 1)

-- the test whether a byte is there and is b; 0 stands for none
byte_test : (byte : Option ℕ) (b : ℕ) → 0 < b → option_eq eqb byte (Some b) ≡ eqb (unwrap_or byte 0) b
byte_test None b h = sym (ne_eqb 0 b (λ e. omega arith))
byte_test (Some x) b h = refl

sign_some : (o : Operator) → 0 < sign o
sign_some And = omega arith
sign_some Or = omega arith

pub behind : {s t u : List ℕ} {o : Operator} {i j : ℕ} (byte : Option ℕ) → t ≡ s → get_or t i 0 ≡ unwrap_or byte 0 → true ≡ option_eq eqb byte (Some (sign o))
    → u ≡ t → (i < length t → j ≡ past t (i + 1)) → Behind s o i u j
behind {t = t} {o = o} {i = i} byte e f h k l =
    let here : get_or t i 0 ≡ sign o = f ∙ eqb-true _ _ (sym (h ∙ byte_test byte (sign o) (sign_some o))) in
    let next = l (inside t i (sign o) here (sign_some o)) in
    rw (sym e) (record { here = here; same = k; next = next })

pub operator_inside : {s u : List ℕ} {o : Operator} {i j : ℕ} → Behind s o i u j → i < length s
operator_inside {s = s} {o = o} {i = i} b = inside s i (sign o) b.here (sign_some o)

pub not_behind : {s t : List ℕ} (o : Operator) (i : ℕ) (byte : Option ℕ) → t ≡ s → get_or t i 0 ≡ unwrap_or byte 0 → false ≡ option_eq eqb byte (Some (sign o))
    → get_or s i 0 ≡ sign o → ⊥
not_behind o i byte e f h q =
    both_ways _ (sym (h ∙ byte_test byte (sign o) (sign_some o))) (eq-eqb _ _ (sym f ∙ (ap (λ x. get_or x i 0) e ∙ q)))

grown : (mk : ℕ → ℕ → Part) (left before after after₁ after₂ : List Part) (right : ℕ → List Part) (m k v v₁ x y : ℕ)
    → m ≡ k → v ≡ x → v₁ ≡ m + y → after ≡ before ++ left → after₁ ≡ after ++ right m → after₂ ≡ after₁ ++ (mk v v₁ ∷ [])
    → after₂ ≡ before ++ ((left ++ right k) ++ (mk x (k + y) ∷ []))
grown mk left before after after₁ after₂ right m k v v₁ x y em ev ev₁ e e₁ e₂ = rw (e₂, e₁, e, ev₁, ev, em) (simp append_assoc)

module _ (s : List ℕ) (o : Operator) (items : List ℕ → Reader) where
  abbrev item : Reader
  item = items s

  pub going_start : (start : PartTable) (first i : ℕ) → Goes s o item start first i start first i
  going_start start first i n a before e f p =
      record { formula = a; turns = most_parts; same = refl; own = e; count = f; parts = p; enough = omega arith }

  module _ {n : ℕ} {a : Formula} {i : ℕ} {before : List Part} {after : PartTable} {number at : ℕ} (g : Going s o item n a i before after number at)
      (few : after.count ≤ most_parts) {u : List ℕ} {j : ℕ} (b : Behind s o at u j) where
    abbrev rest : (t : ℕ) × (g.turns ≡ t + 1) × (more s most_parts o item g.turns n g.formula at ≡ (item after.count (past s (at + 1)) >>= (λ c. room most_parts (after.count + size c.0) at (more s most_parts o item t n (join o g.formula c.0) c.1))))
    rest = turn s most_parts o item g.turns n g.formula at after.count g.count g.enough few b.here

    item_is : item after.count (past s (at + 1)) ≡ items u after.count j
    item_is = rw (b.same, b.next) refl

    pub going_bad : {r : Refusal PropertyFault} → items u after.count j ≡ Err r → more s most_parts o item most_parts n a i ≡ Err r
    going_bad h = g.same ∙ (rest.2 ∙ rw (item_is ∙ h) refl)

    module _ {after₁ : PartTable} {number₁ next : ℕ} (d : Made (items u after.count j) after after₁ number₁ next) where
      pub going_full : after₁.count ≡ most_parts → more s most_parts o item most_parts n a i ≡ refused TooManyParts at
      going_full f =
          let full : ltb (after.count + size d.formula) most_parts ≡ false = le-ltb _ _ (omega (arith, d.count)) in
          g.same ∙ (rest.2 ∙ rw (item_is ∙ d.read, full) refl)

      pub going_on : {p : Part} {after₂ : PartTable} {number₂ : ℕ} → p ≡ part o number number₁ → Filled after₁ p after₂ number₂ → Going s o item n a i before after₂ number₂ next
      going_on {p} {after₂} {number₂} is new =
          let small = new.small in
          let en = new.own in
          let ec = new.count in
          let f : ltb (after.count + size d.formula) most_parts ≡ true = lt-ltb _ _ (omega (arith, d.count)) in
          let w = join_root o g.formula d.formula in
          record {
            formula = join o g.formula d.formula;
            turns = rest.0;
            same = g.same ∙ (rest.2 ∙ rw (item_is ∙ d.read, f) refl);
            own = omega (arith, g.count, d.count, w);
            count = omega (arith, g.count, d.count, w);
            parts = grown (part o) (parts_of n g.formula) before (held after) (held after₁) (held after₂) (λ k. parts_of k d.formula) after.count (n + size g.formula)
                number number₁ (n + root g.formula) (root d.formula) g.count g.own d.own g.parts d.parts (new.parts ∙ ap (λ x. held after₁ ++ (x ∷ [])) is)
                ∙ ap (λ l. before ++ l) (sym (join_parts o n g.formula d.formula));
            enough = omega (arith, g.enough, rest.1, g.count, d.count);
          }

  -- a loop over the items behind the first one
  module _ {start mid after : PartTable} {at first end number here : ℕ} (made : Made (item start.count at) start mid first end) (goes : Goes s o item mid first end after number here) where
    abbrev going : Going s o item start.count made.formula end (held start) after number here
    going = goes start.count made.formula (held start) made.own made.count made.parts

    begun : joined s most_parts o item start.count at ≡ more s most_parts o item most_parts start.count made.formula end
    begun = rw made.read refl

    pub loop_end : (get_or s here 0 ≡ sign o → ⊥) → Made (joined s most_parts o item start.count at) start after number here
    loop_end q =
        record {
          formula = going.formula;
          read = begun ∙ (going.same ∙ last s most_parts o item going.turns start.count going.formula here q);
          own = going.own;
          count = going.count;
          parts = going.parts;
        }

    module _ (few : after.count ≤ most_parts) {u : List ℕ} {j : ℕ} (b : Behind s o here u j) where
      pub loop_bad : {r : Refusal PropertyFault} → items u after.count j ≡ Err r → joined s most_parts o item start.count at ≡ Err r
      loop_bad h = begun ∙ going_bad going few b h

      pub loop_full : {after₁ : PartTable} {number₁ next : ℕ} → Made (items u after.count j) after after₁ number₁ next → after₁.count ≡ most_parts
          → joined s most_parts o item start.count at ≡ refused TooManyParts here
      loop_full d f = begun ∙ going_full going few b d f
