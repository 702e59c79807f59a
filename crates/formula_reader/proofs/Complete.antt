-- What a text spells is what is read from it.
use Rattle.std.proofs.Common.{◌≡◌, ℕ, suc, ◌+◌, ◌-◌, ◌<◌, ◌≤◌, true, ltb, List, get_or, Ok, sym, refl, ap, ◌∙◌, add_comm, suc-add, arith}
use Rattle.std.proofs.lemmas.Bool.{lt-ltb}
use Rattle.property_parts.specs.Formula.{Formula, letter, no_letter, top, bottom, size}
use Rattle.property_text.specs.Faults.{Read}
use Rattle.property_text.specs.Spelling.{Byte}
use Rattle.property_text.proofs.Places.{gap_is}
use Rattle.property_text.proofs.Spelled.{byte_is}
use Rattle.formula_reader.specs.Reading.{Reader, single, negated, factor_by, more, nested}
use Rattle.formula_reader.specs.Reading as reading
use Rattle.formula_reader.specs.Operators.{sign, join}
use Rattle.formula_reader.specs.declared.operator.Operator.{Operator}
use Rattle.formula_reader.specs.declared.operator.Operator.TheVariants.{And, Or}
use Rattle.property_parts.specs.declared.kinds.Kind.{Kind}
use Rattle.property_parts.specs.declared.kinds.Kind.TheVariants.{State, Term, Factor}
use Rattle.formula_reader.specs.Grammar.{Spells}
use Rattle.formula_reader.specs.Grammar.Spells.{a_letter, no_such_letter, truth, falsehood, in_parentheses, one_factor, one_more_factor, one_term, one_more_term}
use Rattle.formula_reader.proofs.Going.{join_root, turn, last}
use Rattle.formula_reader.proofs.Steps.{is_lettered, factor_letter, factor_not, factor_top, factor_bottom, factor_open, inside_closed}

module _ (s : List ℕ) (full : ℕ) where
  single_reads : (a : Formula) (b n i j : ℕ) → Byte s b i j → n < full → single s full a n i ≡ Ok (a, j)
  single_reads a b n i j t k = rw (lt-ltb n full k, gap_is s (i + 1) j t.gap)

  letter_reads : (inner : Reader) (n i j l : ℕ) → l < 16 → Byte s (97 + l) i j → n < full → factor_by s full inner n i ≡ Ok (letter l, j)
  letter_reads inner n i j l h t k =
      let stands = t.stands in
      let e : get_or s i 0 - 97 ≡ l = omega arith in
      factor_letter s full inner n i (omega arith) (omega arith) ∙ (ap (λ x. single s full (letter x) n i) e ∙ single_reads (letter l) (97 + l) n i j t k)

  no_letter_reads : (inner : Reader) (n i j k l : ℕ) → l < 16 → Byte s 33 i j → Byte s (97 + l) j k → n + 1 < full → factor_by s full inner n i ≡ Ok (no_letter l, k)
  no_letter_reads inner n i j k l h t u r =
      let stands = u.stands in
      let e : get_or s j 0 - 97 ≡ l = omega arith in
      let q : n < full = omega arith in
      factor_not s full inner n i t.stands ∙ (ap (λ p. negated s full n i p) (gap_is s (i + 1) j t.gap)
      ∙ rw (is_lettered (get_or s j 0) (omega arith) (omega arith), lt-ltb n full q, lt-ltb (n + 1) full r, e, gap_is s (j + 1) k u.gap))

  -- what is read: of a term or a state the items so far, with turns enough for the rest
  abbrev Reads : Kind → (d i j : ℕ) (a : Formula) → Type 0
  Reads Factor d i j a = (n : ℕ) → n + size a ≤ full → reading.factor s full d n i ≡ Ok (a, j)
  Reads Term d i j a = (n : ℕ) → n + size a ≤ full
      → (t : ℕ) × (reading.term s full d n i ≡ more s full And (reading.factor s full d) t n a j) × (full < t + (n + size a))
  Reads State d i j a = (get_or s j 0 ≡ 38 → ⊥) → (n : ℕ) → n + size a ≤ full
      → (t : ℕ) × (reading.state s full d n i ≡ more s full Or (reading.term s full d) t n a j) × (full < t + (n + size a))

  -- one more item
  joins : (o : Operator) (item : Reader) (n j k l : ℕ) (a c : Formula) (g : Read (Formula × ℕ)) → n + size (join o a c) ≤ full
      → (t : ℕ) × (g ≡ more s full o item t n a j) × (full < t + (n + size a)) → Byte s (sign o) j k → item (n + size a) k ≡ Ok (c, l)
      → (t : ℕ) × (g ≡ more s full o item t n (join o a c) l) × (full < t + (n + size (join o a c)))
  joins o item n j k l a c g h (t, e, enough) tok r =
      let u = join_root o a c in
      let q = turn s full o item t n a j (n + size a) refl enough (omega arith) tok.stands in
      let fits : ltb ((n + size a) + size c) full ≡ true = lt-ltb _ _ (omega arith) in
      (q.0, e ∙ (q.2 ∙ rw (gap_is s (j + 1) k tok.gap, r, fits) refl), omega arith)

  term_reads : (d n i j : ℕ) (a : Formula) → Reads Term d i j a → n + size a ≤ full → (get_or s j 0 ≡ 38 → ⊥) → reading.term s full d n i ≡ Ok (a, j)
  term_reads d n i j a p r after = let q = p n r in q.1 ∙ last s full And (reading.factor s full d) q.0 n a j after

  state_reads : (d n i j : ℕ) (a : Formula) → Reads State d i j a → n + size a ≤ full → (get_or s j 0 ≡ 38 → ⊥) → (get_or s j 0 ≡ 124 → ⊥) → reading.state s full d n i ≡ Ok (a, j)
  state_reads d n i j a p r after after₂ = let q = p after n r in q.1 ∙ last s full Or (reading.term s full d) q.0 n a j after₂

  parentheses_read : (d n i j k l : ℕ) (a : Formula) → Byte s 40 i j → Reads State d j k a → n + size a ≤ full → Byte s 41 k l → reading.factor s full (suc d) n i ≡ Ok (a, l)
  parentheses_read d n i j k l a t p r u =
      let e : suc d - 1 ≡ d = omega arith in
      let h = state_reads d n j k a p r (λ e. absurd (omega (arith, e, u.stands))) (λ e. absurd (omega (arith, e, u.stands))) in
      factor_open s full (nested s full (suc d)) n i t.stands
      ∙ inside_closed s full n i (suc d) (omega arith) refl (sym (gap_is s (i + 1) j t.gap)) refl a k (ap (λ x. reading.state s full x n j) e ∙ h) l (sym (byte_is s 41 k l u))

  reads : {k : Kind} {d i j : ℕ} {a : Formula} → Spells s k d i j a → Reads k d i j a
  reads (a_letter {d} l h t) = λ n r. letter_reads (nested s full d) n _ _ l h t (omega arith)
  reads (no_such_letter {d} l h t u) = λ n r. no_letter_reads (nested s full d) n _ _ _ l h t u (omega arith)
  reads (truth {d} {i} {j} t) = λ n r. factor_top s full (nested s full d) n i t.stands ∙ single_reads top 84 n i j t (omega arith)
  reads (falsehood {d} {i} {j} t) = λ n r. factor_bottom s full (nested s full d) n i t.stands ∙ single_reads bottom 70 n i j t (omega arith)
  reads (in_parentheses t p u) = λ n r. parentheses_read _ n _ _ _ _ _ t (reads p) r u
  reads (one_factor p) = λ n r. (full, rw (reads p n r) refl, omega arith)
  reads (one_more_factor {d} {a = a} {b = b} p t q) = λ n r.
      joins And (reading.factor s full d) n _ _ _ a b _ r (reads p n (omega arith)) t (reads q (n + size a) (omega arith))
  reads (one_term p) = λ after n r. (full, rw (term_reads _ n _ _ _ (reads p) r after) refl, omega arith)
  reads (one_more_term {d} {a = a} {b = b} p t q) = λ after n r.
      joins Or (reading.term s full d) n _ _ _ a b _ r (reads p (λ e. absurd (omega (arith, e, t.stands))) n (omega arith)) t
      (term_reads d (n + size a) _ _ b (reads q) (omega arith) after)

  -- where what follows a state is no `&` and no `|`
  pub state_spelled : (d n i j : ℕ) (a : Formula) → Spells s State d i j a → (get_or s j 0 ≡ 38 → ⊥) → (get_or s j 0 ≡ 124 → ⊥) → n + size a ≤ full → reading.state s full d n i ≡ Ok (a, j)
  state_spelled d n i j a p after after₂ r = state_reads d n i j a (reads p) r after after₂

-- more parentheses may be open
deeper : (s : List ℕ) (e : ℕ) {k : Kind} {d i j : ℕ} {a : Formula} → Spells s k d i j a → Spells s k (d + e) i j a
deeper s e (a_letter l h t) = a_letter l h t
deeper s e (no_such_letter l h t u) = no_such_letter l h t u
deeper s e (truth t) = truth t
deeper s e (falsehood t) = falsehood t
deeper s e (in_parentheses {d} t p u) = rw (suc-add d e) (in_parentheses t (deeper s e p) u)
deeper s e (one_factor p) = one_factor (deeper s e p)
deeper s e (one_more_factor p t q) = one_more_factor (deeper s e p) t (deeper s e q)
deeper s e (one_term p) = one_term (deeper s e p)
deeper s e (one_more_term p t q) = one_more_term (deeper s e p) t (deeper s e q)

-- from one place on a text spells one formula at most, of whatever size, up to one place, where what follows is no `&` and no `|`
pub one_formula : (s : List ℕ) (d e i j k : ℕ) (a b : Formula) → Spells s State d i j a → Spells s State e i k b
    → (get_or s j 0 ≡ 38 → ⊥) → (get_or s j 0 ≡ 124 → ⊥) → (get_or s k 0 ≡ 38 → ⊥) → (get_or s k 0 ≡ 124 → ⊥) → (a ≡ b) × (j ≡ k)
one_formula s d e i j k a b p q after after₂ after₃ after₄ =
    let x = state_spelled s (size a + size b) (d + e) 0 i j a (deeper s e p) after after₂ (omega arith) in
    let q' : Spells s State (d + e) i k b = rw (add_comm d e) (deeper s d q) in
    let y = state_spelled s (size a + size b) (d + e) 0 i k b q' after₃ after₄ (omega arith) in
    let z : ◌≡◌ {A = Formula × ℕ} (a, j) (b, k) = let w = sym x ∙ y in cc in
    (ap (λ x. x.0) z, ap (λ x. x.1) z)
