-- What is read from a text is what it spells.
use Rattle.std.proofs.Common.{◌≡◌, ℕ, zero, suc, ◌+◌, ◌-◌, ◌<◌, ◌≤◌, true, eqb, ltb, leb, List, get_or, Ok, refl, subst, inl, inr, arith}
use Rattle.std.proofs.lemmas.Bool.{ltb-true, leb-true, eqb-true, and_parts, cases_Bool}
use Rattle.property_parts.specs.Formula.{Formula, top, bottom, root, size}
use Rattle.property_parts.specs.Parts.{most_parts}
use Rattle.property_text.specs.Faults.{Read}
use Rattle.property_text.specs.Tokens.{past, byte}
use Rattle.property_text.specs.Spelling.{Byte}
use Rattle.property_text.proofs.Places.{gap_past}
use Rattle.property_text.proofs.Read.{err_ok, then_ok, test_ok}
use Rattle.property_text.proofs.Spelled.{byte_was}
use Rattle.formula_reader.specs.Reading.{Reader, lettered, room, single, negated, more, nested}
use Rattle.formula_reader.specs.Reading as reading
use Rattle.formula_reader.specs.Operators.{sign, join}
use Rattle.formula_reader.specs.declared.operator.Operator.{Operator}
use Rattle.formula_reader.specs.declared.operator.Operator.TheVariants.{And, Or}
use Rattle.property_parts.specs.declared.kinds.Kind.{Kind}
use Rattle.property_parts.specs.declared.kinds.Kind.TheVariants.{State, Term, Factor}
use Rattle.formula_reader.specs.Grammar.{Spells}
use Rattle.formula_reader.specs.Grammar.Spells.{a_letter, no_such_letter, truth, falsehood, in_parentheses, one_factor, one_more_factor, one_term, one_more_term}
use Rattle.formula_reader.proofs.Going.{join_root}

room_ok : {A : Type 0} {a : A} (n p : ℕ) (g : Read A) → room most_parts n p g ≡ Ok a → (n < most_parts) × (g ≡ Ok a)
room_ok n p g e = let q = test_ok _ (ltb n most_parts) g e in (ltb-true n most_parts q.0, q.1)

-- spelled, and within the table where n parts are filled
pub record Sound (s : List ℕ) (k : Kind) (d n i : ℕ) (a : Formula × ℕ) : Type 0 where
  pub spelled : Spells s k d i a.1 a.0
  pub fits : n + size a.0 ≤ most_parts

same : {s : List ℕ} {k : Kind} {d n i : ℕ} {a b : Formula × ℕ} → ◌≡◌ {A = Read (Formula × ℕ)} (Ok a) (Ok b) → Sound s k d n i a → Sound s k d n i b
same {s} {k} {d} {n} {i} {a} {b} e p = let x : a ≡ b = cc in subst (λ f. Sound s k d n i f) x p

module _ (s : List ℕ) where
  here : (b i : ℕ) → get_or s i 0 ≡ b → Byte s b i (past s (i + 1))
  here b i e = record { stands = e; gap = gap_past s (i + 1) }

  lettered_is : (i : ℕ) → lettered (get_or s i 0) ≡ true → (get_or s i 0 - 97 < 16) × (get_or s i 0 ≡ 97 + (get_or s i 0 - 97))
  lettered_is i q =
      let p = and_parts (leb 97 (get_or s i 0)) (leb (get_or s i 0) 112) q in
      let l = leb-true 97 (get_or s i 0) p.0 in
      let u = leb-true (get_or s i 0) 112 p.1 in
      (omega arith, omega arith)

  single_sound : (d n i : ℕ) (f : Formula) (a : Formula × ℕ) → root f ≡ 0 → Spells s Factor d i (past s (i + 1)) f → single s most_parts f n i ≡ Ok a → Sound s Factor d n i a
  single_sound d n i f a z p e = let r = room_ok n i _ e in same r.1 (record { spelled = p; fits = omega (arith, r.0) })

  negated_sound : (d n p i : ℕ) (a : Formula × ℕ) → Byte s 33 p i → negated s most_parts n p i ≡ Ok a → Sound s Factor d n p a
  negated_sound d n p i a t e =
      let c = test_ok _ (lettered (get_or s i 0)) _ e in
      let r₁ = room_ok n i _ c.1 in
      let r₂ = room_ok (n + 1) p _ r₁.1 in
      let l = lettered_is i c.0 in
      same r₂.1 (record { spelled = no_such_letter (get_or s i 0 - 97) l.0 t (here _ i l.1); fits = omega (arith, r₂.0) })

  -- a formula in parentheses, which begins at i
  pub Inner : ℕ → Type 0
  Inner d = (n i : ℕ) (a : Formula × ℕ) → get_or s i 0 ≡ 40 → nested s most_parts d n i ≡ Ok a → Sound s Factor d n i a

  factor_sound : (d : ℕ) → Inner d → (n i : ℕ) (a : Formula × ℕ) → reading.factor s most_parts d n i ≡ Ok a → Sound s Factor d n i a
  unfolding Inner
  factor_sound d inner n i a e = elim (cases_Bool (lettered (get_or s i 0))) [
    | inl q ↦ let l = lettered_is i q in single_sound d n i _ a refl (a_letter (get_or s i 0 - 97) l.0 (here _ i l.1)) (rw q at e)
    | inr q ↦ let e₁ = rw q at e in elim (cases_Bool (eqb (get_or s i 0) 33)) [
      | inl q₁ ↦ negated_sound d n i _ a (here 33 i (eqb-true _ _ q₁)) (rw q₁ at e₁)
      | inr q₁ ↦ let e₂ = rw q₁ at e₁ in elim (cases_Bool (eqb (get_or s i 0) 84)) [
        | inl q₂ ↦ single_sound d n i top a refl (truth (here 84 i (eqb-true _ _ q₂))) (rw q₂ at e₂)
        | inr q₂ ↦ let e₃ = rw q₂ at e₂ in elim (cases_Bool (eqb (get_or s i 0) 70)) [
          | inl q₃ ↦ single_sound d n i bottom a refl (falsehood (here 70 i (eqb-true _ _ q₃))) (rw q₃ at e₃)
          | inr q₃ ↦ let c = test_ok _ (eqb (get_or s i 0) 40) _ (rw q₃ at e₃) in inner n i a (eqb-true _ _ c.0) c.1
        ]
      ]
    ]
  ]

  -- items joined by an operator
  more_sound : (o : Operator) (item : Reader) (κ ι : Kind) (d : ℕ)
      → ((i j k l : ℕ) (x y : Formula) → Spells s κ d i j x → Byte s (sign o) j k → Spells s ι d k l y → Spells s κ d i l (join o x y))
      → ((n i : ℕ) (a : Formula × ℕ) → item n i ≡ Ok a → Sound s ι d n i a)
      → (t n i j : ℕ) (a : Formula) (c : Formula × ℕ) → Sound s κ d n i (a, j) → more s most_parts o item t n a j ≡ Ok c → Sound s κ d n i c
  unfolding more
  more_sound o item κ ι d joins items zero n i j a c p e = same e p
  more_sound o item κ ι d joins items (suc t) n i j a c p e = elim (cases_Bool (eqb (get_or s j 0) (sign o))) [
    | inl q ↦
        let h = then_ok (item (n + size a) (past s (j + 1))) _ (rw q at e) in
        let b = h.0.0 in
        let r = room_ok ((n + size a) + size b) j _ h.2 in
        let y = items (n + size a) (past s (j + 1)) h.0 h.1 in
        let u = join_root o a b in
        more_sound o item κ ι d joins items t n i h.0.1 (join o a b) c
        (record { spelled = joins i j (past s (j + 1)) h.0.1 a b p.spelled (here (sign o) j (eqb-true _ _ q)) y.spelled; fits = omega (arith, u, r.0) }) r.1
    | inr q ↦ same (rw q at e) p
  ]

  term_sound : (d : ℕ) → Inner d → (n i : ℕ) (a : Formula × ℕ) → reading.term s most_parts d n i ≡ Ok a → Sound s Term d n i a
  term_sound d inner n i a e =
      let h = then_ok (reading.factor s most_parts d n i) _ e in
      let p = factor_sound d inner n i h.0 h.1 in
      more_sound And (reading.factor s most_parts d) Term Factor d (λ i j k l a b x t y. one_more_factor x t y) (factor_sound d inner) most_parts n i h.0.1 h.0.0 a
      (record { spelled = one_factor p.spelled; fits = p.fits }) h.2

  state_sound : (d : ℕ) → Inner d → (n i : ℕ) (a : Formula × ℕ) → reading.state s most_parts d n i ≡ Ok a → Sound s State d n i a
  state_sound d inner n i a e =
      let h = then_ok (reading.term s most_parts d n i) _ e in
      let p = term_sound d inner n i h.0 h.1 in
      more_sound Or (reading.term s most_parts d) State Term d (λ i j k l a b x t y. one_more_term x t y) (term_sound d inner) most_parts n i h.0.1 h.0.0 a
      (record { spelled = one_term p.spelled; fits = p.fits }) h.2

  inner_sound : (d : ℕ) → Inner d
  unfolding Inner nested
  inner_sound zero n i a q e = err_ok e
  inner_sound (suc d) n i a q e =
      let h = then_ok (reading.state s most_parts d n (past s (i + 1))) _ e in
      let p = state_sound d (inner_sound d) n (past s (i + 1)) h.0 h.1 in
      let b = then_ok (byte s 41 h.0.1) _ h.2 in
      same b.2 (record { spelled = in_parentheses (here 40 i q) p.spelled (byte_was s 41 h.0.1 b.0 b.1); fits = p.fits })

-- a state that was read is one that the text spells, with parts that fit behind the n that were filled
pub state_read : (s : List ℕ) (d n i : ℕ) (a : Formula × ℕ) → reading.state s most_parts d n i ≡ Ok a → Sound s State d n i a
state_read s d n i a e = state_sound s d (inner_sound s d) n i a e
