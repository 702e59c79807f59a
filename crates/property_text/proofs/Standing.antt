-- Bytes that stand at a place of a text, and the number that they spell there.
use Rattle.std.proofs.Common.{◌≡◌, ℕ, ◌+◌, ◌*◌, ◌/◌, ◌%◌, ◌^◌, ◌<◌, List, [], ◌∷◌, ◌++◌, length, get_or, decimal, sym, refl, ap, ◌∙◌, subst, subst₂, inl, inr, append_assoc, add-zero, arith, length-append}
use lib.Seq.{get_or_at}
use Rattle.std.proofs.lemmas.Fmt.{decimal_digit, decimal_by_steps, decimal_nonempty, first_decimal, length-decimal-le}
use Rattle.std.proofs.lemmas.Bool.{cases_eq}
use Rattle.property_text.specs.Spelling.{Gap, Digit, Digits, Number}
use Rattle.property_text.specs.Spelling.Digits.{one_digit, one_more}
use Rattle.property_text.proofs.Places.{past_space, past_other}
use Rattle.property_text.proofs.Spelled.{gap_to}

-- these bytes, from i on
abbrev pub Stands : List ℕ → ℕ → List ℕ → Type 0
Stands s i [] = Unit {0}
Stands s i (x ∷ xs) = (get_or s i 0 ≡ x) × Stands s (i + 1) xs

module _ (s : List ℕ) where
  behind : (before xs : List ℕ) (i : ℕ) → length before ≡ i → s ≡ before ++ xs → Stands s i xs
  behind before [] i l e = tt
  behind before (x ∷ xs) i l e = (
    ap (λ t. get_or t i 0) e ∙ get_or_at before x xs 0 i l,
    behind (before ++ (x ∷ [])) xs (i + 1) (simp length-append (omega arith)) (e ∙ sym (append_assoc before (x ∷ []) xs)),
  )

  pub stands_whole : Stands s 0 s
  stands_whole = behind [] s 0 refl refl

  pub stands_both : (xs ys : List ℕ) (i : ℕ) → Stands s i (xs ++ ys) → Stands s i xs × Stands s (i + length xs) ys
  stands_both [] ys i h = (tt, rw (add-zero i) h)
  stands_both (x ∷ xs) ys i h =
      let r = stands_both xs ys (i + 1) h.1 in
      let e : (i + 1) + length xs ≡ i + length (x ∷ xs) = omega arith in
      ((h.0, r.0), subst (λ k. Stands s k ys) e r.1)

  stands_first : (xs : List ℕ) (i : ℕ) → 0 < length xs → Stands s i xs → get_or s i 0 ≡ get_or xs 0 0
  stands_first [] i h t = absurd (omega arith)
  stands_first (x ∷ xs) i h t = t.0

  pub no_space : (i : ℕ) → (get_or s i 0 ≡ 32 → ⊥) → Gap s i i
  no_space i h = gap_to s i i (past_other s i h)

  pub one_space : (i : ℕ) → get_or s i 0 ≡ 32 → (get_or s (i + 1) 0 ≡ 32 → ⊥) → Gap s i (i + 1)
  one_space i e h = gap_to s i (i + 1) (past_space s i e ∙ past_other s (i + 1) h)

  -- a number begins with no space
  digits_solid : {i j v : ℕ} → Digits s i j v → get_or s i 0 ≡ 32 → ⊥
  digits_solid (one_digit g) e = omega (arith, g.stands)
  digits_solid (one_more w g) e = digits_solid w e

  pub number_solid : {i v e : ℕ} → Number s i v e → get_or s i 0 ≡ 32 → ⊥
  number_solid n e = digits_solid n.written e

  digits_stand : (i v : ℕ) → v < 2 ^ 64 → Stands s i (decimal v) → Digits s i (i + length (decimal v)) v
  digits_stand i = decimal_by_steps (λ n ds. Stands s i ds → Digits s i (i + length ds) n)
      (λ n h t. one_digit (record { small = h; stands = t.0 }))
      (λ n ds h w t.
      let b = stands_both ds ((48 + n % 10) ∷ []) i t in
      let e : (i + length ds) + 1 ≡ i + length (ds ++ ((48 + n % 10) ∷ [])) = simp length-append (omega arith) in
      let f : n / 10 * 10 + n % 10 ≡ n = omega arith in
      subst₂ (λ k v. Digits s i k v) e f (one_more (w b.0) (record { small = omega arith; stands = b.1.0 })))

  -- up to where no digit follows
  pub number_stands : (i v e : ℕ) → v < 10 ^ 5 → Stands s i (decimal v) → ((d : ℕ) → Digit s (i + length (decimal v)) d → ⊥)
      → Gap s (i + length (decimal v)) e → Number s i v e
  number_stands i v e h t all g =
      let w : v < 2 ^ 64 = omega arith in
      record {
        end = i + length (decimal v);
        written = digits_stand i v w t;
        all = all;
        few = omega (arith, length-decimal-le 5 v (omega arith) h w);
        needed = λ z. elim (cases_eq v 0) [
          | inl q ↦ ap (λ x. i + length x) (decimal_digit v (omega arith))
          | inr q ↦ absurd (omega (arith, z.stands, stands_first (decimal v) i (decimal_nonempty v w) t, first_decimal v (omega arith) w))
        ];
        gap = g;
      }
