-- The whole text is read exactly where it spells a property.
use Rattle.std.proofs.Common.{◌≡◌, ℕ, ◌≤◌, true, ◌&&◌, eqb, ltb, leb, List, length, Ok, Err, sym, refl, ap, ◌∙◌, subst, inl, inr, arith}
use Rattle.std.proofs.lemmas.Bool.{ltb-false, leb-true, eqb-true, le-ltb, le-leb, eq-eqb, and_parts, cases_Bool}
use Rattle.refusal.specs.declared.Refusal.{Refusal}
use Rattle.property_parts.specs.Formula.{size}
use Rattle.property_parts.specs.Parts.{most_parts}
use Rattle.property_text.specs.Faults.{Read}
use Rattle.property_text.specs.Tokens.{past, byte, at_most, number}
use Rattle.property_text.specs.Spelling.{Byte, AtMost, Number}
use Rattle.property_text.specs.declared.fault.PropertyFault.{PropertyFault}
use Rattle.property_text.proofs.Places.{gap_past, gap_is}
use Rattle.property_text.proofs.Read.{err_ok, then_ok, test_ok}
use Rattle.property_text.proofs.Spelled.{byte_is, byte_was, at_most_is, at_most_was}
use Rattle.property_text.proofs.Written.{number_is, number_was}
use Rattle.formula_reader.specs.Reading.{state}
use Rattle.formula_reader.proofs.Complete.{state_spelled}
use Rattle.formula_reader.proofs.Sound.{state_read}
use Rattle.property.specs.Limits.{most_bytes, most_lower, most_hops, most_open}
use Rattle.property.specs.Asked.{Asked}
use Rattle.property.specs.Grammar.{Spelled}
use Rattle.property.specs.Reading.{lower, opening, until, closing, whole, read}
use Rattle.property.specs.declared.ceiling.Ceiling.{Ceiling}

pub read_short : (s : List ℕ) → length s ≤ most_bytes → read s ≡ whole s (past s 0)
unfolding read
read_short s h = rw (le-ltb most_bytes (length s) h)

carry : {A : Type 0} {a b : A} (P : A → Type 0) → ◌≡◌ {A = Read A} (Ok a) (Ok b) → P a → P b
carry {A} {a} {b} P e p = let x : a ≡ b = cc in subst P x p

module _ (s : List ℕ) where
  record Lowered (upper i : ℕ) (v : ℕ × ℕ) : Type 0 where
    is_lower : Number s i v.0 v.1
    some : 1 ≤ v.0
    small : v.0 ≤ most_lower
    fraction : upper ≤ v.0

  lower_was : (upper i : ℕ) (v : ℕ × ℕ) → lower s upper i ≡ Ok v → Lowered upper i v
  lower_was upper i v e =
      let h = then_ok (number s i) _ e in
      let w = h.0 in
      let c = test_ok _ (leb 1 w.0 && (leb w.0 most_lower && leb upper w.0)) _ h.2 in
      let p = and_parts (leb 1 w.0) (leb w.0 most_lower && leb upper w.0) c.0 in
      let q = and_parts (leb w.0 most_lower) (leb upper w.0) p.1 in
      carry (λ v. Lowered upper i v) c.1
      (record { is_lower = number_was s i w.0 w.1 h.1; some = leb-true _ _ p.0; small = leb-true _ _ q.0; fraction = leb-true _ _ q.1 })

  lower_is : (upper i v j : ℕ) → Number s i v j → 1 ≤ v → v ≤ most_lower → upper ≤ v → lower s upper i ≡ Ok (v, j)
  lower_is upper i v j n a b c = rw (number_is s i v j n, le-leb 1 v a, le-leb v most_lower b, le-leb upper v c)

  record Opened (i : ℕ) (f : Ceiling × ℕ) : Type 0 where
    p₁ : ℕ
    p₂ : ℕ
    p₃ : ℕ
    p₄ : ℕ
    p₅ : ℕ
    is_p : Byte s 80 i p₁
    is_at_most : AtMost s p₁ p₂
    is_upper : Number s p₂ f.0.upper p₃
    is_line : Byte s 47 p₃ p₄
    below : Lowered f.0.upper p₄ (f.0.lower, p₅)
    is_open : Byte s 91 p₅ f.1

  opening_was : (i : ℕ) (f : Ceiling × ℕ) → opening s i ≡ Ok f → Opened i f
  opening_was i f e =
      let h₁ = then_ok (byte s 80 i) _ e in
      let h₂ = then_ok (at_most s h₁.0) _ h₁.2 in
      let h₃ = then_ok (number s h₂.0) _ h₂.2 in
      let h₄ = then_ok (byte s 47 h₃.0.1) _ h₃.2 in
      let h₅ = then_ok (lower s h₃.0.0 h₄.0) _ h₄.2 in
      let h₆ = then_ok (byte s 91 h₅.0.1) _ h₅.2 in
      carry (λ f. Opened i f) h₆.2
      (record {
        p₁ = h₁.0;
        p₂ = h₂.0;
        p₃ = h₃.0.1;
        p₄ = h₄.0;
        p₅ = h₅.0.1;
        is_p = byte_was s 80 i _ h₁.1;
        is_at_most = at_most_was s _ _ h₂.1;
        is_upper = number_was s _ _ _ h₃.1;
        is_line = byte_was s 47 _ _ h₄.1;
        below = lower_was h₃.0.0 h₄.0 h₅.0 h₅.1;
        is_open = byte_was s 91 _ _ h₆.1;
      })

  record Bounded (i : ℕ) (v : ℕ × ℕ) : Type 0 where
    p₈ : ℕ
    p₉ : ℕ
    is_until : Byte s 85 i p₈
    is_within : AtMost s p₈ p₉
    is_hops : Number s p₉ v.0 v.1
    near : v.0 ≤ most_hops

  until_was : (i : ℕ) (v : ℕ × ℕ) → until s i ≡ Ok v → Bounded i v
  until_was i v e =
      let h₁ = then_ok (byte s 85 i) _ e in
      let h₂ = then_ok (at_most s h₁.0) _ h₁.2 in
      let h₃ = then_ok (number s h₂.0) _ h₂.2 in
      let c = test_ok _ (leb h₃.0.0 most_hops) _ h₃.2 in
      carry (λ v. Bounded i v) c.1
      (record { p₈ = h₁.0; p₉ = h₂.0; is_until = byte_was s 85 i _ h₁.1; is_within = at_most_was s _ _ h₂.1; is_hops = number_was s _ _ _ h₃.1; near = leb-true _ _ c.0 })

  closing_was : (i : ℕ) → closing s i ≡ Ok tt → Byte s 93 i (length s)
  closing_was i e =
      let h = then_ok (byte s 93 i) _ e in
      let c = test_ok _ (eqb h.0 (length s)) _ h.2 in
      subst (λ k. Byte s 93 i k) (eqb-true _ _ c.0) (byte_was s 93 i _ h.1)

  whole_was : (a : Asked) → length s ≤ most_bytes → whole s (past s 0) ≡ Ok a → Spelled s a
  whole_was a short e =
      let h₀ = then_ok (opening s (past s 0)) _ e in
      let h₁ = then_ok (state s most_parts most_open 0 h₀.0.1) _ h₀.2 in
      let h₂ = then_ok (until s h₁.0.1) _ h₁.2 in
      let h₃ = then_ok (state s most_parts most_open (size h₁.0.0) h₂.0.1) _ h₂.2 in
      let h₄ = then_ok (closing s h₃.0.1) _ h₃.2 in
      let o = opening_was (past s 0) h₀.0 h₀.1 in
      let g = state_read s most_open 0 h₀.0.1 h₁.0 h₁.1 in
      let u = until_was h₁.0.1 h₂.0 h₂.1 in
      let t = state_read s most_open (size h₁.0.0) h₂.0.1 h₃.0 h₃.1 in
      carry (λ a. Spelled s a) h₄.2
      (record {
        p₀ = past s 0;
        p₁ = o.p₁;
        p₂ = o.p₂;
        p₃ = o.p₃;
        p₄ = o.p₄;
        p₅ = o.p₅;
        p₆ = h₀.0.1;
        p₇ = h₁.0.1;
        p₈ = u.p₈;
        p₉ = u.p₉;
        p₁₀ = h₂.0.1;
        p₁₁ = h₃.0.1;
        short = short;
        limited = record { some = o.below.some; small = o.below.small; fraction = o.below.fraction; near = u.near; few = t.fits };
        blank = gap_past s 0;
        is_p = o.is_p;
        is_at_most = o.is_at_most;
        is_upper = o.is_upper;
        is_line = o.is_line;
        is_lower = o.below.is_lower;
        is_open = o.is_open;
        is_ground = g.spelled;
        is_until = u.is_until;
        is_within = u.is_within;
        is_hops = u.is_hops;
        is_goal = t.spelled;
        is_closed = closing_was h₃.0.1 h₄.1;
      })

  pub spelled_is : (a : Asked) → Spelled s a → read s ≡ Ok a
  spelled_is a k =
      let l = k.limited in
      let few = l.few in
      let ended : eqb (length s) (length s) ≡ true = eq-eqb _ _ refl in
      let begins : past s 0 ≡ k.p₀ = gap_is s 0 k.p₀ k.blank in
      let h₀ : opening s k.p₀ ≡ Ok (a.ceiling, k.p₆) =
      rw (
        byte_is s 80 _ _ k.is_p,
        at_most_is s _ _ k.is_at_most,
        number_is s _ _ _ k.is_upper,
        byte_is s 47 _ _ k.is_line,
        lower_is a.ceiling.upper _ _ _ k.is_lower l.some l.small l.fraction,
        byte_is s 91 _ _ k.is_open,
      ) refl in
      let h₁ : state s most_parts most_open 0 k.p₆ ≡ Ok (a.ground_formula, k.p₇) =
      state_spelled s most_parts most_open 0 _ _ a.ground_formula k.is_ground (λ e. absurd (omega (arith, e, k.is_until.stands))) (λ e. absurd (omega (arith, e, k.is_until.stands))) (omega arith) in
      let h₂ : until s k.p₇ ≡ Ok (a.hops, k.p₁₀) =
      rw (byte_is s 85 _ _ k.is_until, at_most_is s _ _ k.is_within, number_is s _ _ _ k.is_hops, le-leb a.hops most_hops l.near) refl in
      let h₃ : state s most_parts most_open (size a.ground_formula) k.p₁₀ ≡ Ok (a.goal_formula, k.p₁₁) =
      state_spelled s most_parts most_open (size a.ground_formula) _ _ a.goal_formula k.is_goal (λ e. absurd (omega (arith, e, k.is_closed.stands))) (λ e. absurd (omega (arith, e, k.is_closed.stands))) few in
      let h₄ : closing s k.p₁₁ ≡ Ok tt = rw (byte_is s 93 _ _ k.is_closed, ended) refl in
      read_short s k.short ∙ (ap (λ i. whole s i) begins ∙ rw (h₀, h₁, h₂, h₃, h₄) refl)

pub spelled_was : (s : List ℕ) (a : Asked) → read s ≡ Ok a → Spelled s a
unfolding read
spelled_was s a e = elim (cases_Bool (ltb most_bytes (length s))) [ inl t ↦ err_ok (rw t at e) | inr t ↦ whole_was s a (ltb-false _ _ t) (rw t at e) ]

-- a text spells one property at most
pub spelled_one : (s : List ℕ) (a b : Asked) → Spelled s a → Spelled s b → b ≡ a
spelled_one s a b p q = let e : ◌≡◌ {A = Read Asked} (Ok b) (Ok a) = sym (spelled_is s b q) ∙ spelled_is s a p in cc

pub refused_none : (s : List ℕ) (r : Refusal PropertyFault) → read s ≡ Err r → (a : Asked) → Spelled s a → ⊥
refused_none s r e a p = err_ok (sym e ∙ spelled_is s a p)
