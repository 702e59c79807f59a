-- Where the next token begins.
use Rattle.std.proofs.Common.{◌≡◌, ℕ, zero, suc, ◌+◌, ◌<◌, ◌≤◌, false, eqb, List, length, get_or, sym, ap, ◌∙◌, inl, inr, add-one, arith, drop_of_length-le, drop-cons}
use Rattle.std.proofs.lemmas.List.{get_or_past}
use Rattle.std.proofs.lemmas.Bool.{ne_eqb, cases_lt, cases_eq}
use Rattle.property_text.specs.Tokens.{past}
use Rattle.property_text.specs.Spelling.{Gap}

pub inside : (s : List ℕ) (k b : ℕ) → get_or s k 0 ≡ b → 0 < b → k < length s
inside s k b e h = elim (cases_lt k (length s)) [ inl l ↦ l | inr l ↦ absurd (omega (arith, get_or_past s k 0 l, e)) ]

pub past_space : (s : List ℕ) (k : ℕ) → get_or s k 0 ≡ 32 → past s k ≡ past s (k + 1)
unfolding past
past_space s k e = let h = inside s k 32 e (omega arith) in rw (drop-cons s k 0 h, e, add-one) (omega arith)

pub past_other : (s : List ℕ) (k : ℕ) → (get_or s k 0 ≡ 32 → ⊥) → past s k ≡ k
unfolding past
past_other s k ne = elim (cases_lt k (length s)) [
  | inl h ↦ let f : eqb (get_or s k 0) 32 ≡ false = ne_eqb _ _ ne in rw (drop-cons s k 0 h, f) (omega arith)
  | inr h ↦ rw (drop_of_length-le s h) (omega arith)
]

here : (s : List ℕ) (i : ℕ) → (get_or s i 0 ≡ 32 → ⊥) → Gap s i i
here s i n = record { forward = omega arith; spaces = λ k a b. absurd (omega arith); ended = n }

on : (s : List ℕ) (i j : ℕ) → get_or s i 0 ≡ 32 → Gap s (i + 1) j → Gap s i j
on s i j e g =
    record {
      forward = omega (arith, g.forward);
      spaces = λ k a b. elim (cases_eq i k) [ inl q ↦ ap (λ x. get_or s x 0) (sym q) ∙ e | inr q ↦ g.spaces k (omega arith) b ];
      ended = g.ended;
    }

past_within : (n : ℕ) (s : List ℕ) (i : ℕ) → length s ≤ i + n → Gap s i (past s i)
past_within n s i h = elim (cases_eq (get_or s i 0) 32) [ inl e ↦ more n s i h e | inr e ↦ rw (past_other s i e) (here s i e) ]
  where
    more : (n : ℕ) (s : List ℕ) (i : ℕ) → length s ≤ i + n → get_or s i 0 ≡ 32 → Gap s i (past s i)
    more zero s i h e = absurd (omega (arith, inside s i 32 e (omega arith)))
    more (suc n) s i h e = rw (past_space s i e) (on s i (past s (i + 1)) e
        (elim (cases_eq (get_or s (i + 1) 0) 32) [ inl f ↦ more n s (i + 1) (omega arith) f | inr f ↦ rw (past_other s (i + 1) f) (here s (i + 1) f) ]))

-- the gap behind a token ends where the spaces do, and nowhere else
pub gap_past : (s : List ℕ) (i : ℕ) → Gap s i (past s i)
gap_past s i = past_within (length s) s i (omega arith)

pub gap_is : (s : List ℕ) (i j : ℕ) → Gap s i j → past s i ≡ j
gap_is s i j g =
    let p = gap_past s i in
    elim (cases_lt (past s i) j) [
      | inl l ↦ absurd (p.ended (g.spaces (past s i) p.forward l))
      | inr l ↦ elim (cases_eq j (past s i)) [ inl e ↦ sym e | inr e ↦ absurd (g.ended (p.spaces j g.forward (omega arith))) ]
    ]
