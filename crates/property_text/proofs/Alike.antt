-- What two texts that begin alike have in common.
use Rattle.std.proofs.Common.{◌≡◌, ℕ, ◌+◌, ◌*◌, ◌<◌, ◌≤◌, ◌⊎◌, List, [], ◌++◌, length, get_or, take, drop, Ok, sym, refl, ap, ◌∙◌, subst, inl, inr, arith, length-append}
use Rattle.std.proofs.lemmas.List.{get_or_past, get_or-take, take_all, length-take-le}
use Rattle.std.proofs.lemmas.Bool.{cases_lt, cases_eq}
use Rattle.property_text.specs.Faults.{refused}
use Rattle.property_text.specs.Tokens.{digits, past, number}
use Rattle.property_text.specs.Spelling.{Gap, Digit, Digits, Number}
use Rattle.property_text.specs.Spelling.Digits.{one_digit, one_more}
use Rattle.property_text.specs.declared.fault.PropertyFault.TheVariants.{TokenMissing, BadNumber}
use Rattle.property_text.proofs.Places.{inside, gap_past, gap_is}
use Rattle.property_text.proofs.Numerals.{number_none, number_bad}
use Rattle.property_text.proofs.Written.{none_is, none_was, front, number_is}

-- the first n bytes of s and t are the same, and so is the end where it is among them
pub record Alike (n : ℕ) (s t : List ℕ) : Type 0 where
  pub same : (k : ℕ) → k < n → get_or t k 0 ≡ get_or s k 0
  pub ends : (length t ≡ length s) ⊎ ((n ≤ length s) × (n ≤ length t))

pub alike_itself : (n : ℕ) (s : List ℕ) → Alike n s s
alike_itself n s = record { same = λ k h. refl; ends = inl refl }

pub alike_take : (n : ℕ) (s t : List ℕ) → take n t ≡ take n s → Alike n s t
alike_take n s t e =
    record {
      same = λ k h. sym (get_or-take n t k 0 h) ∙ (ap (λ x. get_or x k 0) e ∙ get_or-take n s k 0 h);
      ends = elim (cases_lt (length s) n) [
        | inl h ↦ elim (cases_lt (length t) n) [
          | inl g ↦ inl (ap length (sym (take_all n t (omega arith)) ∙ (e ∙ take_all n s (omega arith))))
          | inr g ↦ absurd (omega (arith, length-take-le n t g, ap length e, ap length (take_all n s (omega arith))))
        ]
        | inr h ↦ elim (cases_lt (length t) n) [
          | inl g ↦ absurd (omega (arith, length-take-le n s h, ap length e, ap length (take_all n t (omega arith))))
          | inr g ↦ inr (h, g)
        ]
      ];
    }

-- where the spaces and the tokens end
pub past_inside : (s : List ℕ) (i : ℕ) → i ≤ length s → past s i ≤ length s
past_inside s i h =
    let g = gap_past s i in
    elim (cases_lt (length s) (past s i)) [ inl l ↦ absurd (omega (arith, get_or_past s (length s) 0 (omega arith), g.spaces (length s) h l)) | inr l ↦ l ]

pub digits_forward : (s : List ℕ) (i : ℕ) {k v : ℕ} → Digits s i k v → i < k
digits_forward s i (one_digit g) = omega arith
digits_forward s i (one_more w g) = omega (arith, digits_forward s i w)

pub digits_within : (s : List ℕ) (i : ℕ) {k v : ℕ} → Digits s i k v → k ≤ length s
digits_within s i (one_digit {d} g) = omega (arith, inside s i (48 + d) g.stands (omega arith))
digits_within s i (one_more {j} {v} {d} w g) = omega (arith, inside s j (48 + d) g.stands (omega arith))

-- the first of the digits
pub digits_shorter : (s : List ℕ) (i k : ℕ) {j v : ℕ} → Digits s i j v → i < k → k ≤ j → (w : ℕ) × Digits s i k w
digits_shorter s i k (one_digit {d} g) h l = let e : i + 1 ≡ k = omega arith in (d, subst (λ k. Digits s i k d) e (one_digit g))
digits_shorter s i k (one_more {j} {v} {d} w g) h l = elim (cases_eq (j + 1) k) [
  | inl e ↦ (v * 10 + d, subst (λ k. Digits s i k (v * 10 + d)) e (one_more w g))
  | inr e ↦ digits_shorter s i k w h (omega arith)
]

pub bad_number_is : (s : List ℕ) (i : ℕ) {j v : ℕ} → Digits s i j v → (i + 5 < j) ⊎ (Digit s i 0 × (i + 1 < j)) → number s i ≡ refused BadNumber i
bad_number_is s i {j} w b =
    let f = front s i w in
    let end = f.end in
    let stands = f.begins.stands in
    let n = length-append f.rest (digits (drop j s)) in
    number_bad s i f.first (f.rest ++ digits (drop j s)) f.whole
    (elim b [ inl h ↦ inr (omega arith) | inr h ↦ inl (omega (arith, h.0.stands), omega (arith, h.1)) ])

module _ {n : ℕ} {s t : List ℕ} (alike : Alike n s t) where
  pub gap_alike : {i j : ℕ} → Gap s i j → j < n → Gap t i j
  gap_alike {i} {j} g h =
      record {
        forward = g.forward;
        spaces = λ k l u. alike.same k (omega arith) ∙ g.spaces k l u;
        ended = λ e. g.ended (sym (alike.same j h) ∙ e);
      }

  pub past_alike : (i : ℕ) → past s i < n → past t i ≡ past s i
  past_alike i h = gap_is t i (past s i) (gap_alike (gap_past s i) h)

  pub digit_alike : {i d : ℕ} → Digit s i d → i < n → Digit t i d
  digit_alike {i} g h = record { small = g.small; stands = alike.same i h ∙ g.stands }

  pub digits_alike : {i j v : ℕ} → Digits s i j v → j ≤ n → Digits t i j v
  digits_alike (one_digit g) h = one_digit (digit_alike g (omega arith))
  digits_alike (one_more w g) h = one_more (digits_alike w (omega arith)) (digit_alike g (omega arith))

  no_digit_alike : {i d : ℕ} → ((d : ℕ) → Digit s i d → ⊥) → i < n → Digit t i d → ⊥
  no_digit_alike {i} {d} none h g = none d (record { small = g.small; stands = sym (alike.same i h) ∙ g.stands })

  -- a number's value is the same where the byte behind its digits is, and its end where the next token's is
  number_to : {i v j k : ℕ} (m : Number s i v j) → m.end < n → Gap t m.end k → Number t i v k
  number_to {i} m h g =
      let l = digits_forward s i m.written in
      record {
        end = m.end;
        written = digits_alike m.written (omega arith);
        all = λ d x. no_digit_alike m.all h x;
        few = m.few;
        needed = λ x. m.needed (record { small = x.small; stands = sym (alike.same i (omega arith)) ∙ x.stands });
        gap = g;
      }

  pub number_alike : {i v j : ℕ} → Number s i v j → j < n → number t i ≡ Ok (v, j)
  number_alike {i} {v} {j} m h = let f = m.gap.forward in number_is t i v j (number_to m (omega arith) (gap_alike m.gap h))

  pub value_alike : {i v j : ℕ} → Number s i v j → i + 6 ≤ n → (k : ℕ) × (number t i ≡ Ok (v, k))
  value_alike {i} {v} m h =
      let few = m.few in
      let k = past t m.end in
      (k, number_is t i v k (number_to m (omega arith) (gap_past t m.end)))

  pub no_number_alike : (i : ℕ) → digits (drop i s) ≡ [] → i < n → number t i ≡ refused TokenMissing i
  no_number_alike i e h = number_none t i (none_is t i (λ d g. no_digit_alike (λ d x. none_was s i d e x) h g))

  pub bad_number_alike : {i j v : ℕ} → Digits s i j v → (i + 5 < j) ⊎ (Digit s i 0 × (i + 1 < j)) → i + 6 ≤ n → number t i ≡ refused BadNumber i
  bad_number_alike {i} w b h = elim b [
    | inl l ↦ let d = digits_shorter s i (i + 6) w (omega arith) (omega arith) in
        bad_number_is t i (digits_alike d.1 h) (inl (omega arith))
    | inr l ↦ let u = l.1 in let d = digits_shorter s i (i + 2) w (omega arith) (omega arith) in
        bad_number_is t i (digits_alike d.1 (omega arith)) (inr (digit_alike l.0 (omega arith), omega arith))
  ]
