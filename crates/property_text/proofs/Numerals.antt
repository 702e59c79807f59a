-- The digits that a text has from a place on, and the number that they write.
use Rattle.std.proofs.Common.{◌≡◌, ℕ, Bool, zero, suc, ◌+◌, ◌-◌, ◌*◌, ◌^◌, ◌<◌, ◌≤◌, true, false, ◌&&◌, ◌||◌, eqb, ltb, leb, ◌⊎◌, List, [], ◌∷◌, length, get_or, take, drop, Ok, sym, refl, ap, ◌∙◌, ap₂, inl, inr, pow-suc, add-one, arith, drop_of_length-le, drop-cons}
use Rattle.std.proofs.lemmas.List.{take_all, length-take-le}
use Rattle.std.proofs.lemmas.List.Sums.{prefix_len_passes}
use Rattle.std.proofs.lemmas.Bool.{leb-true, and_parts, lt-ltb, le-ltb, le-leb, lt-leb, eq-eqb, ne_eqb, cases_lt, cases_eq, or_left, or_right, and_from, and_left, and_right}
use Rattle.std.specs.Char.{is_ascii_digit}
use Rattle.std.specs.List.{prefix_len}
use Rattle.property_text.specs.Faults.{refused}
use Rattle.property_text.specs.Tokens.{digits, worth, past, number}
use Rattle.property_text.specs.declared.fault.PropertyFault.TheVariants.{TokenMissing, BadNumber}

pub digit_some : (s : List ℕ) (k : ℕ) → k < length s → 48 ≤ get_or s k 0 → get_or s k 0 ≤ 57 → digits (drop k s) ≡ (get_or s k 0 - 48) ∷ digits (drop (k + 1) s)
unfolding digits
digit_some s k h l u =
    rw (drop-cons s k 0 h, le-leb 48 (get_or s k 0) l, le-leb (get_or s k 0) 57 u, add-one)

pub digit_none : (s : List ℕ) (k : ℕ) → (get_or s k 0 < 48) ⊎ (57 < get_or s k 0) → digits (drop k s) ≡ []
unfolding digits
digit_none s k w = elim (cases_lt k (length s)) [ inl h ↦ rw (drop-cons s k 0 h, not_digit (get_or s k 0) w) refl | inr h ↦ rw (drop_of_length-le s h) refl ]
  where
    not_digit : (c : ℕ) → (c < 48) ⊎ (57 < c) → (leb 48 c && leb c 57) ≡ false
    not_digit c w = elim w [ inl h ↦ and_left _ _ (lt-leb 48 c h) | inr h ↦ and_right (leb 48 c) _ (lt-leb c 57 h) ]

-- the digits in front are those that are counted, and no others
pub record Cut (s : List ℕ) : Type 0 where
  pub count : length (digits s) ≡ prefix_len is_ascii_digit s
  pub same : digits (take (prefix_len is_ascii_digit s) s) ≡ digits s
  pub all : prefix_len is_ascii_digit (take (prefix_len is_ascii_digit s) s) ≡ length (take (prefix_len is_ascii_digit s) s)

cut_more : (c : ℕ) (cs : List ℕ) (b : Bool) → is_ascii_digit c ≡ b → Cut cs → Cut (c ∷ cs)
unfolding digits
cut_more c cs true e h =
    let q : 1 + prefix_len is_ascii_digit cs ≡ suc (prefix_len is_ascii_digit cs) = omega arith in
    record { count = rw (e, q) (ap suc h.count); same = rw (e, q) (rw e (ap (λ ds. (c - 48) ∷ ds) h.same)); all = rw (e, q) (rw e (omega (arith, h.all))) }
cut_more c cs false e h = record { count = rw e refl; same = rw e refl; all = rw e refl }

pub cut : (s : List ℕ) → Cut s
unfolding digits
cut [] = record { count = refl; same = refl; all = refl }
cut (c ∷ cs) = cut_more c cs (is_ascii_digit c) refl (cut cs)

-- the digits of a text's front are the first of its digits
front_more : (c : ℕ) (cs : List ℕ) (n : ℕ) (b : Bool) → (leb 48 c && leb c 57) ≡ b → digits (take n cs) ≡ take n (digits cs)
    → digits (take (suc n) (c ∷ cs)) ≡ take (suc n) (digits (c ∷ cs))
unfolding digits
front_more c cs n true e h = rw e (ap (λ ds. (c - 48) ∷ ds) h)
front_more c cs n false e h = rw e refl

pub digits_front : (n : ℕ) (s : List ℕ) → digits (take n s) ≡ take n (digits s)
unfolding digits
digits_front zero s = refl
digits_front (suc n) [] = refl
digits_front (suc n) (c ∷ cs) = front_more c cs n (leb 48 c && leb c 57) refl (digits_front n cs)

digit_range : (c : ℕ) → is_ascii_digit c ≡ true → (48 ≤ c) × (c ≤ 57)
digit_range c e = let p = and_parts (leb 48 c) (leb c 57) e in (leb-true 48 c p.0, leb-true c 57 p.1)

pub in_digits : (s : List ℕ) (k : ℕ) → prefix_len is_ascii_digit s ≡ length s → k < length s → (48 ≤ get_or s k 0) × (get_or s k 0 ≤ 57)
in_digits s k all h = digit_range (get_or s k 0) (prefix_len_passes is_ascii_digit s k 0 (omega arith))

pub number_none : (s : List ℕ) (i : ℕ) → digits (drop i s) ≡ [] → number s i ≡ refused TokenMissing i
number_none s i e = rw e

pub number_bad : (s : List ℕ) (i d : ℕ) (r : List ℕ) → digits (drop i s) ≡ d ∷ r → ((d ≡ 0) × (0 < length r)) ⊎ (4 < length r) → number s i ≡ refused BadNumber i
number_bad s i d r e w = rw (e, long d (length r) w)
  where
    long : (d n : ℕ) → ((d ≡ 0) × (0 < n)) ⊎ (4 < n) → (ltb 4 n || (eqb d 0 && ltb 0 n)) ≡ true
    long d n w = elim w [ inl h ↦ or_right (ltb 4 n) _ (and_from _ _ (eq-eqb d 0 h.0) (lt-ltb 0 n h.1)) | inr h ↦ or_left _ _ (lt-ltb 4 n h) ]

pub number_ok : (s : List ℕ) (i d : ℕ) (r : List ℕ) → digits (drop i s) ≡ d ∷ r → length r ≤ 4 → (d ≡ 0 → length r ≡ 0) → number s i ≡ Ok (worth d r, past s (i + (length r + 1)))
number_ok s i d r e h z = rw (e, le-ltb 4 (length r) h, short d (length r) z)
  where
    short : (d n : ℕ) → (d ≡ 0 → n ≡ 0) → (eqb d 0 && ltb 0 n) ≡ false
    short d n z = elim (cases_eq d 0) [ inl e ↦ and_right (eqb d 0) _ (le-ltb 0 n (omega (arith, z e))) | inr ne ↦ and_left _ _ (ne_eqb d 0 ne) ]

-- one more digit
pub worth_more : (v d : ℕ) (r : List ℕ) → worth v (d ∷ r) ≡ worth (v * 10 + d) r
unfolding worth
worth_more v d r = refl

pub worth_none : (v : ℕ) → worth v [] ≡ v
unfolding worth
worth_none v = refl

pub worth_end : (v k : ℕ) (s : List ℕ) → length s ≤ k → worth v (digits (drop k s)) ≡ v
unfolding digits worth
worth_end v k s h = rw (drop_of_length-le s h) refl

pub more_bound : (v d n : ℕ) → v < 10 ^ n → d < 10 → v * 10 + d < 10 ^ (n + 1)
more_bound v d n h k = rw (add-one, pow-suc 10 n) (omega arith)

-- the number is read from the first six of the digits that stand there
module _ (s w : List ℕ) (i : ℕ) (front : digits w ≡ take 6 (digits (drop i s))) (all : prefix_len is_ascii_digit w ≡ length w) where
  count : length (digits w) ≡ length w
  count = (cut w).count ∙ all

  -- where they are no more than five, they are all that stand there
  same : length w ≤ 5 → digits w ≡ digits (drop i s)
  same h = front ∙ take_all 6 (digits (drop i s)) (elim (cases_lt 6 (length (digits (drop i s)))) [
    | inl l ↦ absurd (omega (arith, length-take-le 6 (digits (drop i s)) (omega arith), ap length front, count))
    | inr l ↦ l
  ])

  first : 0 < length w → length w ≤ 5 → digits (drop i s) ≡ (get_or w 0 0 - 48) ∷ digits (drop 1 w)
  first h f = let r = in_digits w 0 all h in sym (same f) ∙ digit_some w 0 h r.0 r.1

  rest : 0 < length w → length (digits (drop 1 w)) + 1 ≡ length w
  rest h = let r = in_digits w 0 all h in omega (arith, ap length (digit_some w 0 h r.0 r.1), count)

  pub written_none : length w ≡ 0 → number s i ≡ refused TokenMissing i
  written_none h = number_none s i (sym (same (omega arith)) ∙ empty (digits w) (count ∙ h))
    where
      empty : (ds : List ℕ) → length ds ≡ 0 → ds ≡ []
      empty [] e = refl
      empty (d ∷ ds) e = absurd (omega arith)

  pub written_long : 5 < length w → number s i ≡ refused BadNumber i
  written_long h = long (digits (drop i s)) refl
    where
      long : (ds : List ℕ) → digits (drop i s) ≡ ds → number s i ≡ refused BadNumber i
      long [] e = absurd (omega (arith, ap length front, ap (λ ds. length (take 6 ds)) e, count))
      long (d ∷ r) e = elim (cases_lt 4 (length r)) [
        | inl l ↦ number_bad s i d r e (inr l)
        | inr l ↦ absurd (omega (arith, ap length front, ap (λ ds. length (take 6 ds)) e, ap length (take_all 6 (d ∷ r) (omega arith)), count))
      ]

  pub written_needless : 1 < length w → get_or w 0 0 ≡ 48 → number s i ≡ refused BadNumber i
  written_needless h z = elim (cases_lt 5 (length w)) [
    | inl l ↦ written_long l
    | inr f ↦
        let x = rest (omega arith) in
        number_bad s i (get_or w 0 0 - 48) (digits (drop 1 w)) (first (omega arith) f) (inl (omega arith, omega arith))
  ]

  pub written_well : 0 < length w → length w ≤ 5 → (get_or w 0 0 ≡ 48 → length w ≡ 1) → number s i ≡ Ok (worth 0 (digits w), past s (i + length w))
  written_well h f z =
      let x = rest h in
      let r = in_digits w 0 all h in
      let zero : 0 * 10 + (get_or w 0 0 - 48) ≡ get_or w 0 0 - 48 = omega arith in
      let v : worth (get_or w 0 0 - 48) (digits (drop 1 w)) ≡ worth 0 (digits w) =
      sym (ap (λ ds. worth 0 ds) (digit_some w 0 h r.0 r.1) ∙ (worth_more 0 (get_or w 0 0 - 48) (digits (drop 1 w)) ∙ ap (λ v. worth v (digits (drop 1 w))) zero)) in
      number_ok s i (get_or w 0 0 - 48) (digits (drop 1 w)) (first h f) (omega arith) (λ e. let y : get_or w 0 0 ≡ 48 = omega arith in let n = z y in omega arith)
      ∙ ap₂ (λ v n. Ok (v, past s (i + n))) v x
