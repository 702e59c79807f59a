-- A number is read exactly where the text spells it.
use Rattle.std.proofs.Common.{◌≡◌, ℕ, ◌+◌, ◌-◌, ◌*◌, ◌<◌, ◌≤◌, Bool, true, false, cond, ◌&&◌, ◌||◌, eqb, ltb, ◌⊎◌, List, [], ◌∷◌, ◌++◌, length, get_or, drop, Ok, Err, sym, refl, ap, ◌∙◌, subst, ap₂, subst₂, inl, inr, append_assoc, append-nil, add-zero, arith, length-append}
use Rattle.std.proofs.lemmas.Bool.{cases_lt, ltb-false, eq-eqb, or_parts, and_cases, both_ways}
use Rattle.refusal.specs.declared.Refusal.{Refusal}
use Rattle.property_text.specs.Faults.{Read}
use Rattle.property_text.specs.Tokens.{digits, worth, past, numeral, number}
use Rattle.property_text.specs.Spelling.{Digit, Digits, Number}
use Rattle.property_text.specs.Spelling.Digits.{one_digit, one_more}
use Rattle.property_text.specs.declared.fault.PropertyFault.{PropertyFault}
use Rattle.property_text.proofs.Places.{inside, gap_is}
use Rattle.property_text.proofs.Numerals.{digit_some, digit_none, number_ok, worth_more, worth_none}
use Rattle.property_text.proofs.Read.{err_ok}
use Rattle.property_text.proofs.Spelled.{gap_to}

-- a digit stands at k exactly where the digits from k on begin with it
digit_is : (s : List ℕ) (k d : ℕ) → Digit s k d → digits (drop k s) ≡ d ∷ digits (drop (k + 1) s)
digit_is s k d g =
    let small = g.small in
    let stands = g.stands in
    let e : get_or s k 0 - 48 ≡ d = omega arith in
    digit_some s k (inside s k (48 + d) stands (omega arith)) (omega arith) (omega arith) ∙ ap (λ x. x ∷ digits (drop (k + 1) s)) e

pub digit_was : (s : List ℕ) (k d : ℕ) (r : List ℕ) → digits (drop k s) ≡ d ∷ r → Digit s k d × (digits (drop (k + 1) s) ≡ r)
digit_was s k d r e = elim (cases_lt (get_or s k 0) 48) [
  | inl h ↦ not_one (inl h)
  | inr h ↦ elim (cases_lt 57 (get_or s k 0)) [ inl g ↦ not_one (inr g) | inr g ↦ one h g ]
]
  where
    not_one : (get_or s k 0 < 48) ⊎ (57 < get_or s k 0) → Digit s k d × (digits (drop (k + 1) s) ≡ r)
    not_one w = let n = digit_none s k w in let z : ◌≡◌ {A = ℕ} 0 1 = cc in absurd (omega arith)

    one : 48 ≤ get_or s k 0 → get_or s k 0 ≤ 57 → Digit s k d × (digits (drop (k + 1) s) ≡ r)
    one h g =
        let x = digit_some s k (inside s k (get_or s k 0) refl (omega arith)) h g in
        let f : get_or s k 0 - 48 ≡ d = cc in
        let q : digits (drop (k + 1) s) ≡ r = cc in
        (record { small = omega arith; stands = omega arith }, q)

pub none_is : (s : List ℕ) (k : ℕ) → ((d : ℕ) → Digit s k d → ⊥) → digits (drop k s) ≡ []
none_is s k nothing = elim (cases_lt (get_or s k 0) 48) [
  | inl h ↦ digit_none s k (inl h)
  | inr h ↦ elim (cases_lt 57 (get_or s k 0)) [
    | inl g ↦ digit_none s k (inr g)
    | inr g ↦ absurd (nothing (get_or s k 0 - 48) (record { small = omega arith; stands = omega arith }))
  ]
]

pub none_was : (s : List ℕ) (k d : ℕ) → digits (drop k s) ≡ [] → Digit s k d → ⊥
none_was s k d e g = let x = digit_is s k d g in let z : ◌≡◌ {A = ℕ} 0 1 = cc in absurd (omega arith)

-- all the digits from k on, behind those that write v
pub record Run (s : List ℕ) (i k v : ℕ) : Type 0 where
  pub written : Digits s i k v
  pub all : (d : ℕ) → Digit s k d → ⊥

pub run : (s : List ℕ) (i : ℕ) (r : List ℕ) (k v : ℕ) → Digits s i k v → digits (drop k s) ≡ r → Run s i (k + length r) (worth v r)
run s i [] k v w e =
    subst₂ (λ k v. Run s i k v) (sym (add-zero k)) (sym (worth_none v)) (record { written = w; all = λ d g. none_was s k d e g })
run s i (d ∷ r) k v w e =
    let f = digit_was s k d r e in
    let p : (k + 1) + length r ≡ k + length (d ∷ r) = omega arith in
    subst₂ (λ k v. Run s i k v) p (sym (worth_more v d r)) (run s i r (k + 1) (v * 10 + d) (one_more w f.0) f.1)

refuses : {A : Type 0} {a : A} (r : Refusal PropertyFault) (c : Bool) (g : Read A) → cond c (Err r) g ≡ Ok a → (c ≡ false) × (g ≡ Ok a)
refuses r true g e = err_ok e
refuses r false g e = (refl, e)

pub number_was : (s : List ℕ) (i v j : ℕ) → number s i ≡ Ok (v, j) → Number s i v j
number_was s i v j e = from (digits (drop i s)) refl e
  where
    from : (ds : List ℕ) → digits (drop i s) ≡ ds → numeral s ds i ≡ Ok (v, j) → Number s i v j
    from [] e h = err_ok h
    from (d ∷ r) e h =
        let c = refuses _ (ltb 4 (length r) || (eqb d 0 && ltb 0 (length r))) _ h in
        let o = or_parts (ltb 4 (length r)) (eqb d 0 && ltb 0 (length r)) c.0 in
        let few = ltb-false 4 (length r) o.0 in
        let f = digit_was s i d r e in
        let w = run s i r (i + 1) d (one_digit f.0) f.1 in
        let same : ◌≡◌ {A = ℕ × ℕ} (worth d r, past s (i + (length r + 1))) (v, j) = let x = c.1 in cc in
        let p : (i + 1) + length r ≡ i + (length r + 1) = omega arith in
        let g : past s ((i + 1) + length r) ≡ j = ap (λ k. past s k) p ∙ ap (λ x. x.1) same in
        record {
          end = (i + 1) + length r;
          written = subst (λ v. Digits s i ((i + 1) + length r) v) (ap (λ x. x.0) same) w.written;
          all = w.all;
          few = omega arith;
          needed = λ z. elim (and_cases (eqb d 0) (ltb 0 (length r)) o.1) [
            | inl n ↦ absurd (both_ways (eqb d 0) n (eq-eqb d 0 (omega (arith, z.stands, f.0.stands))))
            | inr n ↦ omega (arith, ltb-false 0 (length r) n)
          ];
          gap = gap_to s ((i + 1) + length r) j g;
        }

worth_push : (r : List ℕ) (v d : ℕ) → worth v (r ++ (d ∷ [])) ≡ worth v r * 10 + d
worth_push [] v d = worth_more v d [] ∙ (worth_none (v * 10 + d) ∙ ap (λ x. x * 10 + d) (sym (worth_none v)))
worth_push (e ∷ r) v d = worth_more v e (r ++ (d ∷ [])) ∙ (worth_push r (v * 10 + e) d ∙ ap (λ x. x * 10 + d) (sym (worth_more v e r)))

-- the digits from i on begin with those that write v up to k
pub record Front (s : List ℕ) (i k v : ℕ) : Type 0 where
  pub first : ℕ
  pub rest : List ℕ
  pub begins : Digit s i first
  pub whole : digits (drop i s) ≡ first ∷ (rest ++ digits (drop k s))
  pub value : worth first rest ≡ v
  pub end : k ≡ i + (length rest + 1)

pub front : (s : List ℕ) (i : ℕ) {k v : ℕ} → Digits s i k v → Front s i k v
front s i (one_digit {d} g) =
    record { first = d; rest = []; begins = g; whole = digit_is s i d g; value = worth_none d; end = omega arith }
front s i (one_more {j} {v} {d} w g) =
    let f = front s i w in
    record {
      first = f.first;
      rest = f.rest ++ (d ∷ []);
      begins = f.begins;
      whole = f.whole ∙ ap (λ x. f.first ∷ x) (ap (λ x. f.rest ++ x) (digit_is s j d g) ∙ sym (append_assoc f.rest (d ∷ []) (digits (drop (j + 1) s))));
      value = worth_push f.rest f.first d ∙ ap (λ x. x * 10 + d) f.value;
      end = simp length-append (omega (arith, f.end));
    }

pub number_is : (s : List ℕ) (i v j : ℕ) → Number s i v j → number s i ≡ Ok (v, j)
number_is s i v j n =
    let f = front s i n.written in
    let e : digits (drop i s) ≡ f.first ∷ f.rest =
    f.whole ∙ ap (λ x. f.first ∷ x) (ap (λ x. f.rest ++ x) (none_is s n.end n.all) ∙ append-nil f.rest) in
    let few = n.few in
    let end = f.end in
    let first_is = f.begins.stands in
    number_ok s i f.first f.rest e (omega arith)
    (λ z. let g : Digit s i 0 = record { small = omega arith; stands = omega arith } in let x = n.needed g in omega arith)
    ∙ ap₂ (λ x y. Ok (x, y)) f.value (ap (λ k. past s k) (sym end) ∙ gap_is s n.end j n.gap)
