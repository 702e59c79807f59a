-- The law of a reader: what stands where it refuses, and that a text which begins alike is read alike.
use Rattle.std.proofs.Common.{◌≡◌, ℕ, ◌+◌, ◌<◌, ◌≤◌, Bool, true, false, cond, ◌&&◌, ◌||◌, eqb, ltb, List, [], ◌∷◌, length, get_or, drop, Ok, Err, refl, ap, ◌∙◌, subst, inl, inr, arith}
use Rattle.std.proofs.lemmas.Bool.{eqb-true, ltb-true, cases_Bool, or_cases, and_parts, both_ways}
use Rattle.refusal.specs.declared.Refusal.{Refusal}
use Rattle.property_text.specs.Faults.{Read, refused, ◌>>=◌}
use Rattle.property_text.specs.Tokens.{digits, worth, past, byte, at_most, numeral, number}
use Rattle.property_text.specs.Spelling.{Number}
use Rattle.property_text.specs.Spelling.Digits.{one_digit}
use Rattle.property_text.specs.declared.fault.PropertyFault.{PropertyFault}
use Rattle.property_text.specs.declared.fault.PropertyFault.TheVariants.{TextTooLong, TokenMissing, BadNumber, BadCeiling, TooManyHops, TooDeep, TooManyParts}
use Rattle.property_text.proofs.Places.{inside, gap_past, gap_is}
use Rattle.property_text.proofs.Written.{digit_was, run, number_was}
use Rattle.property_text.proofs.Alike.{Alike, past_inside, digits_forward, digits_within, past_alike, number_alike, value_alike, no_number_alike, bad_number_alike}
use Rattle.property.specs.Places.{Begins, BadDigits, Stands, local, reach}

pub begins_past : (s : List ℕ) (i : ℕ) → i ≤ length s → Begins s (past s i)
begins_past s i h = record { within = past_inside s i h; no_space = (gap_past s i).ended }

pub reach_some : (f : PropertyFault) → local f ≡ true → 1 ≤ reach f
reach_some TextTooLong e = absurd (both_ways false refl e)
reach_some TokenMissing e = omega arith
reach_some BadNumber e = omega arith
reach_some BadCeiling e = omega arith
reach_some TooManyHops e = omega arith
reach_some TooDeep e = omega arith
reach_some TooManyParts e = absurd (both_ways false refl e)

-- a is read at i from s, and h from a text whose first `seen` bytes are the same
pub record Goes (seen : ℕ) (s : List ℕ) {A : Type 0} (next : A → ℕ) (i : ℕ) (a : A) (h : Read A) : Type 0 where
  pub begins : Begins s (next a)
  pub forward : i ≤ next a
  pub same : next a < seen → h ≡ Ok a

-- r is the refusal at i of s, and h is read from a text whose first `seen` bytes are the same
pub record Stops (seen : ℕ) (s : List ℕ) {A : Type 0} (i : ℕ) (r : Refusal PropertyFault) (h : Read A) : Type 0 where
  pub stands : Stands s r.fault r.place
  pub forward : local r.fault ≡ true → i ≤ r.place
  pub same : local r.fault ≡ true → r.place + reach r.fault ≤ seen → h ≡ Err r

pub data Law (seen : ℕ) (s : List ℕ) {A : Type 0} (next : A → ℕ) (i : ℕ) : Read A → Read A → Type 0 where
  goes : {a : A} {h : Read A} → Goes seen s next i a h → Law seen s next i (Ok a) h
  stops : {r : Refusal PropertyFault} {h : Read A} → Stops seen s i r h → Law seen s next i (Err r) h

stopped : {seen : ℕ} {s : List ℕ} {A : Type 0} {next : A → ℕ} {i : ℕ} {h : Read A} {r : Refusal PropertyFault} → Law seen s next i (Err r) h → Stops seen s i r h
stopped (stops p) = p

pub law_stops : {seen : ℕ} {s : List ℕ} {A : Type 0} {next : A → ℕ} {i : ℕ} {g h : Read A} {r : Refusal PropertyFault}
    → Law seen s next i g h → g ≡ Err r → Stops seen s i r h
law_stops {seen} {s} {A} {next} {i} {g} {h} p e = stopped (subst (λ x. Law seen s next i x h) e p)

-- it begins at i as well, if the other text gives the same wherever j is seen
pub law_back : {seen : ℕ} {s : List ℕ} {A : Type 0} {next : A → ℕ} {i j : ℕ} {g h h' : Read A}
    → i ≤ j → (j < seen → h' ≡ h) → Law seen s next j g h → Law seen s next i g h'
law_back u e (goes p) =
    let f = p.forward in
    goes (record { begins = p.begins; forward = omega arith; same = λ l. e (omega arith) ∙ p.same l })
law_back u e (stops {r} p) =
    stops (record {
      stands = p.stands;
      forward = λ q. omega (arith, p.forward q);
      same = λ q l. e (omega (arith, p.forward q, reach_some r.fault q)) ∙ p.same q l;
    })

pub law_then : {seen : ℕ} {s : List ℕ} {A B : Type 0} {next : A → ℕ} {after : B → ℕ} {i : ℕ} {g h : Read A} (k l : A → Read B)
    → Law seen s next i g h → ((a : A) → g ≡ Ok a → Begins s (next a) → Law seen s after (next a) (k a) (l a)) → Law seen s after i (g >>= k) (h >>= l)
law_then k l (goes {a} p) q = law_back p.forward (λ u. ap (λ x. x >>= l) (p.same u)) (q a refl p.begins)
law_then k l (stops p) q =
    stops (record { stands = p.stands; forward = p.forward; same = λ f u. ap (λ x. x >>= l) (p.same f u) })

pub law_ok : {seen : ℕ} {s : List ℕ} {A : Type 0} (next : A → ℕ) (a : A) → Begins s (next a) → Law seen s next (next a) (Ok a) (Ok a)
law_ok next a b = goes (record { begins = b; forward = omega arith; same = λ l. refl })

pub law_missing : {seen : ℕ} {s : List ℕ} {A : Type 0} {next : A → ℕ} (i : ℕ) → Begins s i → Law seen s next i (refused TokenMissing i) (refused TokenMissing i)
law_missing i b = stops (record { stands = b; forward = λ q. omega arith; same = λ q l. refl })

-- a number's value passes the test, or is refused
abbrev tested : (ℕ → Bool) → PropertyFault → ℕ → ℕ × ℕ → Read (ℕ × ℕ)
tested pass f i v = cond (pass v.0) (Ok v) (refused f i)

module _ {seen : ℕ} {s t : List ℕ} (alike : Alike seen s t) where
  -- a test of the byte at i
  pub law_test : {A : Type 0} {next : A → ℕ} {i : ℕ} (c : Bool) {c' : Bool} {g₁ g₂ h₁ h₂ : Read A} → (i < seen → c' ≡ c)
      → (c ≡ true → Law seen s next i g₁ h₁) → (c ≡ false → Law seen s next i g₂ h₂) → Law seen s next i (cond c g₁ g₂) (cond c' h₁ h₂)
  law_test true {h₁ = h₁} {h₂ = h₂} e p q = law_back (omega arith) (λ l. ap (λ c. cond c h₁ h₂) (e l)) (p refl)
  law_test false {h₁ = h₁} {h₂ = h₂} e p q = law_back (omega arith) (λ l. ap (λ c. cond c h₁ h₂) (e l)) (q refl)

  -- from the token at i on to the next one
  pub law_past : {A : Type 0} {next : A → ℕ} (i : ℕ) (g h : ℕ → Read A) → 0 < get_or s i 0
      → ((j : ℕ) → Begins s j → Law seen s next j (g j) (h j)) → Law seen s next i (g (past s (i + 1))) (h (past t (i + 1)))
  law_past i g h l p =
      let f = (gap_past s (i + 1)).forward in
      let u = inside s i (get_or s i 0) refl l in
      law_back (omega arith) (λ l. ap h (past_alike alike (i + 1) l)) (p (past s (i + 1)) (begins_past s (i + 1) (omega arith)))

  pub law_byte : (b i : ℕ) → 0 < b → Begins s i → Law seen s (λ j. j) i (byte s b i) (byte t b i)
  law_byte b i h w = law_test (eqb (get_or s i 0) b) (λ l. ap (λ x. eqb x b) (alike.same i l))
      (λ q. law_past i (λ j. Ok j) (λ j. Ok j) (omega (arith, eqb-true (get_or s i 0) b q)) (λ j v. law_ok (λ j. j) j v))
      (λ q. law_missing i w)

  pub law_at_most : (i : ℕ) → Begins s i → Law seen s (λ j. j) i (at_most s i) (at_most t i)
  law_at_most i w = by (eqb (get_or s i 0) 60 && eqb (get_or s (i + 1) 0) 61) refl
    where
      sees : i + 1 < seen → (eqb (get_or t i 0) 60 && eqb (get_or t (i + 1) 0) 61) ≡ (eqb (get_or s i 0) 60 && eqb (get_or s (i + 1) 0) 61)
      sees l = rw (alike.same i (omega arith), alike.same (i + 1) l) refl

      by : (c : Bool) → (eqb (get_or s i 0) 60 && eqb (get_or s (i + 1) 0) 61) ≡ c
          → Law seen s (λ j. j) i (cond c (Ok (past s (i + 2))) (refused TokenMissing i)) (at_most t i)
      by true q =
          let e = eqb-true _ _ (and_parts (eqb (get_or s i 0) 60) (eqb (get_or s (i + 1) 0) 61) q).1 in
          let u = inside s (i + 1) 61 e (omega arith) in
          let f = (gap_past s (i + 2)).forward in
          goes (record {
            begins = begins_past s (i + 2) (omega arith);
            forward = omega arith;
            same = λ l. rw (sees (omega arith) ∙ q, past_alike alike (i + 2) l) refl;
          })
      by false q = stops (record { stands = w; forward = λ f. omega arith; same = λ f l. rw (sees (omega arith) ∙ q) refl })

  pub law_number : (i : ℕ) → Begins s i → Law seen s (λ v. v.1) i (number s i) (number t i)
  law_number i w = from (digits (drop i s)) refl
    where
      right : (v j : ℕ) → number s i ≡ Ok (v, j) → Law seen s (λ v. v.1) i (Ok (v, j)) (number t i)
      right v j e =
          let m = number_was s i v j e in
          let f = digits_forward s i m.written in
          let u = m.gap.forward in
          goes (record {
            begins = record { within = omega (arith, gap_is s m.end j m.gap, past_inside s m.end (digits_within s i m.written)); no_space = m.gap.ended };
            forward = omega arith;
            same = λ l. number_alike alike m l;
          })

      wrong : BadDigits s i → Law seen s (λ v. v.1) i (refused BadNumber i) (number t i)
      wrong b = stops (record { stands = b; forward = λ q. omega arith; same = λ q l. bad_number_alike alike b.written b.wrong l })

      from : (ds : List ℕ) → digits (drop i s) ≡ ds → Law seen s (λ v. v.1) i (numeral s ds i) (number t i)
      from [] e = stops (record { stands = w; forward = λ q. omega arith; same = λ q l. no_number_alike alike i e (omega arith) })
      from (d ∷ r) e = elim (cases_Bool (ltb 4 (length r) || (eqb d 0 && ltb 0 (length r)))) [
        | inl q ↦
            let f = digit_was s i d r e in
            let first = f.0.stands in
            rw q (wrong (record {
              end = (i + 1) + length r;
              value = worth d r;
              written = (run s i r (i + 1) d (one_digit f.0) f.1).written;
              wrong = elim (or_cases (ltb 4 (length r)) (eqb d 0 && ltb 0 (length r)) q) [
                | inl p ↦ inl (omega (arith, ltb-true 4 (length r) p))
                | inr p ↦
                    let a = and_parts (eqb d 0) (ltb 0 (length r)) p in
                    let z = eqb-true d 0 a.0 in
                    inr (record { small = omega arith; stands = omega arith }, omega (arith, ltb-true 0 (length r) a.1))
              ];
            }))
        | inr q ↦ rw q (right (worth d r) (past s (i + (length r + 1))) (rw (e, q) refl))
      ]

  pub law_tested : (pass : ℕ → Bool) (f : PropertyFault) (i : ℕ) → Begins s i → reach f ≡ 6 → ((v j : ℕ) → Number s i v j → pass v ≡ false → Stands s f i)
      → Law seen s (λ v. v.1) i (number s i >>= tested pass f i) (number t i >>= tested pass f i)
  law_tested pass f i w six bad = by (number s i) refl (law_number i w)
    where
      by : (g : Read (ℕ × ℕ)) → number s i ≡ g
          → Law seen s (λ v. v.1) i g (number t i) → Law seen s (λ v. v.1) i (g >>= tested pass f i) (number t i >>= tested pass f i)
      by (Err r) e (stops p) = stops (record { stands = p.stands; forward = p.forward; same = λ q l. ap (λ x. x >>= tested pass f i) (p.same q l) })
      by (Ok v) e (goes p) = elim (cases_Bool (pass v.0)) [
        | inl q ↦ rw q (goes {a = v} (record { begins = p.begins; forward = p.forward; same = λ l. ap (λ x. x >>= tested pass f i) (p.same l) ∙ rw q refl }))
        | inr q ↦
            let m = number_was s i v.0 v.1 e in
            rw q (stops (record {
              stands = bad v.0 v.1 m q;
              forward = λ z. omega arith;
              same = λ z l. let x = value_alike alike m (omega arith) in ap (λ x. x >>= tested pass f i) x.1 ∙ rw q refl;
            }))
      ]
