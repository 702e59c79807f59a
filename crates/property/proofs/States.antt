-- The laws of the readers of formulas.
use Rattle.std.proofs.Common.{◌≡◌, ℕ, zero, suc, ◌+◌, ◌-◌, ◌<◌, true, false, eqb, ltb, leb, List, get_or, Ok, refl, ap, inl, inr, arith}
use Rattle.std.proofs.lemmas.Bool.{eqb-true, leb-true, cases_Bool, and_parts, both_ways}
use Rattle.property_parts.specs.Formula.{Formula, letter, no_letter, top, bottom, size}
use Rattle.property_text.specs.Faults.{Read, ◌>>=◌}
use Rattle.property_text.specs.Tokens.{past, byte}
use Rattle.property_text.proofs.Alike.{Alike}
use Rattle.formula_reader.specs.Operators.{sign, join}
use Rattle.formula_reader.specs.declared.operator.Operator.{Operator}
use Rattle.formula_reader.specs.declared.operator.Operator.TheVariants.{And, Or}
use Rattle.formula_reader.specs.Reading.{Reader, lettered, room, negated, factor_by, more, joined, nested, state}
use Rattle.property.specs.Places.{Begins, PartByte}
use Rattle.property.specs.Places.PartByte.{is_letter, is_not, is_top, is_bottom, is_and, is_or}
use Rattle.property.proofs.Laws.{Law, stops, law_back, law_then, law_test, law_past, law_ok, law_missing, law_byte}

-- where the next token begins
abbrev behind : Formula × ℕ → ℕ
behind a = a.1

sign_part : (o : Operator) {b : ℕ} → b ≡ sign o → PartByte b
sign_part And e = is_and e
sign_part Or e = is_or e

letter_part : (b : ℕ) → lettered b ≡ true → PartByte b
letter_part b q = let p = and_parts (leb 97 b) (leb b 112) q in is_letter (leb-true 97 b p.0) (leb-true b 112 p.1)

part_some : {b : ℕ} → PartByte b → 0 < b
part_some (is_letter l u) = omega arith
part_some (is_not e) = omega arith
part_some (is_top e) = omega arith
part_some (is_bottom e) = omega arith
part_some (is_and e) = omega arith
part_some (is_or e) = omega arith

module _ {seen : ℕ} {s t : List ℕ} (alike : Alike seen s t) (full : ℕ) where
  abbrev Lawful : Reader → Reader → Type 0
  Lawful item item' = (n i : ℕ) → Begins s i → Law seen s behind i (item n i) (item' n i)

  law_room : {A : Type 0} {next : A → ℕ} {i : ℕ} (n p : ℕ) {g h : Read A} → PartByte (get_or s p 0)
      → Law seen s next i g h → Law seen s next i (room full n p g) (room full n p h)
  law_room n p b w = elim (cases_Bool (ltb n full)) [
    | inl q ↦ rw q w
    | inr q ↦ rw q (stops (record { stands = b; forward = λ z. absurd (both_ways false refl z); same = λ z l. absurd (both_ways false refl z) }))
  ]

  -- a formula of one token, by its byte
  law_one : (f : ℕ → Formula) (i : ℕ) → PartByte (get_or s i 0) → Law seen s behind i (Ok (f (get_or s i 0), past s (i + 1))) (Ok (f (get_or t i 0), past t (i + 1)))
  law_one f i b = law_back (omega arith) (λ l. ap (λ c. Ok (f c, past t (i + 1))) (alike.same i l))
      (law_past alike i (λ j. Ok (f (get_or s i 0), j)) (λ j. Ok (f (get_or s i 0), j)) (part_some b) (λ j v. law_ok behind (f (get_or s i 0), j) v))

  law_negated : (n p i : ℕ) → PartByte (get_or s p 0) → Begins s i → Law seen s behind i (negated s full n p i) (negated t full n p i)
  law_negated n p i b w = law_test alike (lettered (get_or s i 0)) (λ l. ap (λ c. lettered c) (alike.same i l))
      (λ q. let a = letter_part (get_or s i 0) q in law_room n i a (law_room (n + 1) p b (law_one (λ c. no_letter (c - 97)) i a)))
      (λ q. law_missing i w)

  law_factor : (inner inner' : Reader) → ((n i : ℕ) → get_or s i 0 ≡ 40 → Law seen s behind i (inner n i) (inner' n i))
      → Lawful (factor_by s full inner) (factor_by t full inner')
  law_factor inner inner' law n i w =
      law_test alike (lettered (get_or s i 0)) (λ l. ap (λ c. lettered c) (alike.same i l))
      (λ q. let b = letter_part (get_or s i 0) q in law_room n i b (law_one (λ c. letter (c - 97)) i b))
      (λ q. law_test alike (eqb (get_or s i 0) 33) (λ l. ap (λ c. eqb c 33) (alike.same i l))
      (λ q. let b = is_not (eqb-true _ _ q) in law_past alike i (negated s full n i) (negated t full n i) (part_some b) (λ j v. law_negated n i j b v))
      (λ q. law_test alike (eqb (get_or s i 0) 84) (λ l. ap (λ c. eqb c 84) (alike.same i l))
      (λ q. let b = is_top (eqb-true _ _ q) in law_room n i b (law_one (λ c. top) i b))
      (λ q. law_test alike (eqb (get_or s i 0) 70) (λ l. ap (λ c. eqb c 70) (alike.same i l))
      (λ q. let b = is_bottom (eqb-true _ _ q) in law_room n i b (law_one (λ c. bottom) i b))
      (λ q. law_test alike (eqb (get_or s i 0) 40) (λ l. ap (λ c. eqb c 40) (alike.same i l))
      (λ q. law n i (eqb-true _ _ q))
      (λ q. law_missing i w)))))

  law_more : (o : Operator) (item item' : Reader) → Lawful item item' → (turns n : ℕ) (a : Formula) (i : ℕ) → Begins s i
      → Law seen s behind i (more s full o item turns n a i) (more t full o item' turns n a i)
  unfolding more
  law_more o item item' items zero n a i w = law_ok behind (a, i) w
  law_more o item item' items (suc turns) n a i w =
      law_test alike (eqb (get_or s i 0) (sign o)) (λ l. ap (λ c. eqb c (sign o)) (alike.same i l))
      (λ q. let b = sign_part o (eqb-true _ _ q) in
      law_past alike i
      (λ j. item (n + size a) j >>= (λ c. room full ((n + size a) + size c.0) i (more s full o item turns n (join o a c.0) c.1)))
      (λ j. item' (n + size a) j >>= (λ c. room full ((n + size a) + size c.0) i (more t full o item' turns n (join o a c.0) c.1)))
      (part_some b)
      (λ j v. law_then _ _ (items (n + size a) j v)
      (λ c f u. law_room ((n + size a) + size c.0) i b (law_more o item item' items turns n (join o a c.0) c.1 u))))
      (λ q. law_ok behind (a, i) w)

  law_joined : (o : Operator) (item item' : Reader) → Lawful item item' → Lawful (joined s full o item) (joined t full o item')
  law_joined o item item' items n i w = law_then _ _ (items n i w) (λ a e b. law_more o item item' items full n a.0 a.1 b)

  law_inside : (inner inner' : Reader) → ((n i : ℕ) → get_or s i 0 ≡ 40 → Law seen s behind i (inner n i) (inner' n i))
      → Lawful (joined s full Or (joined s full And (factor_by s full inner)))
      (joined t full Or (joined t full And (factor_by t full inner')))
  law_inside inner inner' law =
      law_joined Or (joined s full And (factor_by s full inner)) (joined t full And (factor_by t full inner'))
      (law_joined And (factor_by s full inner) (factor_by t full inner') (law_factor inner inner' law))

  law_nested : (d n i : ℕ) → get_or s i 0 ≡ 40 → Law seen s behind i (nested s full d n i) (nested t full d n i)
  unfolding nested
  law_nested zero n i e = stops (record { stands = e; forward = λ q. omega arith; same = λ q l. refl })
  law_nested (suc d) n i e =
      law_past alike i
      (λ j. state s full d n j >>= (λ a. byte s 41 a.1 >>= (λ k. Ok (a.0, k))))
      (λ j. state t full d n j >>= (λ a. byte t 41 a.1 >>= (λ k. Ok (a.0, k))))
      (omega arith)
      (λ j v. law_then _ _ (law_inside (nested s full d) (nested t full d) (law_nested d) n j v)
      (λ a f b. law_then _ _ (law_byte alike 41 a.1 (omega arith) b) (λ k f u. law_ok behind (a.0, k) u)))

  pub law_state : (d : ℕ) → Lawful (state s full d) (state t full d)
  law_state d = law_inside (nested s full d) (nested t full d) (law_nested d)
