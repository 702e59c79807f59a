-- What stands where a text is refused, and that its front decides.
use Rattle.std.proofs.Common.{◌≡◌, ℕ, ◌+◌, ◌<◌, true, false, cond, ◌&&◌, eqb, ltb, leb, List, length, Ok, Err, sym, refl, ap, ◌∙◌, subst, inl, inr, arith}
use Rattle.std.proofs.lemmas.Bool.{ltb-true, leb-false, eqb-true, le-ltb, ne_eqb, cases_Bool, and_cases, both_ways}
use Rattle.refusal.specs.declared.Refusal.{Refusal}
use Rattle.property_parts.specs.Formula.{size}
use Rattle.property_parts.specs.Parts.{most_parts}
use Rattle.property_text.specs.Faults.{Read, refused}
use Rattle.property_text.specs.Tokens.{past}
use Rattle.property_text.specs.Spelling.{Byte, Number}
use Rattle.property_text.specs.declared.fault.PropertyFault.{PropertyFault}
use Rattle.property_text.specs.declared.fault.PropertyFault.TheVariants.{TextTooLong, TokenMissing, BadCeiling, TooManyHops}
use Rattle.property_text.proofs.Spelled.{byte_was}
use Rattle.property_text.proofs.Written.{number_was}
use Rattle.property_text.proofs.Alike.{Alike, alike_itself, alike_take, past_alike}
use Rattle.property.specs.Limits.{most_bytes, most_lower, most_hops, most_open}
use Rattle.property.specs.Reading.{lower, hops, opening, until, closing, whole, read}
use Rattle.property.specs.Places.{Begins, Stands, local, reach, FrontDecides}
use Rattle.property.proofs.Laws.{begins_past, reach_some, Law, goes, law_stops, law_then, law_test, law_ok, law_missing, law_byte, law_at_most, law_number, law_tested}
use Rattle.property.proofs.States.{law_state}

abbrev end : List ℕ → ℕ → Read (Unit {0})
end s i = cond (eqb i (length s)) (Ok tt) (refused TokenMissing i)

module _ {seen : ℕ} {s t : List ℕ} (alike : Alike seen s t) where
  law_lower : (at line u i : ℕ) → Number s at u line → Byte s 47 line i → Begins s i → Law seen s (λ v. v.1) i (lower s u i) (lower t u i)
  law_lower at line u i above bar w = law_tested alike (λ v. leb 1 v && (leb v most_lower && leb u v)) BadCeiling i w refl
      (λ v j m q. record {
        upper_at = at;
        line_at = line;
        next = j;
        upper = u;
        lower = v;
        is_upper = above;
        is_line = bar;
        is_lower = m;
        wrong = elim (and_cases (leb 1 v) (leb v most_lower && leb u v) q) [
          | inl a ↦ inl (omega (arith, leb-false 1 v a))
          | inr a ↦ elim (and_cases (leb v most_lower) (leb u v) a) [
            | inl b ↦ inr (inl (leb-false v most_lower b))
            | inr b ↦ inr (inr (leb-false u v b))
          ]
        ];
      })

  law_hops : (i : ℕ) → Begins s i → Law seen s (λ v. v.1) i (hops s i) (hops t i)
  law_hops i w = law_tested alike (λ v. leb v most_hops) TooManyHops i w refl
      (λ v j m q. record { next = j; hops = v; is_hops = m; wrong = leb-false v most_hops q })

  law_opening : (i : ℕ) → Begins s i → Law seen s (λ a. a.1) i (opening s i) (opening t i)
  law_opening i w =
      law_then _ _ (law_byte alike 80 i (omega arith) w) (λ a e₁ w₁.
      law_then _ _ (law_at_most alike a w₁) (λ b e₂ w₂.
      law_then _ _ (law_number alike b w₂) (λ u e₃ w₃.
      law_then _ _ (law_byte alike 47 u.1 (omega arith) w₃) (λ c e₄ w₄.
      law_then _ _ (law_lower b u.1 u.0 c (number_was s b u.0 u.1 e₃) (byte_was s 47 u.1 c e₄) w₄) (λ v e₅ w₅.
      law_then _ _ (law_byte alike 91 v.1 (omega arith) w₅) (λ d e₆ w₆.
      law_ok (λ a. a.1) (record { upper = u.0; lower = v.0 }, d) w₆))))))

  law_until : (i : ℕ) → Begins s i → Law seen s (λ v. v.1) i (until s i) (until t i)
  law_until i w =
      law_then _ _ (law_byte alike 85 i (omega arith) w) (λ a e₁ w₁.
      law_then _ _ (law_at_most alike a w₁) (λ b e₂ w₂.
      law_hops b w₂))

  law_end : (i : ℕ) → Begins s i → Law seen s (λ x. length s) i (end s i) (end t i)
  law_end i w = law_test alike (eqb i (length s))
      (λ l. elim alike.ends [
        | inl e ↦ ap (λ n. eqb i n) e
        | inr e ↦ ne_eqb i (length t) (λ q. omega (arith, e.1)) ∙ sym (ne_eqb i (length s) (λ q. omega (arith, e.0)))
      ])
      (λ q. let e = eqb-true i (length s) q in
      goes (record { begins = subst (λ k. Begins s k) e w; forward = omega arith; same = λ l. refl }))
      (λ q. law_missing i w)

  law_closing : (i : ℕ) → Begins s i → Law seen s (λ x. length s) i (closing s i) (closing t i)
  law_closing i w = law_then _ _ (law_byte alike 93 i (omega arith) w) (λ k e v. law_end k v)

  law_whole : (i : ℕ) → Begins s i → Law seen s (λ x. length s) i (whole s i) (whole t i)
  law_whole i w =
      law_then _ _ (law_opening i w) (λ a e₁ w₁.
      law_then _ _ (law_state alike most_parts most_open 0 a.1 w₁) (λ b e₂ w₂.
      law_then _ _ (law_until b.1 w₂) (λ c e₃ w₃.
      law_then _ _ (law_state alike most_parts most_open (size b.0) c.1 w₃) (λ d e₄ w₄.
      law_then _ _ (law_closing d.1 w₄) (λ x e₅ w₅.
      law_ok (λ x. length s) (record { ceiling = a.0; ground_formula = b.0; hops = c.0; goal_formula = d.0 }) w₅)))))

-- a text that is not too long
within : (s : List ℕ) (r : Refusal PropertyFault) → read s ≡ Err r → ltb most_bytes (length s) ≡ false → whole s (past s 0) ≡ Err r
unfolding read
within s r e q = rw q at e

too_long : (s : List ℕ) (r : Refusal PropertyFault) → read s ≡ Err r → ltb most_bytes (length s) ≡ true → record { fault = TextTooLong; place = most_bytes } ≡ r
unfolding read
too_long s r e q = let f = rw q at e in cc

pub stands : (s : List ℕ) (r : Refusal PropertyFault) → read s ≡ Err r → Stands s r.fault r.place
stands s r e = elim (cases_Bool (ltb most_bytes (length s))) [
  | inl q ↦ subst (λ r. Stands s r.fault r.place) (too_long s r e q) (refl, ltb-true most_bytes (length s) q)
  | inr q ↦ (law_stops (law_whole (alike_itself 0 s) (past s 0) (begins_past s 0 (omega arith))) (within s r e q)).stands
]

pub front_decides : (s : List ℕ) (r : Refusal PropertyFault) → read s ≡ Err r → FrontDecides s r
unfolding read
front_decides s r e f t same h = elim (cases_Bool (ltb most_bytes (length s))) [
  | inl q ↦ absurd (both_ways false refl (subst (λ r. local r.fault ≡ true) (sym (too_long s r e q)) f))
  | inr q ↦
      let alike = alike_take (r.place + reach r.fault) s t same in
      let p = law_stops (law_whole alike (past s 0) (begins_past s 0 (omega arith))) (within s r e q) in
      let l : past s 0 < r.place + reach r.fault = omega (arith, p.forward f, reach_some r.fault f) in
      rw (le-ltb most_bytes (length t) h) (ap (λ i. whole t i) (past_alike alike 0 l) ∙ p.same f (omega arith))
]
