-- What a factor gives, by the byte that it begins with.
use Rattle.std.proofs.Common.{◌≡◌, ℕ, zero, suc, ◌+◌, ◌-◌, ◌<◌, ◌≤◌, true, cond, ltb, List, get_or, Ok, Err, IfOk, sym, refl, ap, ◌∙◌, arith}
use Rattle.std.proofs.lemmas.Bool.{lt-ltb, le-leb, and_from}
use Rattle.refusal.specs.declared.Refusal.{Refusal}
use Rattle.property_parts.specs.Formula.{Formula, letter, top, bottom}
use Rattle.property_text.specs.Faults.{Read, ◌>>=◌}
use Rattle.property_text.specs.Tokens.{past, byte}
use Rattle.property_text.specs.declared.fault.PropertyFault.{PropertyFault}
use Rattle.property_text.specs.declared.fault.PropertyFault.TheVariants.{TooDeep}
use Rattle.property_text.proofs.Read.{err_ok}
use Rattle.formula_reader.specs.Reading.{Reader, lettered, single, negated, factor_by, nested, state}
use Rattle.formula_reader.specs.Answers.{Told, Answers}
use Rattle.formula_reader.specs.declared.reader.FormulaReader.{FormulaReader}

-- the same, of what is equal to it
told_as : (reading whole : Reader) (before after : FormulaReader) (r : Read ℕ)
    → whole before.parts.count before.tokens.at ≡ reading before.parts.count before.tokens.at → Told reading before after r → Told whole before after r
told_as reading whole before after (Ok number) e m = record { formula = m.formula; read = e ∙ m.read; own = m.own; count = m.count; parts = m.parts }
told_as reading whole before after (Err refusal) e m = e ∙ m

pub answers_as : (reading whole : Reader) (before after : FormulaReader) (r : Read ℕ)
    → whole before.parts.count before.tokens.at ≡ reading before.parts.count before.tokens.at → Answers reading before after r → Answers whole before after r
answers_as reading whole before after r e a = record { tells = told_as reading whole before after r e a.tells; same = a.same; later = a.later }

-- behind one token
pub answers_single : (reading : Reader) (before after : FormulaReader) (r : Read ℕ)
    → Told reading before after r → IfOk r (λ _. before.tokens.at < after.tokens.at) → after.tokens.text ≡ before.tokens.text → Answers reading before after r
answers_single reading before after (Ok number) m l t = record { tells = m; same = t; later = omega arith }
answers_single reading before after (Err refusal) m l t = record { tells = m; same = t; later = tt }

pub is_lettered : (c : ℕ) → 97 ≤ c → c ≤ 112 → lettered c ≡ true
is_lettered c l u = and_from _ _ (le-leb 97 c l) (le-leb c 112 u)

module _ (s : List ℕ) (full : ℕ) (inner : Reader) (n i : ℕ) where
  pub factor_letter : 97 ≤ get_or s i 0 → get_or s i 0 ≤ 112 → factor_by s full inner n i ≡ single s full (letter (get_or s i 0 - 97)) n i
  factor_letter l u = rw (is_lettered (get_or s i 0) l u)

  pub factor_not : get_or s i 0 ≡ 33 → factor_by s full inner n i ≡ negated s full n i (past s (i + 1))
  factor_not e = rw e

  pub factor_top : get_or s i 0 ≡ 84 → factor_by s full inner n i ≡ single s full top n i
  factor_top e = rw e

  pub factor_bottom : get_or s i 0 ≡ 70 → factor_by s full inner n i ≡ single s full bottom n i
  factor_bottom e = rw e

  pub factor_open : get_or s i 0 ≡ 40 → factor_by s full inner n i ≡ inner n i
  factor_open e = rw e

module _ (s : List ℕ) (full n i : ℕ) where
  -- where the demand that one more parenthesis may be open is not met
  pub nested_refused : {A : Type 0} (d : ℕ) (a : A) (r : Refusal PropertyFault) → Err r ≡ cond (ltb 0 d) (Ok a) (Err (record { fault = TooDeep; place = i })) → nested s full d n i ≡ Err r
  unfolding nested
  nested_refused zero a r e = cc
  nested_refused (suc d) a r e = let open_one : ltb 0 (suc d) ≡ true = lt-ltb _ _ (omega arith) in err_ok (rw open_one at e)

  nested_more : (d : ℕ) → 0 < d → nested s full d n i ≡ (state s full (d - 1) n (past s (i + 1)) >>= (λ a. byte s 41 a.1 >>= (λ k. Ok (a.0, k))))
  unfolding nested
  nested_more zero h = absurd (omega arith)
  nested_more (suc d) h = let e : suc d - 1 ≡ d = omega arith in rw e

-- a formula in parentheses, the first of which is at i; behind it the text u is read from j on, and from k on the text v
module _ (s : List ℕ) (full n i d : ℕ) (deeper : 0 < d) {u : List ℕ} {j : ℕ} (same : u ≡ s) (next : j ≡ past s (i + 1)) where
  inside : nested s full d n i ≡ (state u full (d - 1) n j >>= (λ a. byte s 41 a.1 >>= (λ k. Ok (a.0, k))))
  inside = rw (same, next) (nested_more s full n i d deeper)

  pub inside_bad : {r : Refusal PropertyFault} → state u full (d - 1) n j ≡ Err r → nested s full d n i ≡ Err r
  inside_bad h = inside ∙ rw h refl

  module _ {v : List ℕ} (still : v ≡ u) (a : Formula) (k : ℕ) (h : state u full (d - 1) n j ≡ Ok (a, k)) where
    closing : byte v 41 k ≡ byte s 41 k
    closing = ap (λ x. byte x 41 k) (still ∙ same)

    pub inside_unclosed : {r : Refusal PropertyFault} → Err r ≡ byte v 41 k → nested s full d n i ≡ Err r
    inside_unclosed b = inside ∙ rw (h, sym (b ∙ closing)) refl

    pub inside_closed : (l : ℕ) → Ok l ≡ byte v 41 k → nested s full d n i ≡ Ok (a, l)
    inside_closed l b = inside ∙ rw (h, sym (b ∙ closing)) refl
