-- The plain form of a formula spells it, with no more parentheses open at once than any text that spells it.
use Rattle.std.proofs.Common.{◌≡◌, ℕ, zero, suc, ◌+◌, ◌<◌, ◌≤◌, max, Bool, true, cond, List, [], ◌∷◌, ◌++◌, length, get_or, sym, ◌∙◌, subst, arith, length-append}
use Rattle.property_parts.specs.Form.{enclosed, and_needs, or_needs, plain}
use Rattle.property_parts.specs.Formula.{Formula, letter, no_letter, top, bottom, and, or}
use Rattle.property_parts.specs.declared.kinds.Kind.{Kind}
use Rattle.property_parts.specs.declared.kinds.Kind.TheVariants.{State, Term, Factor}
use Rattle.property_text.specs.Spelling.{Gap, Byte}
use Rattle.property_text.proofs.Standing.{Stands, stands_both, no_space}
use Rattle.formula_reader.specs.Grammar.{Spells}
use Rattle.formula_reader.specs.Grammar.Spells.{a_letter, no_such_letter, truth, falsehood, in_parentheses, one_factor, one_more_factor, one_term, one_more_term}

-- its letters are from a to p
abbrev pub Lettered : Formula → Type 0
Lettered (letter l) = l < 16
Lettered (no_letter l) = l < 16
Lettered top = Unit {0}
Lettered bottom = Unit {0}
Lettered (and a b) = Lettered a × Lettered b
Lettered (or a b) = Lettered a × Lettered b

abbrev opened : Bool → ℕ → ℕ
opened needs n = cond needs (suc n) n

-- how many parentheses are open at once in its plain form
abbrev pub needed : Formula → Kind → ℕ
needed (letter l) kind = 0
needed (no_letter l) kind = 0
needed top kind = 0
needed bottom kind = 0
needed (and a b) kind = opened (and_needs kind) (max (needed a Term) (needed b Factor))
needed (or a b) kind = opened (or_needs kind) (max (needed a State) (needed b Term))

factor_needs : (a : Formula) → needed a Factor ≤ suc (needed a State)
factor_needs (letter l) = omega arith
factor_needs (no_letter l) = omega arith
factor_needs top = omega arith
factor_needs bottom = omega arith
factor_needs (and a b) = omega arith
factor_needs (or a b) = omega arith

term_needs : (a : Formula) → needed a Term ≤ needed a Factor
term_needs (letter l) = omega arith
term_needs (no_letter l) = omega arith
term_needs top = omega arith
term_needs bottom = omega arith
term_needs (and a b) = omega arith
term_needs (or a b) = omega arith

state_needs : (a : Formula) → needed a State ≤ needed a Term
state_needs (letter l) = omega arith
state_needs (no_letter l) = omega arith
state_needs top = omega arith
state_needs bottom = omega arith
state_needs (and a b) = omega arith
state_needs (or a b) = omega arith

pub spells_needs : {s : List ℕ} {k : Kind} {d i j : ℕ} {a : Formula} → Spells s k d i j a → needed a k ≤ d
spells_needs (a_letter l h t) = omega arith
spells_needs (no_such_letter l h t u) = omega arith
spells_needs (truth t) = omega arith
spells_needs (falsehood t) = omega arith
spells_needs (in_parentheses {a = a} t p u) = omega (arith, factor_needs a, spells_needs p)
spells_needs (one_factor {a = a} p) = omega (arith, term_needs a, spells_needs p)
spells_needs (one_more_factor p t q) = omega (arith, spells_needs p, spells_needs q)
spells_needs (one_term {a = a} p) = omega (arith, state_needs a, spells_needs p)
spells_needs (one_more_term p t q) = omega (arith, spells_needs p, spells_needs q)

pub spells_lettered : {s : List ℕ} {k : Kind} {d i j : ℕ} {a : Formula} → Spells s k d i j a → Lettered a
spells_lettered (a_letter l h t) = h
spells_lettered (no_such_letter l h t u) = h
spells_lettered (truth t) = tt
spells_lettered (falsehood t) = tt
spells_lettered (in_parentheses t p u) = spells_lettered p
spells_lettered (one_factor p) = spells_lettered p
spells_lettered (one_more_factor p t q) = (spells_lettered p, spells_lettered q)
spells_lettered (one_term p) = spells_lettered p
spells_lettered (one_more_term p t q) = (spells_lettered p, spells_lettered q)

module _ (s : List ℕ) where
  -- a plain form begins with no space
  begins : (a : Formula) (k : Kind) (i : ℕ) → Stands s i (plain a k) → 32 < get_or s i 0
  begins (letter l) k i t = omega arith
  begins (no_letter l) k i t = omega arith
  begins top k i t = omega arith
  begins bottom k i t = omega arith
  begins (and a b) State i t = begins a Term i (stands_both s (plain a Term) (38 ∷ plain b Factor) i t).0
  begins (and a b) Term i t = begins a Term i (stands_both s (plain a Term) (38 ∷ plain b Factor) i t).0
  begins (and a b) Factor i t = omega arith
  begins (or a b) State i t = begins a State i (stands_both s (plain a State) (124 ∷ plain b Term) i t).0
  begins (or a b) Term i t = omega arith
  begins (or a b) Factor i t = omega arith

  pub begins_solid : (a : Formula) (k : Kind) (i : ℕ) → Stands s i (plain a k) → get_or s i 0 ≡ 32 → ⊥
  begins_solid a k i t e = omega (arith, begins a k i t)

  as_kind : (k : Kind) {d i j : ℕ} {a : Formula} → Spells s Factor d i j a → Spells s k d i j a
  as_kind State p = one_term (one_factor p)
  as_kind Term p = one_factor p
  as_kind Factor p = p

  -- the form spells the formula wherever it stands and n more parentheses may be open
  abbrev SpelledBy : Formula → Kind → ℕ → List ℕ → Type 0
  SpelledBy a k n form = (d i e : ℕ) → n ≤ d → Stands s i form → Gap s (i + length form) e → Spells s k d i e a

  abbrev Plainly : Formula → Kind → Type 0
  Plainly a k = SpelledBy a k (needed a k) (plain a k)

  moved : {i j e : ℕ} → i ≡ j → Gap s i e → Gap s j e
  moved {i} {j} {e} q g = subst (λ k. Gap s k e) q g

  -- an operand, the operator's byte, and the other operand
  joined : (sign : ℕ) (a b c : Formula) (k ι : Kind) → (sign ≡ 32 → ⊥)
      → ((d i j m l : ℕ) → Spells s k d i j a → Byte s sign j m → Spells s ι d m l b → Spells s k d i l c)
      → Plainly a k → Plainly b ι → SpelledBy c k (max (needed a k) (needed b ι)) (plain a k ++ (sign ∷ plain b ι))
  joined sign a b c k ι solid join of-a of-b d i e n t g =
      let u = stands_both s (plain a k) (sign ∷ plain b ι) i t in
      let j : ℕ = i + length (plain a k) in
      let q : i + length (plain a k ++ (sign ∷ plain b ι)) ≡ (j + 1) + length (plain b ι) = simp length-append (omega arith) in
      join d i j (j + 1) e (of-a d i j (omega arith) u.0 (no_space s j (λ z. solid (sym u.1.0 ∙ z))))
      (record { stands = u.1.0; gap = no_space s (j + 1) (begins_solid b ι (j + 1) u.1.1) })
      (of-b d (j + 1) e (omega arith) u.1.1 (moved q g))

  enclosing : (a : Formula) (n : ℕ) → SpelledBy a State n (plain a State) → SpelledBy a Factor (suc n) (enclosed true (plain a State))
  enclosing a n inner zero i e h t g = absurd (omega arith)
  enclosing a n inner (suc d) i e h t g =
      let u = stands_both s (plain a State) (41 ∷ []) (i + 1) t.1 in
      let j : ℕ = (i + 1) + length (plain a State) in
      let q : i + length (enclosed true (plain a State)) ≡ j + 1 = simp length-append (omega arith) in
      in_parentheses (record { stands = t.0; gap = no_space s (i + 1) (begins_solid a State (i + 1) u.0) })
      (inner d (i + 1) j (omega arith) u.0 (no_space s j (λ z. omega (arith, u.1.0))))
      (record { stands = u.1.0; gap = moved q g })

  ands : (a b : Formula) (k : Kind) → Plainly (and a b) Term → Plainly (and a b) k
  ands a b State inner d i e n t g = one_term (inner d i e n t g)
  ands a b Term inner d i e n t g = inner d i e n t g
  ands a b Factor inner d i e n t g = enclosing (and a b) _ (λ d i e n t g. one_term (inner d i e n t g)) d i e n t g

  ors : (a b : Formula) (k : Kind) → Plainly (or a b) State → Plainly (or a b) k
  ors a b State inner d i e n t g = inner d i e n t g
  ors a b Term inner d i e n t g = one_factor (enclosing (or a b) _ inner d i e n t g)
  ors a b Factor inner d i e n t g = enclosing (or a b) _ inner d i e n t g

  plainly : (a : Formula) (k : Kind) → Lettered a → Plainly a k
  plainly (letter l) k h = λ d i e n t g. as_kind k (a_letter l h (record { stands = t.0; gap = g }))
  plainly (no_letter l) k h = λ d i e n t g.
      as_kind k (no_such_letter l h
      (record { stands = t.0; gap = no_space s (i + 1) (λ z. omega arith) }) (record { stands = t.1.0; gap = moved (omega arith) g }))
  plainly top k h = λ d i e n t g. as_kind k (truth (record { stands = t.0; gap = g }))
  plainly bottom k h = λ d i e n t g. as_kind k (falsehood (record { stands = t.0; gap = g }))
  plainly (and a b) k h =
      ands a b k (joined 38 a b (and a b) Term Factor (λ z. omega arith) (λ d i j m l x y z. one_more_factor x y z)
      (plainly a Term h.0) (plainly b Factor h.1))
  plainly (or a b) k h =
      ors a b k (joined 124 a b (or a b) State Term (λ z. omega arith) (λ d i j m l x y z. one_more_term x y z)
      (plainly a State h.0) (plainly b Term h.1))

  -- where it stands, and as deep as it is spelled in another text
  pub plain_spelled : {t : List ℕ} {k : Kind} {d p q : ℕ} {a : Formula} → Spells t k d p q a
      → (i e : ℕ) → Stands s i (plain a k) → Gap s (i + length (plain a k)) e → Spells s k d i e a
  plain_spelled {t} {k} {d} {p} {q} {a} w i e u g = plainly a k (spells_lettered w) d i e (spells_needs w) u g
