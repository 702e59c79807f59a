-- What is written of a formula's own part is what is written of the formula.
use Rattle.std.proofs.Common.{◌≡◌, ℕ, true, false, List, [], ◌∷◌, ◌++◌, get_or, sym, refl, ap, ◌∙◌, ap₂}
use Rattle.std.proofs.lemmas.Bool.{ltb-true}
use Rattle.property_parts.specs.Form.{enclosed, part_needs, and_form, or_form, plain, form_rule, form}
use Rattle.property_parts.specs.Table.{held}
use Rattle.property_parts.specs.declared.form.PartForm.{PartForm}
use Rattle.property_parts.specs.declared.kinds.Kind.{Kind}
use Rattle.property_parts.specs.declared.kinds.Kind.TheVariants.{State, Factor}
use Rattle.property_parts.specs.declared.parts.Part.{Part}
use Rattle.property_parts.specs.declared.parts.Part.TheVariants.{Letter, Not, True, False, And, Or}
use Rattle.property_parts.proofs.Filled.{both_earlier, held_falls}
use Rattle.property_parts.proofs.Made.{Local, made_at}
use Rattle.property_parts.proofs.Values.{Follows}

pub form_local : Local form_rule
form_local (Letter l) n s t h e = refl
form_local (Not a) n s t h e = ap (λ f kind. 33 ∷ f Factor) (e a (ltb-true a n h))
form_local True n s t h e = refl
form_local False n s t h e = refl
form_local (And a b) n s t h e = let q = both_earlier a b n h in ap₂ and_form (e a q.0) (e b q.1)
form_local (Or a b) n s t h e = let q = both_earlier a b n h in ap₂ or_form (e a q.0) (e b q.1)

pub form_follows : Follows form_rule plain
form_follows =
    record {
      on_letter = λ t l. refl;
      on_not = λ t l k e. ap (λ f kind. 33 ∷ f Factor) e;
      on_top = λ t. refl;
      on_bottom = λ t. refl;
      on_and = λ t a b j k x y. ap₂ and_form x y;
      on_or = λ t a b j k x y. ap₂ or_form x y;
    }

rule_enclosed : (f : ℕ → Kind → List ℕ) (p : Part) (kind : Kind) → enclosed (part_needs p kind) (form_rule f p State) ≡ form_rule f p kind
rule_enclosed f (Letter l) kind = refl
rule_enclosed f (Not a) kind = refl
rule_enclosed f True kind = refl
rule_enclosed f False kind = refl
rule_enclosed f (And a b) kind = refl
rule_enclosed f (Or a b) kind = refl

-- of a part where it stands as a kind
module _ (v : PartForm) {p : Part} (at : p ≡ get_or (held v.parts.now) v.number (Letter 0)) where
  abbrev made : ℕ → Kind → List ℕ
  made = form (held v.parts.now)

  form_at : (kind : Kind) → form_rule made p kind ≡ made v.number kind
  form_at kind = ap (λ f. f kind) (sym (made_at _ form_rule form_local _ _ (held_falls _ _ v.parts.now.falls) v.number p v.filled (sym at)))

  pub form_enclosed : part_needs p v.kind ≡ true → 40 ∷ (made v.number State ++ (41 ∷ [])) ≡ made v.number v.kind
  form_enclosed e = ap₂ enclosed (sym e) (sym (form_at State)) ∙ (rule_enclosed made p v.kind ∙ form_at v.kind)

  pub form_bare : {q : Part} → p ≡ q → false ≡ part_needs p v.kind → form_rule made q State ≡ made v.number v.kind
  form_bare {q} e bare = ap (λ r. form_rule made r State) (sym e)
      ∙ (ap (λ b. enclosed b (form_rule made p State)) bare ∙ (rule_enclosed made p v.kind ∙ form_at v.kind))
