-- The parts of a property that a text asks for are true where its formulas are.
use Rattle.std.proofs.Common.{◌≡◌, ℕ, ◌+◌, ◌≤◌, false, ◌++◌, length, ap, ◌∙◌, arith, length-append}
use Rattle.property_parts.specs.Formula.{holds_in, size, parts_of}
use Rattle.property_parts.specs.Parts.{Falls, truth_rule, truth}
use Rattle.property_parts.proofs.Values.{length_parts, first_made, second_made, truth_local, truth_follows}
use Rattle.std.proofs.lemmas.List.{length-take-le}
use Rattle.property_parts.specs.Table.{held}
use Rattle.property_parts.proofs.Filled.{held_falls}
use Rattle.property.specs.Asked.{Asked, in_parts}
use Rattle.property.specs.Meaning.{meaning}
use Rattle.property.specs.declared.property.Property.{Property}

-- how many parts a property has
pub count_parts : (a : Asked) → length (in_parts a).parts ≡ size a.ground_formula + size a.goal_formula
count_parts a =
    let x = length_parts 0 a.ground_formula in
    let y = length_parts (size a.ground_formula) a.goal_formula in
    simp length-append (omega arith)

module _ (p : Property) (w : ℕ) (a : Asked) (is : meaning p ≡ in_parts a) where
  parts_are : held p.parts ≡ parts_of 0 a.ground_formula ++ parts_of (size a.ground_formula) a.goal_formula
  parts_are = ap (λ q. q.parts) is

  enough : size a.ground_formula + size a.goal_formula ≤ p.parts.count
  enough =
      let x = ap (λ q. length q.parts) is in
      let y = count_parts a in
      let few : p.parts.count ≤ length p.parts.parts = omega (arith, p.parts.few, p.parts.whole) in
      let z = length-take-le p.parts.count p.parts.parts few in
      omega arith

  falls : Falls (held p.parts) p.parts.count
  falls = held_falls p.parts.parts p.parts.count p.parts.falls

  pub ground_true : truth (held p.parts) w p.ground_part ≡ holds_in a.ground_formula w
  ground_true =
      ap (λ q. truth (held p.parts) w q.ground_part) is
      ∙ first_made false (truth_rule w) (truth_local w) (λ f. holds_in f w) (truth_follows w) (held p.parts) p.parts.count falls a.ground_formula a.goal_formula enough parts_are

  pub goal_true : truth (held p.parts) w p.goal_part ≡ holds_in a.goal_formula w
  goal_true =
      ap (λ q. truth (held p.parts) w q.goal_part) is
      ∙ second_made false (truth_rule w) (truth_local w) (λ f. holds_in f w) (truth_follows w) (held p.parts) p.parts.count falls a.ground_formula a.goal_formula enough parts_are
