-- What a property asks, in formulas and in parts.
use Rattle.std.specs.Prelude.{ℕ, ◌+◌, List, ◌++◌}
use Rattle.property_parts.specs.Formula.{Formula, root, size, parts_of}
use Rattle.property_parts.specs.declared.parts.Part.{Part}
use Rattle.property.specs.declared.ceiling.Ceiling.{Ceiling}

-- at most the ceiling of all runs reach the goal within so many moves, through states of the ground alone
pub record Asked : Type 0 where
  pub ceiling : Ceiling
  pub ground_formula : Formula
  pub hops : ℕ
  pub goal_formula : Formula

-- the same, with the formulas as the numbers of their parts
pub record InParts : Type 0 where
  pub ceiling : Ceiling
  pub ground_part : ℕ
  pub hops : ℕ
  pub goal_part : ℕ
  pub parts : List Part

-- first the parts of the ground, then those of the goal
abbrev pub in_parts : Asked → InParts
in_parts a = record {
  ceiling = a.ceiling;
  ground_part = root a.ground_formula;
  hops = a.hops;
  goal_part = size a.ground_formula + root a.goal_formula;
  parts = parts_of 0 a.ground_formula ++ parts_of (size a.ground_formula) a.goal_formula;
}
