-- How an operator is written, and what it makes of two formulas and of their parts.
use Rattle.std.specs.Prelude.{ℕ}
use Rattle.property_parts.specs.Formula.{Formula, and, or}
use Rattle.property_parts.specs.declared.parts.Part.{Part}
use Rattle.property_parts.specs.declared.parts.Part.TheVariants as parts
use Rattle.formula_reader.specs.declared.operator.Operator.{Operator}
use Rattle.formula_reader.specs.declared.operator.Operator.TheVariants.{And, Or}

abbrev pub sign : Operator → ℕ
sign And = 38
sign Or = 124

abbrev pub join : Operator → Formula → Formula → Formula
join And = and
join Or = or

abbrev pub part : Operator → ℕ → ℕ → Part
part And = parts.And
part Or = parts.Or
