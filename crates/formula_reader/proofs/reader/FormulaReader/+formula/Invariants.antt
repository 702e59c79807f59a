use Rattle.std.proofs.Common.{◌≡◌, ℕ, ◌+◌, ◌-◌, ◌*◌, ◌≤◌, length}
use Rattle.property_parts.specs.Parts.{most_parts}
use Rattle.formula_reader.specs.Reading.{item}
use Rattle.formula_reader.specs.declared.operator.Operator.{Operator}
use Rattle.formula_reader.specs.declared.operator.Operator.TheVariants.{And, Or}
use Rattle.formula_reader.specs.declared.reader.FormulaReader.{FormulaReader}
use Rattle.formula_reader.proofs.Going.{Goes}
use Rattle.formula_reader.proofs.reader.FormulaReader.+formula.Given as goal

-- calls enough for each byte that is left of the text
abbrev calls_for : FormulaReader → ℕ
calls_for r = 8 * (length r.tokens.text.now - r.tokens.at)

-- how many calls stand between a factor and the items that the operator joins
abbrev above : Operator → ℕ
above And = 0
above Or = 3

abbrev pub decreases-read_nested : goal.decreases-read_nested
decreases-read_nested l = calls_for l.self.now

abbrev pub decreases-read_factor : goal.decreases-read_factor
decreases-read_factor l = calls_for l.self.now + 1

abbrev pub decreases-read_item : goal.decreases-read_item
decreases-read_item l = calls_for l.self.now + above l.operator + 2

abbrev pub decreases-read_joined : goal.decreases-read_joined
decreases-read_joined l = calls_for l.self.now + above l.operator + 3

abbrev pub decreases-read_term : goal.decreases-read_term
decreases-read_term l = calls_for l.self.now + 4

abbrev pub decreases-read_state : goal.decreases-read_state
decreases-read_state l = calls_for l.self.now + 7

abbrev pub invariant-read_joined-loop-operator : goal.invariant-read_joined-loop-operator
invariant-read_joined-loop-operator l =
    record {
      goes : Goes l.fn.self.tokens.text.now l.operator (item l.fn.self.tokens.text.now most_parts l.operator l.deeper)
          l.initial.self.parts l.initial.left l.initial.self.tokens.at l.self.parts l.left l.self.tokens.at;
      later : l.initial.self.tokens.at ≤ l.self.tokens.at;
      text : l.self.tokens.text ≡ l.fn.self.tokens.text;
    }

abbrev pub decreases-read_joined-loop-operator : goal.decreases-read_joined-loop-operator
decreases-read_joined-loop-operator l = length l.self.tokens.text.now - l.self.tokens.at
