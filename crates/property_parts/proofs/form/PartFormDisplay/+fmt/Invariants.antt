use Rattle.std.proofs.Common.{ℕ, ◌+◌, ◌*◌}
use Rattle.property_parts.specs.declared.kinds.Kind.{Kind}
use Rattle.property_parts.specs.declared.kinds.Kind.TheVariants.{State, Term, Factor}
use Rattle.property_parts.proofs.form.PartFormDisplay.+fmt.Given as goal

-- a part in parentheses is written once more, as a state
abbrev again : Kind → ℕ
again State = 0
again Term = 1
again Factor = 1

abbrev pub decreases-fmt : goal.decreases-fmt
decreases-fmt g l = 2 * l.self.now.number + again l.self.now.kind
