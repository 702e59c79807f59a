use Rattle.std.proofs.Common.{◌∙◌}
use Rattle.property.proofs.Evaluated.{goal_true}
use Rattle.property.proofs.property.Property.goal_holds.Goals as goal

pub returns-clause-formula : goal.returns-clause-formula
returns-clause-formula c a is = c.holds.ensures ∙ goal_true c.args.self.now c.args.propositions a is
