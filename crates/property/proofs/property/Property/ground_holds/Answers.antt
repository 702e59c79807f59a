use Rattle.std.proofs.Common.{◌∙◌}
use Rattle.property.proofs.Evaluated.{ground_true}
use Rattle.property.proofs.property.Property.ground_holds.Goals as goal

pub returns-clause-formula : goal.returns-clause-formula
returns-clause-formula c a is = c.holds.ensures ∙ ground_true c.args.self.now c.args.propositions a is
