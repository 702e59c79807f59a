use Rattle.std.proofs.Common.{rules}
use Rattle.tables.proofs.Fits.{judges}
use Rattle.tables.proofs.order.check.Goals as goal

pub returns-in_err-check_head-clause-judges : goal.returns-in_err-check_head-clause-judges
returns-in_err-check_head-clause-judges c = judges c.args.tables.now _ (search rules)

pub returns-clause-judges : goal.returns-clause-judges
returns-clause-judges c = judges c.args.tables.now _ (search rules)
