use Rattle.std.proofs.Common.{sym}
use Rattle.table_chain.proofs.Lookup.{row_read, propositions_past, propositions_found}
use Rattle.table_chain.proofs.questions.TableChainChain.propositions.Goals as goal

pub returns-in_err-row : goal.returns-in_err-row
returns-in_err-row c = rw c.from_residual.ensures (sym (propositions_past c.args.self.now.tables c.args.state c.in_err-row.ensures.lookup.3))

pub returns : goal.returns
returns c =
    let t = c.args.self.now.tables in
    sym (propositions_found t c.args.state c.in_ok-row.row.now (row_read t.rows.now c.args.state c.in_ok-row.row c.in_ok-row.ensures.lookup))
