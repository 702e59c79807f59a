use Rattle.std.proofs.Common.{sym}
use Rattle.table_chain.proofs.Lookup.{row_read, degree_past, degree_found}
use Rattle.table_chain.proofs.questions.TableChainChain.edge_count.Goals as goal

pub returns-in_err-row : goal.returns-in_err-row
returns-in_err-row c = rw c.from_residual.ensures (sym (degree_past c.args.self.now.tables c.args.state c.in_err-row.ensures.lookup.3))

pub returns : goal.returns
returns c =
    let t = c.args.self.now.tables in
    sym (degree_found t c.args.state c.in_ok-row.row.now (row_read t.rows.now c.args.state c.in_ok-row.row c.in_ok-row.ensures.lookup))
