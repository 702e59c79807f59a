use Rattle.std.proofs.Common.{◌≡◌, ◌+◌, ◌++◌, length, drop}
use Rattle.table_chain.specs.Places.{first_edges}
use Rattle.table_chain.proofs.Lookup.{counts}
use Rattle.table_chain.proofs.questions.find_first_edges.Given as goal

abbrev pub invariant-loop-row : goal.invariant-loop-row
invariant-loop-row l =
    let rows = l.tables.rows.now in
    let left = drop l.row-index rows in
    record {
      noted : length l.firsts.items ≡ l.row-index;
      placed : l.firsts.items ++ first_edges l.first left ≡ first_edges 0 rows;
      passed : l.first + counts left ≡ length l.tables.edges.now;
    }
