use Rattle.std.proofs.Common.{◌≡◌, ◌≤◌, drop}
use Rattle.std.specs.Slice.Iter.{iter_rest}
use Rattle.chain.specs.Limits.{most_edges}
use Rattle.refusal.specs.Demands.{told}
use Rattle.tables.specs.Faults.{rows_demands}
use Rattle.tables.proofs.tables.Tables.check_rows.Given as goal

-- the rows that are left decide
abbrev pub invariant-loop-state : goal.invariant-loop-state
invariant-loop-state l =
    let rows = l.self.rows.now in
    record {
      decided : told (rows_demands l.self 0 rows 0 l.self.edges.now) (tt {0}) ≡ told (rows_demands l.self l.state (drop l.state rows) l.before (iter_rest l.edges)) (tt {0});
      few : l.before ≤ most_edges;
    }
