use Rattle.std.proofs.Common.{◌≡◌, ◌-◌, ◌≤◌}
use Rattle.chain.specs.Limits.{most_edges}
use Rattle.refusal.specs.Demands.{told}
use Rattle.packed_file.specs.Faults.{rows_demands}
use Rattle.packed_file.proofs.fields.Fields.rows.Given as goal

-- the rows that are left decide
abbrev pub invariant-loop : goal.invariant-loop
invariant-loop l =
    let body = l.fn.self.body.now in
    let states = l.header.states in
    let denominator = l.header.denominator in
    record {
      same : l.self.body ≡ l.fn.self.body;
      tells : told (rows_demands body states denominator states l.fn.self.at 0) (tt {0}) ≡ told (rows_demands body states denominator (states - l.counter) l.self.at l.edges) (tt {0});
      few : l.edges ≤ most_edges;
    }
