use Rattle.std.proofs.Common.{◌≡◌, ◌+◌, ◌-◌, ◌*◌, ◌≤◌}
use Rattle.chain.specs.Markov.{weight_sum}
use Rattle.refusal.specs.Demands.{told}
use Rattle.packed_file.specs.Format.{edges_at}
use Rattle.packed_file.specs.Faults.{edges_demands}
use Rattle.packed_file.proofs.fields.Fields.edges.Given as goal

-- the edges that are left decide, and their weights are what is left of the sum
abbrev pub invariant-loop : goal.invariant-loop
invariant-loop l =
    let body = l.fn.self.body.now in
    let first = l.fn.self.at in
    let total = weight_sum (edges_at body first l.count) in
    record {
      same : l.self.body ≡ l.fn.self.body;
      moved : l.self.at ≡ first + 26 * l.counter;
      tells : told (edges_demands body l.states l.count first 0) total ≡ told (edges_demands body l.states (l.count - l.counter) l.self.at l.low) total;
      sums : l.sum + weight_sum (edges_at body l.self.at (l.count - l.counter)) ≡ total;
      fits : l.sum ≤ 65535 * l.counter;
    }
