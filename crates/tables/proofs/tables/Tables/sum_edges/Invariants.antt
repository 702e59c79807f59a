use Rattle.std.proofs.Common.{◌≡◌, ◌+◌, ◌-◌, ◌*◌, ◌^◌, ◌≤◌, drop}
use Rattle.std.specs.Slice.Iter.{iter_rest}
use Rattle.chain.specs.Markov.{weight_sum}
use Rattle.refusal.specs.Demands.{told}
use Rattle.tables.specs.Tabled.{next_edges}
use Rattle.tables.specs.Faults.{edges_demands}
use Rattle.tables.proofs.tables.Tables.sum_edges.Given as goal

-- the edges that are left decide, and add to the sum so far
abbrev pub invariant-loop : goal.invariant-loop
invariant-loop l =
    let all = iter_rest l.initial.edges in
    let left = iter_rest l.edges in
    let more = l.count - l.counter in
    record {
      decided : told (edges_demands l.self l.state l.count all 0) (weight_sum (next_edges l.count all)) ≡ told (edges_demands l.self l.state more left l.low) (l.sum + weight_sum (next_edges more left));
      walked : left ≡ drop l.counter all;
      small : l.sum ≤ 2 ^ 32 * l.counter;
    }
