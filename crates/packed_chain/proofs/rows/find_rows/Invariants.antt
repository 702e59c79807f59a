use Rattle.std.proofs.Common.{◌≡◌, ◌+◌, ◌-◌, ◌++◌}
use Rattle.chain.specs.Markov.{edges_in}
use Rattle.chain.specs.Questions.{edge_total}
use Rattle.packed_file.specs.Format.{decoded, rows_at}
use Rattle.packed_chain.specs.Places.{places_from, row_places}
use Rattle.packed_chain.proofs.rows.find_rows.Given as goal

-- what was found, and what the rows that are left add to it
abbrev pub invariant-loop : goal.invariant-loop
invariant-loop l = record {
  placed : l.rows.items ++ places_from l.body l.at (l.states - l.counter) ≡ row_places l.body;
  summed : l.edges + edges_in (rows_at l.body l.at (l.states - l.counter)) ≡ edge_total (decoded l.body);
}
