-- What a chain answers to each question: absent past the end.
use Rattle.std.specs.Prelude.{ℕ, length, Some, None, Option}
use Rattle.std.specs.List.{slice_get}
use Rattle.chain.specs.Markov.{Row, Markov, edges_in}

abbrev pub state_total : Markov → ℕ
state_total c = length c.rows

abbrev pub edge_total : Markov → ℕ
edge_total c = edges_in c.rows

abbrev pub row_propositions : Option Row → Option ℕ
row_propositions None = None
row_propositions (Some r) = Some r.propositions

abbrev pub row_degree : Option Row → Option ℕ
row_degree None = None
row_degree (Some r) = Some (length r.edges)

abbrev pub row_edge : Option Row → ℕ → Option (ℕ × ℕ)
row_edge None place = None
row_edge (Some r) place = slice_get r.edges place

-- of the state s: its propositions, the number of its edges, and the edge at a place of its row
abbrev pub propositions_of : Markov → ℕ → Option ℕ
propositions_of c s = row_propositions (slice_get c.rows s)

abbrev pub degree_of : Markov → ℕ → Option ℕ
degree_of c s = row_degree (slice_get c.rows s)

abbrev pub edge_of : Markov → ℕ → ℕ → Option (ℕ × ℕ)
edge_of c s place = row_edge (slice_get c.rows s) place
