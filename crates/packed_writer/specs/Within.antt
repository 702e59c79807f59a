-- What a chain has at a state.
use Rattle.std.specs.Prelude.{ℕ, [], slice_index_or}
use Rattle.chain.specs.Markov.{Row, Markov}

abbrev pub no_row : Row
no_row = record { propositions = 0; edges = [] }

abbrev pub row_of : Markov → ℕ → Row
row_of c s = slice_index_or c.rows s no_row
