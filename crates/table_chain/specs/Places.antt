-- Where the edges of each state begin in the second table.
use Rattle.std.specs.Prelude.{ℕ, ◌+◌, List, [], ◌∷◌}
use Rattle.tables.specs.declared.tables.TableRow.{TableRow}

-- the places of some rows, the first of which begins at the place i
unfoldable pub first_edges : ℕ → List TableRow → List ℕ
first_edges i [] = []
first_edges i (r ∷ rs) = i ∷ first_edges (i + r.count) rs
