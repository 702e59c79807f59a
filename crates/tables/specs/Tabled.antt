-- The chain that two tables write out.
use Rattle.std.specs.Prelude.{ℕ, zero, suc, ◌%◌, ◌^◌, List, [], ◌∷◌, drop}
use Rattle.chain.specs.Limits.{letters}
use Rattle.chain.specs.Markov.{Row, Markov}
use Rattle.tables.specs.declared.tables.TableRow.{TableRow}
use Rattle.tables.specs.declared.tables.TableEdge.{TableEdge}
use Rattle.tables.specs.declared.tables.Tables.{Tables}

-- the first of the edges that are left, with zeros where none is left
abbrev pub next_edge : List TableEdge → TableEdge
next_edge [] = record { target = 0; weight = 0 }
next_edge (e ∷ es) = e

-- the first k of the edges that are left
unfoldable pub next_edges : ℕ → List TableEdge → List (ℕ × ℕ)
next_edges zero es = []
next_edges (suc k) es = ((next_edge es).target, (next_edge es).weight) ∷ next_edges k (drop 1 es)

-- a row takes its edges from those that are left
abbrev pub row_of : TableRow → List TableEdge → Row
row_of r es = record { propositions = r.propositions % 2 ^ letters; edges = next_edges r.count es }

-- the edges stand one row's after another's
unfoldable pub rows_of : List TableRow → List TableEdge → List Row
rows_of [] es = []
rows_of (r ∷ rs) es = row_of r es ∷ rows_of rs (drop r.count es)

abbrev pub tabled : Tables → Markov
tabled t = record { start = t.start; denominator = t.denominator; rows = rows_of t.rows.now t.edges.now }
