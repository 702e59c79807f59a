-- What tables must meet, in the order of a file.
use Rattle.std.specs.Prelude.{◌≡◌, ℕ, zero, suc, ◌+◌, true, ◌&&◌, List, [], ◌∷◌, ◌++◌, length, drop, is_ok, Result, ◌==◌, nat_le, nat_lt}
use Rattle.refusal.specs.declared.Refusal.{Refusal}
use Rattle.refusal.specs.Demands.{Demand, demand, told}
use Rattle.chain.specs.Limits.{most_states, most_edges, most_denominator}
use Rattle.chain.specs.Markov.{weight_sum}
use Rattle.tables.specs.declared.tables.TableRow.{TableRow}
use Rattle.tables.specs.declared.tables.TableEdge.{TableEdge}
use Rattle.tables.specs.declared.tables.Tables.{Tables}
use Rattle.tables.specs.declared.fault.TableFault.{TableFault}
use Rattle.tables.specs.declared.fault.TableFault.TheVariants.{BadRowCount, EdgesRunOut, BadDenominator, StartOutside, BadTarget, ZeroWeight, WrongSum, TooManyEdges, Leftover}
use Rattle.tables.specs.Tabled.{next_edge, next_edges}

abbrev pub Demands : Type 0
Demands = List (Demand TableFault)

-- the next of the edges that are left, of the state s; its target is at least `low`
abbrev pub edge_demands : Tables → ℕ → List TableEdge → ℕ → Demands
edge_demands t s es low =
    demand (nat_lt 0 (length es)) EdgesRunOut s
    ∷ demand (nat_le low (next_edge es).target && nat_lt (next_edge es).target (length t.rows.now)) BadTarget s
    ∷ demand (nat_le 1 (next_edge es).weight) ZeroWeight s
    ∷ []

-- the next k edges
unfoldable pub edges_demands : Tables → ℕ → ℕ → List TableEdge → ℕ → Demands
edges_demands t s zero es low = []
edges_demands t s (suc k) es low = edge_demands t s es low ++ edges_demands t s k (drop 1 es) ((next_edge es).target + 1)

-- the row of the state s, after rows with m edges
abbrev pub row_demands : Tables → ℕ → TableRow → ℕ → List TableEdge → Demands
row_demands t s r m es =
    demand (nat_le (m + r.count) most_edges) TooManyEdges s
    ∷ (edges_demands t s r.count es 0 ++ demand (weight_sum (next_edges r.count es) == t.denominator) WrongSum s ∷ [])

-- the rows from the state s on, after rows with m edges, and then the end
unfoldable pub rows_demands : Tables → ℕ → List TableRow → ℕ → List TableEdge → Demands
rows_demands t s [] m es = demand (length es == 0) Leftover s ∷ []
rows_demands t s (r ∷ rs) m es = row_demands t s r m es ++ rows_demands t (s + 1) rs (m + r.count) (drop r.count es)

abbrev pub head_demands : Tables → Demands
head_demands t =
    demand (nat_le 1 (length t.rows.now) && nat_le (length t.rows.now) most_states) BadRowCount 0
    ∷ demand (nat_le 1 t.denominator && nat_le t.denominator most_denominator) BadDenominator 0
    ∷ demand (nat_lt t.start (length t.rows.now)) StartOutside 0
    ∷ []

abbrev pub demands : Tables → Demands
demands t = head_demands t ++ rows_demands t 0 t.rows.now 0 t.edges.now

-- the refusal of the first demand that the tables break, or `Ok`
abbrev pub judged : Tables → Result (Unit {0}) (Refusal TableFault)
judged t = told (demands t) tt

abbrev pub Faultless : Tables → Type 0
Faultless t = is_ok (judged t) ≡ true
