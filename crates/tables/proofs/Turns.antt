-- One turn of each loop of the check, and what a row's parts tell together.
use Rattle.std.proofs.Common.{◌≡◌, ℕ, suc, ◌+◌, ◌<◌, ◌≤◌, eqb, List, [], ◌∷◌, length, drop, Ok, Err, sym, arith}
use Rattle.std.specs.Prelude.{slice_index_or}
use Rattle.std.proofs.Math.Seq.{drop-length}
use Rattle.std.proofs.lemmas.List.{drop_more}
use Rattle.std.proofs.lemmas.Bool.{le-leb}
use Rattle.refusal.specs.declared.Refusal.{Refusal}
use Rattle.refusal.specs.Demands.{demand, told}
use Rattle.refusal.proofs.Told.{told_on, told_stop, told_through}
use Rattle.chain.specs.Limits.{most_edges}
use Rattle.chain.specs.Markov.{weight_sum}
use Rattle.tables.specs.declared.tables.TableRow.{TableRow}
use Rattle.tables.specs.declared.tables.TableEdge.{TableEdge}
use Rattle.tables.specs.declared.tables.Tables.{Tables}
use Rattle.tables.specs.declared.fault.TableFault.{TableFault}
use Rattle.tables.specs.declared.fault.TableFault.TheVariants.{WrongSum, Leftover}
use Rattle.tables.specs.Tabled.{next_edge, next_edges}
use Rattle.tables.specs.Faults.{Demands, edge_demands, edges_demands, row_demands, rows_demands}

module _ (t : Tables) (s : ℕ) (es : List TableEdge) where
  -- what an edge that has no fault leaves to be told
  pub edges_turn : (i j low sum : ℕ) (e : TableEdge) → i ≡ suc j → Ok e ≡ told (edge_demands t s es low) (next_edge es)
      → told (edges_demands t s i es low) (sum + weight_sum (next_edges i es)) ≡ told (edges_demands t s j (drop 1 es) (e.target + 1)) (sum + e.weight + weight_sum (next_edges j (drop 1 es)))
  unfolding edges_demands next_edges
  edges_turn i j low sum e more h =
      let later : TableEdge → Demands = λ x. edges_demands t s j (drop 1 es) (x.target + 1) in
      let total : TableEdge → ℕ = λ x. sum + x.weight + weight_sum (next_edges j (drop 1 es)) in
      let added : sum + ((next_edge es).weight + weight_sum (next_edges j (drop 1 es))) ≡ total (next_edge es) = omega arith in
      rw (more, added) (told_through (edge_demands t s es low) later total (next_edge es) e h)

  pub edges_stop : (i j low v : ℕ) (f : Refusal TableFault) → i ≡ suc j → Err f ≡ told (edge_demands t s es low) (next_edge es) → told (edges_demands t s i es low) v ≡ Err f
  unfolding edges_demands
  edges_stop i j low v f e h =
      rw e (told_stop (edge_demands t s es low) (edges_demands t s j (drop 1 es) ((next_edge es).target + 1)) (next_edge es) v f (sym h))

  pub edges_end : (i low sum : ℕ) → i ≡ 0 → told (edges_demands t s i es low) (sum + weight_sum (next_edges i es)) ≡ Ok sum
  unfolding edges_demands next_edges
  edges_end i low sum e = let none : sum + 0 ≡ sum = omega arith in rw (e, none)

  module _ (r : TableRow) (m : ℕ) (few : m + r.count ≤ most_edges) where
    sum_demands : ℕ → Demands
    sum_demands sum = demand (eqb sum t.denominator) WrongSum s ∷ []

    pub row_stop : (v : ℕ) (f : Refusal TableFault) → Err f ≡ told (edges_demands t s r.count es 0) v → told (row_demands t s r m es) (tt {0}) ≡ Err f
    unfolding sum_demands
    row_stop v f h = rw (le-leb (m + r.count) most_edges few) (told_stop (edges_demands t s r.count es 0) (sum_demands (weight_sum (next_edges r.count es))) v (tt {0}) f (sym h))

    pub row_end : (sum : ℕ) → Ok sum ≡ told (edges_demands t s r.count es 0) (weight_sum (next_edges r.count es))
        → told (row_demands t s r m es) (tt {0}) ≡ told (demand (eqb sum t.denominator) WrongSum s ∷ []) (tt {0})
    unfolding sum_demands
    row_end sum h = rw (le-leb (m + r.count) most_edges few) (told_through (edges_demands t s r.count es 0) sum_demands (λ _. tt {0}) _ sum h)

module _ (t : Tables) (rs : List TableRow) (i m : ℕ) (es : List TableEdge) where
  abbrev pub zeros : TableRow
  zeros = record { propositions = 0; count = 0 }

  abbrev pub row : TableRow
  row = slice_index_or rs i zeros

  -- what a row that has no fault leaves to be told
  pub rows_turn : i < length rs → Ok (tt {0}) ≡ told (row_demands t i row m es) (tt {0})
      → told (rows_demands t i (drop i rs) m es) (tt {0}) ≡ told (rows_demands t (i + 1) (drop (i + 1) rs) (m + row.count) (drop row.count es)) (tt {0})
  unfolding rows_demands
  rows_turn more h =
      rw (drop_more rs i zeros more) (told_on (row_demands t i row m es) (rows_demands t (i + 1) (drop (i + 1) rs) (m + row.count) (drop row.count es)) (tt {0}) (tt {0}) (tt {0}) h)

  pub rows_stop : (f : Refusal TableFault) → i < length rs → Err f ≡ told (row_demands t i row m es) (tt {0}) → told (rows_demands t i (drop i rs) m es) (tt {0}) ≡ Err f
  unfolding rows_demands
  rows_stop f more h =
      rw (drop_more rs i zeros more) (told_stop (row_demands t i row m es) (rows_demands t (i + 1) (drop (i + 1) rs) (m + row.count) (drop row.count es)) (tt {0}) (tt {0}) f (sym h))

  pub rows_end : i ≡ length rs → told (rows_demands t i (drop i rs) m es) (tt {0}) ≡ told (demand (eqb (length es) 0) Leftover (length rs) ∷ []) (tt {0})
  unfolding rows_demands
  rows_end e = rw (e, drop-length rs)
