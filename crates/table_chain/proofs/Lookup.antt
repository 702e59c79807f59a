-- Where the rows and edges of tables without a fault stand.
use Rattle.std.proofs.Common.{◌≡◌, ℕ, zero, suc, ◌+◌, ◌%◌, ◌^◌, ◌<◌, ◌≤◌, List, [], ◌∷◌, length, drop, get_or, Some, None, sym, refl, ap, ◌∙◌, arith}
use Rattle.std.specs.List.{slice_get, sum_by}
use Rattle.std.specs.Slice.{IsItemAt}
use denote.Ref.{Bor}
use Rattle.std.specs.Prelude.{slice_index_or}
use Rattle.std.proofs.lemmas.List.{drop-drop, get_or-drop}
use Rattle.std.proofs.lemmas.List.Sums.{sum_by-cons}
use Rattle.std.proofs.lemmas.Option.{none-some, same_Some, slice_get_past, slice_get_read}
use Rattle.chain.specs.Limits.{most_edges, letters}
use Rattle.chain.specs.Markov.{edges_in}
use Rattle.chain.specs.Questions.{propositions_of, degree_of, edge_of}
use Rattle.tables.specs.declared.tables.TableRow.{TableRow}
use Rattle.tables.specs.declared.tables.TableEdge.{TableEdge}
use Rattle.tables.specs.declared.tables.Tables.{Tables}
use Rattle.tables.specs.Tabled.{next_edges, row_of, rows_of, tabled}
use Rattle.tables.specs.Faults.{Faultless}
use Rattle.tables.proofs.Fits.{length_edges, length_rows, faultless_lawful, faultless_whole}
use Rattle.table_chain.specs.Places.{first_edges}

abbrev pub counts : List TableRow → ℕ
counts rs = sum_by (λ r. r.count) rs

edges_counted : (rs : List TableRow) (es : List TableEdge) → edges_in (rows_of rs es) ≡ counts rs
unfolding rows_of
edges_counted [] es = refl
edges_counted (r ∷ rs) es = rw (length_edges r.count es, edges_counted rs (drop r.count es)) (sym (sum_by-cons (λ r. r.count) r rs))

pub length_firsts : (i : ℕ) (rs : List TableRow) → length (first_edges i rs) ≡ length rs
unfolding first_edges
length_firsts i [] = refl
length_firsts i (r ∷ rs) = ap suc (length_firsts (i + r.count) rs)

module _ (t : Tables) (faultless : Faultless t) where
  pub whole : counts t.rows.now ≡ length t.edges.now
  whole = sym (edges_counted t.rows.now t.edges.now) ∙ faultless_whole t faultless

  pub short : length t.edges.now ≤ most_edges
  short = let s = (faultless_lawful t faultless).sparse in let w = faultless_whole t faultless in omega arith

  pub within : (s : ℕ) (r : TableRow) → slice_get t.rows.now s ≡ Some r → get_or (first_edges 0 t.rows.now) s 0 + r.count ≤ length t.edges.now
  unfolding first_edges
  within s r h = let w = whole in let b = bounded t.rows.now 0 s r h in omega arith
    where
      bounded : (rs : List TableRow) (i s : ℕ) (r : TableRow) → slice_get rs s ≡ Some r → get_or (first_edges i rs) s 0 + r.count ≤ i + counts rs
      bounded [] i s r h = absurd (none-some r h)
      bounded (x ∷ rs) i zero r h = let e = same_Some x r h in let c = sum_by-cons (λ r. r.count) x rs in rw (← e) (omega arith)
      bounded (x ∷ rs) i (suc s) r h = let b = bounded rs (i + x.count) s r h in let c = sum_by-cons (λ r. r.count) x rs in omega arith

pub row_read : (rs : List TableRow) (s : ℕ) (r : Bor TableRow) → IsItemAt rs s (Some r) → slice_get rs s ≡ Some r.now
row_read rs s r h = slice_get_read rs (length rs) s r.now refl h.3.0 h.1

nth_row : (rs : List TableRow) (es : List TableEdge) (i s : ℕ) (r : TableRow) → slice_get rs s ≡ Some r
    → slice_get (rows_of rs (drop i es)) s ≡ Some (row_of r (drop (get_or (first_edges i rs) s 0) es))
unfolding rows_of first_edges
nth_row [] es i s r h = absurd (none-some r h)
nth_row (x ∷ rs) es i zero r h = rw (same_Some x r h)
nth_row (x ∷ rs) es i (suc s) r h = rw (drop-drop x.count i es) (nth_row rs es (i + x.count) s r h)

nth_edge : (k : ℕ) (es : List TableEdge) (j : ℕ) → j < k
    → (let e = slice_index_or es j (record { target = 0; weight = 0 }) in slice_get (next_edges k es) j ≡ Some (e.target, e.weight))
unfolding next_edges
nth_edge zero es j h = absurd (omega arith)
nth_edge (suc k) [] zero h = refl
nth_edge (suc k) (e ∷ es) zero h = refl
nth_edge (suc k) [] (suc j) h = nth_edge k [] j (omega arith)
nth_edge (suc k) (e ∷ es) (suc j) h = nth_edge k es j (omega arith)

-- what the questions answer past the last row
module _ (t : Tables) (s : ℕ) (past : length t.rows.now ≤ s) where
  no_row : slice_get (rows_of t.rows.now t.edges.now) s ≡ None
  no_row = slice_get_past (rows_of t.rows.now t.edges.now) s (rw (length_rows t.rows.now t.edges.now) past)

  pub propositions_past : propositions_of (tabled t) s ≡ None
  propositions_past = rw no_row

  pub degree_past : degree_of (tabled t) s ≡ None
  degree_past = rw no_row

  pub edge_no_row : (k : ℕ) → edge_of (tabled t) s k ≡ None
  edge_no_row k = rw no_row

-- and of a row
module _ (t : Tables) (s : ℕ) (r : TableRow) (found : slice_get t.rows.now s ≡ Some r) where
  here : slice_get (rows_of t.rows.now t.edges.now) s ≡ Some (row_of r (drop (get_or (first_edges 0 t.rows.now) s 0) t.edges.now))
  here = nth_row t.rows.now t.edges.now 0 s r found

  pub propositions_found : propositions_of (tabled t) s ≡ Some (r.propositions % 2 ^ letters)
  propositions_found = rw here

  pub degree_found : degree_of (tabled t) s ≡ Some r.count
  degree_found = rw (here, length_edges r.count (drop (get_or (first_edges 0 t.rows.now) s 0) t.edges.now))

  pub edge_past : (k : ℕ) → r.count ≤ k → edge_of (tabled t) s k ≡ None
  edge_past k h =
      let left = drop (get_or (first_edges 0 t.rows.now) s 0) t.edges.now in
      rw here (slice_get_past (next_edges r.count left) k (rw (length_edges r.count left) h))

  module _ (firsts : List ℕ) (placed : firsts ≡ first_edges 0 t.rows.now) (k : ℕ) (there : k < r.count) where
    pub edge_inside : Faultless t → get_or firsts s 0 + k < length t.edges.now
    edge_inside f = let w = within t f s r found in rw placed (omega arith)

    pub edge_found : let e = slice_index_or t.edges.now (get_or firsts s 0 + k) (record { target = 0; weight = 0 }) in edge_of (tabled t) s k ≡ Some (e.target, e.weight)
    edge_found =
        let first = get_or (first_edges 0 t.rows.now) s 0 in
        rw (placed, here, ← get_or-drop first t.edges.now k (record { target = 0; weight = 0 })) (nth_edge r.count (drop first t.edges.now) k there)
