-- Tables break no demand exactly where they write out a lawful chain and no further edge.
use Rattle.std.proofs.Common.{◌≡◌, ℕ, zero, suc, ◌+◌, ◌≤◌, eqb, ltb, leb, true, is_ok, List, [], ◌∷◌, length, drop, Ok, Err, Result, sym, refl, ap, ◌∙◌, mod-lt, arith, pow_pos}
use Rattle.std.specs.List.{AllByRecursion}
use Rattle.std.proofs.lemmas.Bool.{and_parts, and_from, leb-true, ltb-true, eqb-true, le-leb, lt-ltb, eq-eqb}
use Rattle.std.proofs.lemmas.List.{length-drop}
use Rattle.refusal.specs.declared.Refusal.{Refusal}
use Rattle.refusal.specs.Demands.{demand, Met}
use Rattle.refusal.proofs.Told.{met_append, met_left, met_right, met_told, ok_met, told_first, ok_err}
use Rattle.chain.specs.Limits.{most_states, most_edges, most_denominator, letters}
use Rattle.chain.specs.Markov.{Rising, LawfulRow, Lawful, weight_sum, edges_in}
use Rattle.chain.specs.Questions.{edge_total}
use Rattle.tables.specs.declared.tables.TableRow.{TableRow}
use Rattle.tables.specs.declared.tables.TableEdge.{TableEdge}
use Rattle.tables.specs.declared.tables.Tables.{Tables}
use Rattle.tables.specs.declared.fault.TableFault.{TableFault}
use Rattle.tables.specs.declared.fault.TableFault.TheVariants.{WrongSum}
use Rattle.tables.specs.Tabled.{next_edge, next_edges, row_of, rows_of, tabled}
use Rattle.tables.specs.Faults.{Demands, edges_demands, row_demands, rows_demands, demands, judged, Faultless}
use Rattle.tables.specs.Judgement.{Judges}

pub length_edges : (k : ℕ) (es : List TableEdge) → length (next_edges k es) ≡ k
unfolding next_edges
length_edges zero es = refl
length_edges (suc k) es = ap suc (length_edges k (drop 1 es))

pub length_rows : (rs : List TableRow) (es : List TableEdge) → length (rows_of rs es) ≡ length rs
unfolding rows_of
length_rows [] es = refl
length_rows (r ∷ rs) es = ap suc (length_rows rs (drop r.count es))

module _ (t : Tables) (s : ℕ) where
  edges_rise : (k : ℕ) (es : List TableEdge) (low : ℕ) → Met (edges_demands t s k es low) → Rising (length t.rows.now) low (next_edges k es)
  unfolding edges_demands next_edges
  edges_rise zero es low h = tt
  edges_rise (suc k) es low h =
      let e = next_edge es in
      let target = and_parts (leb low e.target) (ltb e.target (length t.rows.now)) h.1.0 in
      (leb-true low _ target.0, ltb-true _ _ target.1, leb-true 1 _ h.1.1.0, edges_rise k (drop 1 es) (e.target + 1) h.1.1.1)

  edges_inside : (k : ℕ) (es : List TableEdge) (low : ℕ) → Met (edges_demands t s k es low) → k ≤ length es
  unfolding edges_demands
  edges_inside zero es low h = omega arith
  edges_inside (suc k) es low h =
      let some = ltb-true 0 (length es) h.0 in
      let rest = edges_inside k (drop 1 es) ((next_edge es).target + 1) h.1.1.1 in
      let d = length-drop 1 es in
      omega arith

  edges_met : (k : ℕ) (es : List TableEdge) (low : ℕ) → k ≤ length es → Rising (length t.rows.now) low (next_edges k es) → Met (edges_demands t s k es low)
  unfolding edges_demands next_edges
  edges_met zero es low l r = tt
  edges_met (suc k) es low l r =
      let e = next_edge es in
      let d = length-drop 1 es in (
        lt-ltb 0 (length es) (omega arith),
        (
          and_from (leb low e.target) (ltb e.target (length t.rows.now)) (le-leb _ _ r.0) (lt-ltb _ _ r.1),
          (le-leb 1 _ r.2, edges_met k (drop 1 es) (e.target + 1) (omega arith) r.3),
        ),
      )

module _ (t : Tables) where
  row_lawful : (s : ℕ) (r : TableRow) (m : ℕ) (es : List TableEdge) → Met (row_demands t s r m es) → LawfulRow (length t.rows.now) t.denominator (row_of r es)
  row_lawful s r m es h =
      let edges = edges_demands t s r.count es 0 in
      let last : Demands = demand (eqb (weight_sum (next_edges r.count es)) t.denominator) WrongSum s ∷ [] in
      record {
        lettered = mod-lt r.propositions (pow_pos letters);
        rising = edges_rise t s r.count es 0 (met_left edges last h.1);
        whole = eqb-true _ t.denominator (met_right edges last h.1).0;
      }

  rows_lawful : (s : ℕ) (rs : List TableRow) (m : ℕ) (es : List TableEdge) → Met (rows_demands t s rs m es)
      → AllByRecursion (LawfulRow (length t.rows.now) t.denominator) (rows_of rs es)
  unfolding rows_demands rows_of
  rows_lawful s [] m es h = tt
  rows_lawful s (r ∷ rs) m es h =
      (row_lawful s r m es (met_left (row_demands t s r m es) _ h), rows_lawful (s + 1) rs (m + r.count) (drop r.count es) (met_right (row_demands t s r m es) _ h))

  rows_sparse : (s : ℕ) (rs : List TableRow) (m : ℕ) (es : List TableEdge) → m ≤ most_edges → Met (rows_demands t s rs m es) → m + edges_in (rows_of rs es) ≤ most_edges
  unfolding rows_demands rows_of
  rows_sparse s [] m es l h = omega arith
  rows_sparse s (r ∷ rs) m es l h =
      let few = leb-true (m + r.count) most_edges h.0 in
      let rest = rows_sparse (s + 1) rs (m + r.count) (drop r.count es) few (met_right (row_demands t s r m es) _ h) in
      rw (length_edges r.count es) (omega arith)

  rows_whole : (s : ℕ) (rs : List TableRow) (m : ℕ) (es : List TableEdge) → Met (rows_demands t s rs m es) → edges_in (rows_of rs es) ≡ length es
  unfolding rows_demands rows_of
  rows_whole s [] m es h = sym (eqb-true (length es) 0 h.0)
  rows_whole s (r ∷ rs) m es h =
      let here = met_left (row_demands t s r m es) _ h in
      let inside = edges_inside t s r.count es 0 (met_left (edges_demands t s r.count es 0) _ here.1) in
      let rest = rows_whole (s + 1) rs (m + r.count) (drop r.count es) (met_right (row_demands t s r m es) _ h) in
      let d = length-drop r.count es in
      rw (length_edges r.count es) (omega arith)

  rows_met : (s : ℕ) (rs : List TableRow) (m : ℕ) (es : List TableEdge) → AllByRecursion (LawfulRow (length t.rows.now) t.denominator) (rows_of rs es)
      → m + edges_in (rows_of rs es) ≤ most_edges → edges_in (rows_of rs es) ≡ length es → Met (rows_demands t s rs m es)
  unfolding rows_demands rows_of
  rows_met s [] m es a few e = (eq-eqb (length es) 0 (sym e), tt)
  rows_met s (r ∷ rs) m es a few e =
      let rest = rows_of rs (drop r.count es) in
      let len = length_edges r.count es in
      let d = length-drop r.count es in
      let few' : m + (r.count + edges_in rest) ≤ most_edges = rw len at few in
      let e' : r.count + edges_in rest ≡ length es = rw len at e in
      met_append (row_demands t s r m es) _ (
        le-leb (m + r.count) most_edges (omega arith),
        met_append (edges_demands t s r.count es 0) _ (edges_met t s r.count es 0 (omega arith) a.0.rising) (eq-eqb _ _ a.0.whole, tt),
      )
      (rows_met (s + 1) rs (m + r.count) (drop r.count es) a.1 (omega arith) (omega arith))

  met_lawful : Met (demands t) → Lawful (tabled t)
  met_lawful h =
      let n = length t.rows.now in
      let rows = h.1.1.1 in
      let e = length_rows t.rows.now t.edges.now in
      let some = and_parts (leb 1 n) (leb n most_states) h.0 in
      let divided = and_parts (leb 1 t.denominator) (leb t.denominator most_denominator) h.1.0 in
      let sparse = rows_sparse 0 t.rows.now 0 t.edges.now (omega arith) rows in
      record {
        some = rw e (leb-true 1 n some.0);
        few = rw e (leb-true n most_states some.1);
        starts = rw e (ltb-true t.start n h.1.1.0);
        divides = leb-true 1 t.denominator divided.0;
        divided = leb-true t.denominator most_denominator divided.1;
        sparse = omega arith;
        each = rw e (rows_lawful 0 t.rows.now 0 t.edges.now rows);
      }

  lawful_met : Lawful (tabled t) → edge_total (tabled t) ≡ length t.edges.now → Met (demands t)
  lawful_met l w =
      let n = length t.rows.now in
      let e = length_rows t.rows.now t.edges.now in
      let some : 1 ≤ n = rw e at l.some in
      let few : n ≤ most_states = rw e at l.few in
      let sparse = l.sparse in (
        and_from (leb 1 n) (leb n most_states) (le-leb 1 n some) (le-leb n most_states few),
        (
          and_from (leb 1 t.denominator) (leb t.denominator most_denominator) (le-leb 1 t.denominator l.divides) (le-leb t.denominator most_denominator l.divided),
          (lt-ltb t.start n (rw e at l.starts), rows_met 0 t.rows.now 0 t.edges.now (rw e at l.each) (omega arith) w),
        ),
      )

  pub faultless_lawful : Faultless t → Lawful (tabled t)
  faultless_lawful h = met_lawful (ok_met (demands t) (tt {0}) h)

  pub faultless_whole : Faultless t → edge_total (tabled t) ≡ length t.edges.now
  faultless_whole h = rows_whole 0 t.rows.now 0 t.edges.now (ok_met (demands t) (tt {0}) h).1.1.1

  pub judges : (r : Result (Unit {0}) (Refusal TableFault)) → r ≡ judged t → Judges t r
  judges (Ok u) h = let ok : is_ok (judged t) ≡ true = rw (← h) in (faultless_lawful ok, faultless_whole ok)
  judges (Err f) h = (
    told_first (demands t) (tt {0}) f (sym h),
    λ l w. let ok = met_told (demands t) (tt {0}) (lawful_met l w) in ok_err (sym ok ∙ sym h),
  )
