-- A body breaks no demand exactly where it is that of a lawful chain.
use Rattle.std.proofs.Common.{◌≡◌, ℕ, zero, suc, ◌+◌, ◌-◌, ◌*◌, ◌<◌, ◌≤◌, eqb, ltb, leb, List, [], ◌∷◌, ◌++◌, length, sym, refl, ap, arith}
use Rattle.std.specs.List.{flat_map, AllByRecursion}
use Rattle.std.proofs.lemmas.Bool.{and_parts, and_from, leb-true, ltb-true, eqb-true, le-leb, lt-ltb, eq-eqb}
use Rattle.refusal.specs.Demands.{Met}
use Rattle.refusal.proofs.Told.{met_append, met_left, met_right}
use Rattle.bits.specs.Fields.{field}
use Rattle.bits.proofs.Whole.{field_lt}
use Rattle.bits.proofs.Mirrors.{mirrored_lt, mirrored_back}
use Rattle.chain.specs.Limits.{most_edges}
use Rattle.chain.specs.Markov.{Row, Markov, Rising, LawfulRow, Lawful, edges_in}
use Rattle.packed_file.specs.Format.{layout, edge_fields, row_fields, edges_at, row_at, rows_at, count_at, after_row, states_in, denominator_in, start_in, first_row, decoded}
use Rattle.packed_file.proofs.Holding.{Holds}
use Rattle.packed_file.specs.Faults.{body_demands, edges_demands, rows_demands, row_demands, sum_demand}

pub length_edges : (bs : List ℕ) (p k : ℕ) → length (edges_at bs p k) ≡ k
unfolding edges_at
length_edges bs p zero = refl
length_edges bs p (suc k) = ap suc (length_edges bs (p + 10 + 16) k)

pub length_rows : (bs : List ℕ) (p k : ℕ) → length (rows_at bs p k) ≡ k
unfolding rows_at
length_rows bs p zero = refl
length_rows bs p (suc k) = ap suc (length_rows bs (after_row bs p) k)

step : (p k : ℕ) → p + 10 + 16 + 26 * k ≡ p + 26 * suc k
step p k = omega arith

-- no fault: lawful, and decoded
edges_rise : (bs : List ℕ) (n k p low : ℕ) → Met (edges_demands bs n k p low) → Rising n low (edges_at bs p k)
unfolding edges_demands edges_at
edges_rise bs n zero p low h = tt
edges_rise bs n (suc k) p low h =
    let t = and_parts (leb low (field bs p 10)) (ltb (field bs p 10) n) h.1.0 in
    (leb-true low _ t.0, ltb-true _ n t.1, leb-true 1 _ h.1.1.1.0, edges_rise bs n k (p + 10 + 16) (field bs p 10 + 1) h.1.1.1.1)

edges_stand : (bs : List ℕ) (n k p low : ℕ) (fs : List (ℕ × ℕ)) → Met (edges_demands bs n k p low) → Holds bs (p + 26 * k) fs → Holds bs p (flat_map edge_fields (edges_at bs p k) ++ fs)
unfolding edges_demands edges_at
edges_stand bs n zero p low fs h rest = let e : p + 26 * 0 ≡ p = omega arith in rw e at rest
edges_stand bs n (suc k) p low fs h rest = (
  leb-true (p + 10) _ h.0,
  refl,
  (leb-true (p + 10 + 16) _ h.1.1.0, refl, edges_stand bs n k (p + 10 + 16) (field bs p 10 + 1) fs h.1.1.1.1 (rw (step p k) rest)),
)

pub edges_inside : (bs : List ℕ) (n k p low : ℕ) → p ≤ 8 * length bs → Met (edges_demands bs n k p low) → p + 26 * k ≤ 8 * length bs
unfolding edges_demands
edges_inside bs n zero p low l h = omega arith
edges_inside bs n (suc k) p low l h = rw (step p k) at (edges_inside bs n k (p + 10 + 16) (field bs p 10 + 1) (leb-true (p + 10 + 16) _ h.1.1.0) h.1.1.1.1)

module _ (bs : List ℕ) (n d : ℕ) where
  row_lawful : (p m : ℕ) → Met (row_demands bs n d p m) → LawfulRow n d (row_at bs p)
  row_lawful p m h =
      let es = edges_demands bs n (count_at bs p) (p + 16 + 11) 0 in
      let last = sum_demand bs d p ∷ [] in
      record {
        lettered = mirrored_lt 16 (field bs p 16);
        rising = edges_rise bs n (count_at bs p) (p + 16 + 11) 0 (met_left es last h.1.1.1);
        whole = eqb-true _ d (met_right es last h.1.1.1).0;
      }

  rows_lawful : (k p m : ℕ) → Met (rows_demands bs n d k p m) → AllByRecursion (LawfulRow n d) (rows_at bs p k)
  unfolding rows_demands rows_at
  rows_lawful zero p m h = tt
  rows_lawful (suc k) p m h = (
    row_lawful p m (met_left (row_demands bs n d p m) _ h),
    rows_lawful k (after_row bs p) (m + count_at bs p) (met_right (row_demands bs n d p m) _ h),
  )

  rows_sparse : (k p m : ℕ) → m ≤ most_edges → Met (rows_demands bs n d k p m) → m + edges_in (rows_at bs p k) ≤ most_edges
  unfolding rows_demands rows_at
  rows_sparse zero p m l h = omega arith
  rows_sparse (suc k) p m l h =
      let few = leb-true (m + count_at bs p) most_edges h.1.1.0 in
      let rest = rows_sparse k (after_row bs p) (m + count_at bs p) few (met_right (row_demands bs n d p m) _ h) in
      rw (length_edges bs (p + 16 + 11) (count_at bs p)) (omega arith)

  rows_stand : (k p m : ℕ) → p ≤ 8 * length bs → Met (rows_demands bs n d k p m) → Holds bs p (flat_map row_fields (rows_at bs p k))
  unfolding rows_demands rows_at
  rows_stand zero p m l h =
      let t = and_parts (ltb (8 * length bs) (p + 8)) (eqb (field bs p (8 * length bs - p)) 0) h.0 in
      (l, ltb-true _ _ t.0, eqb-true _ _ t.1)
  rows_stand (suc k) p m l h =
      let here = met_left (row_demands bs n d p m) _ h in
      let es = met_left (edges_demands bs n (count_at bs p) (p + 16 + 11) 0) _ here.1.1.1 in (
        leb-true (p + 16) _ h.0,
        sym (mirrored_back 16 (field bs p 16) (field_lt bs p 16)),
        (
          leb-true (p + 16 + 11) _ h.1.0,
          sym (length_edges bs (p + 16 + 11) (count_at bs p)),
          edges_stand bs n (count_at bs p) (p + 16 + 11) 0 _ es
              (rows_stand k (after_row bs p) (m + count_at bs p) (edges_inside bs n (count_at bs p) (p + 16 + 11) 0 (leb-true (p + 16 + 11) _ h.1.0) es) (met_right (row_demands bs n d p m) _ h)),
        ),
      )

pub met_lawful : (bs : List ℕ) → Met (body_demands bs) → Lawful (decoded bs)
met_lawful bs h =
    let rows = h.1.1.1.1.1 in
    let lt = field_lt bs 0 10 in
    let short = field_lt bs 10 16 in
    let e = length_rows bs first_row (states_in bs) in
    let start : start_in bs < states_in bs = ltb-true _ _ h.1.1.1.1.0 in
    record {
      some = rw e (omega arith);
      few = rw e (omega arith);
      starts = rw e start;
      divides = leb-true 1 _ h.1.1.0;
      divided = omega arith;
      sparse = let s = rows_sparse bs (states_in bs) (denominator_in bs) (states_in bs) first_row 0 (omega arith) rows in omega arith;
      each = rw e (rows_lawful bs (states_in bs) (denominator_in bs) (states_in bs) first_row 0 rows);
    }

pub met_holds : (bs : List ℕ) → Met (body_demands bs) → Holds bs 0 (layout (decoded bs))
met_holds bs h =
    let e = length_rows bs first_row (states_in bs) in
    let states : field bs 0 10 ≡ length (rows_at bs first_row (states_in bs)) - 1 = rw e (omega arith) in
    let headed = leb-true first_row (8 * length bs) h.1.1.1.0 in (
      leb-true 10 _ h.0,
      states,
      (
        leb-true (10 + 16) _ h.1.0,
        refl,
        (headed, refl, rows_stand bs (states_in bs) (denominator_in bs) (states_in bs) first_row 0 headed h.1.1.1.1.1),
      ),
    )

-- a body holds one lawful chain
edges_same : (bs : List ℕ) (p : ℕ) (es fs : List (ℕ × ℕ)) → Holds bs p (flat_map edge_fields es ++ fs) → (edges_at bs p (length es) ≡ es) × Holds bs (p + 26 * length es) fs
unfolding edges_at
edges_same bs p [] fs h = (refl, (let e : p ≡ p + 26 * 0 = omega arith in rw e at h))
edges_same bs p (e ∷ es) fs h =
    let rest = edges_same bs (p + 10 + 16) es fs h.2.2 in (
      rw (h.1, h.2.1, rest.0),
      rw (step p (length es)) at rest.1,
    )

rows_same : (bs : List ℕ) (n d p : ℕ) (rs : List Row) → AllByRecursion (LawfulRow n d) rs → Holds bs p (flat_map row_fields rs) → rows_at bs p (length rs) ≡ rs
unfolding rows_at
rows_same bs n d p [] l h = refl
rows_same bs n d p (r ∷ rs) l h =
    let es = edges_same bs (p + 16 + 11) r.edges (flat_map row_fields rs) h.2.2 in
    let c : count_at bs p ≡ length r.edges = h.2.1 in
    let letters = mirrored_back 16 r.propositions l.0.lettered in
    let row : row_at bs p ≡ r = rw (h.1, letters, c, es.0) in
    let rest = rows_same bs n d (p + 16 + 11 + 26 * length r.edges) rs l.1 es.1 in
    rw (row, c, rest)

pub one_chain : (bs : List ℕ) (c : Markov) → Lawful c → Holds bs 0 (layout c) → c ≡ decoded bs
one_chain bs c l h =
    let some = l.some in
    let n : states_in bs ≡ length c.rows = let e = h.1 in omega arith in
    let rows = rows_same bs (length c.rows) c.denominator first_row c.rows l.each h.2.2.2 in
    rw (h.2.1, h.2.2.1, n, rows)

-- a body that holds a lawful chain breaks no demand
edges_met : (bs : List ℕ) (n k p low : ℕ) (fs : List (ℕ × ℕ)) → Rising n low (edges_at bs p k) → Holds bs p (flat_map edge_fields (edges_at bs p k) ++ fs) → Met (edges_demands bs n k p low)
unfolding edges_demands edges_at
edges_met bs n zero p low fs r h = tt
edges_met bs n (suc k) p low fs r h = (
  le-leb (p + 10) _ h.0,
  (
    and_from (leb low (field bs p 10)) (ltb (field bs p 10) n) (le-leb _ _ r.0) (lt-ltb _ _ r.1),
    (
      le-leb (p + 10 + 16) _ h.2.0,
      (
        le-leb 1 _ r.2,
        edges_met bs n k (p + 10 + 16) (field bs p 10 + 1) fs r.3 h.2.2,
      ),
    ),
  ),
)

rows_met : (bs : List ℕ) (n d k p m : ℕ) → AllByRecursion (LawfulRow n d) (rows_at bs p k) → m + edges_in (rows_at bs p k) ≤ most_edges
    → Holds bs p (flat_map row_fields (rows_at bs p k)) → Met (rows_demands bs n d k p m)
unfolding rows_demands rows_at
rows_met bs n d zero p m r few h = (and_from (ltb (8 * length bs) (p + 8)) (eqb (field bs p (8 * length bs - p)) 0) (lt-ltb _ _ h.1) (eq-eqb _ _ h.2), tt)
rows_met bs n d (suc k) p m r few h =
    let len = length_edges bs (p + 16 + 11) (count_at bs p) in
    let few' : m + (count_at bs p + edges_in (rows_at bs (after_row bs p) k)) ≤ most_edges = rw len at few in
    let es = edges_same bs (p + 16 + 11) (edges_at bs (p + 16 + 11) (count_at bs p)) (flat_map row_fields (rows_at bs (after_row bs p) k)) h.2.2 in
    let rest : Holds bs (after_row bs p) (flat_map row_fields (rows_at bs (after_row bs p) k)) = rw len at es.1 in
    met_append (row_demands bs n d p m) _ (
      le-leb (p + 16) _ h.0,
      (
        le-leb (p + 16 + 11) _ h.2.0,
        (
          le-leb (m + count_at bs p) most_edges (omega arith),
          met_append (edges_demands bs n (count_at bs p) (p + 16 + 11) 0) _
              (edges_met bs n (count_at bs p) (p + 16 + 11) 0 _ r.0.rising h.2.2)
              (eq-eqb _ _ r.0.whole, tt),
        ),
      ),
    )
    (rows_met bs n d k (after_row bs p) (m + count_at bs p) r.1 (omega arith) rest)

pub lawful_met : (bs : List ℕ) → Lawful (decoded bs) → Holds bs 0 (layout (decoded bs)) → Met (body_demands bs)
lawful_met bs l h =
    let e = length_rows bs first_row (states_in bs) in
    let start : start_in bs < states_in bs = rw e at l.starts in
    let rows = rows_met bs (states_in bs) (denominator_in bs) (states_in bs) first_row 0 (rw e at l.each) (let s = l.sparse in omega arith) h.2.2.2 in
    (le-leb 10 _ h.0, (le-leb (10 + 16) _ h.2.0, (le-leb 1 _ l.divides, (le-leb first_row _ h.2.2.0, (lt-ltb _ _ start, rows)))))
