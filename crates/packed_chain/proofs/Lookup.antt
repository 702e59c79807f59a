-- Where the rows and edges of a body without a fault stand.
use Rattle.std.proofs.Common.{◌≡◌, ℕ, zero, suc, ◌+◌, ◌-◌, ◌*◌, ◌<◌, ◌≤◌, List, [], ◌∷◌, ◌++◌, length, Some, None, Option, sym, refl, ap, subst, append_assoc, arith, length-append}
use Rattle.std.specs.List.{slice_get, AllByRecursion}
use Rattle.std.proofs.lemmas.Option.{slice_get_past}
use Rattle.std.proofs.lemmas.Bool.{leb-true}
use Rattle.refusal.specs.Demands.{Met}
use Rattle.refusal.proofs.Told.{ok_met, met_left, met_right}
use Rattle.bits.specs.Fields.{field}
use Rattle.bits.proofs.Whole.{field_lt}
use Rattle.chain.specs.Limits.{most_states, most_edges}
use Rattle.chain.specs.Markov.{edges_in}
use Rattle.chain.specs.Questions.{degree_of, edge_of}
use Rattle.packed_file.specs.Format.{edges_at, row_at, rows_at, count_at, after_row, states_in, denominator_in, first_row, longest_body, decoded}
use Rattle.packed_file.specs.Faults.{body_demands, row_demands, rows_demands, edges_demands}
use Rattle.packed_file.specs.Judgement.{Faultless}
use Rattle.packed_file.proofs.Fits.{edges_inside, length_edges}
use Rattle.packed_chain.specs.Places.{places_from, row_places, Found}

pub length_places : (bs : List ℕ) (p k : ℕ) → length (places_from bs p k) ≡ k
unfolding places_from
length_places bs p zero = refl
length_places bs p (suc k) = ap suc (length_places bs (after_row bs p) k)

row_of_place : (bs : List ℕ) (k p s q : ℕ) → slice_get (places_from bs p k) s ≡ Some q → slice_get (rows_at bs p k) s ≡ Some (row_at bs q)
unfolding rows_at places_from
row_of_place bs zero p s q e = cc
row_of_place bs (suc k) p zero q e = let same : p ≡ q = cc in rw same
row_of_place bs (suc k) p (suc s) q e = row_of_place bs k (after_row bs p) s q e

no_row : (bs : List ℕ) (k p s : ℕ) → slice_get (places_from bs p k) s ≡ None → slice_get (rows_at bs p k) s ≡ None
unfolding rows_at places_from
no_row bs zero p s e = refl
no_row bs (suc k) p zero e = cc
no_row bs (suc k) p (suc s) e = no_row bs k (after_row bs p) s e

nth_edges : (bs : List ℕ) (k p j : ℕ) → j < k → slice_get (edges_at bs p k) j ≡ Some (field bs (p + 26 * j) 10, field bs (p + 26 * j + 10) 16)
unfolding edges_at
nth_edges bs zero p j h = absurd (omega arith)
nth_edges bs (suc k) p zero h = let e : p + 26 * 0 ≡ p = omega arith in rw e
nth_edges bs (suc k) p (suc j) h = let e : p + 10 + 16 + 26 * j ≡ p + 26 * suc j = omega arith in rw e at (nth_edges bs k (p + 10 + 16) j (omega arith))

-- the row at q ends in the body, and no later than the longest body
pub record Within (bs : List ℕ) (q : ℕ) : Type 0 where
  pub inside : after_row bs q ≤ 8 * length bs
  pub near : after_row bs q ≤ longest_body

rows_within : (bs : List ℕ) (n d k p m : ℕ) → Met (rows_demands bs n d k p m) → m ≤ most_edges → p + 27 * k + 26 * (most_edges - m) ≤ longest_body → AllByRecursion (Within bs) (places_from bs p k)
unfolding rows_demands places_from
rows_within bs n d zero p m h l b = tt
rows_within bs n d (suc k) p m h l b =
    let here = met_left (row_demands bs n d p m) _ h in
    let es = met_left (edges_demands bs n (count_at bs p) (p + 16 + 11) 0) _ here.1.1.1 in
    let few = leb-true (m + count_at bs p) most_edges h.1.1.0 in (
      record { inside = edges_inside bs n (count_at bs p) (p + 16 + 11) 0 (leb-true (p + 16 + 11) _ h.1.0) es; near = omega arith },
      rows_within bs n d k (after_row bs p) (m + count_at bs p) (met_right (row_demands bs n d p m) _ h) few (omega arith),
    )

places_within : (bs : List ℕ) → Faultless bs → AllByRecursion (Within bs) (row_places bs)
places_within bs h =
    let met = ok_met (body_demands bs) (tt {0}) h in
    let f = field_lt bs 0 10 in
    rows_within bs (states_in bs) (denominator_in bs) (states_in bs) first_row 0 met.1.1.1.1.1 (omega arith) (omega arith)

of_all : {A : Type 0} (P : A → Type 0) (xs : List A) (s : ℕ) (x : A) → AllByRecursion P xs → slice_get xs s ≡ Some x → P x
of_all P [] s x h e = cc
of_all P (y ∷ ys) zero x h e = let same : y ≡ x = cc in subst P same h.0
of_all P (y ∷ ys) (suc s) x h e = of_all P ys s x h.1 e

pub found : (bs : List ℕ) (s : ℕ) (o : Option ℕ) → Faultless bs → o ≡ slice_get (row_places bs) s → Found bs s o
found bs s None h e = no_row bs (states_in bs) first_row s (sym e)
found bs s (Some p) h e =
    let within = of_all (Within bs) (row_places bs) s p (places_within bs h) (sym e) in
    (row_of_place bs (states_in bs) first_row s p (sym e), within.inside, within.near)

-- the header lies in the body
pub headed : (bs : List ℕ) → Faultless bs → first_row ≤ 8 * length bs
headed bs h = let met = ok_met (body_demands bs) (tt {0}) h in leb-true first_row _ met.1.1.1.0

all_right : {A : Type 0} (P : A → Type 0) (xs ys : List A) → AllByRecursion P (xs ++ ys) → AllByRecursion P ys
all_right P [] ys h = h
all_right P (x ∷ xs) ys h = all_right P xs ys h.1

-- the places of k of n rows stand in a list, and the next row begins at p
module _ (bs xs : List ℕ) (n k p : ℕ) (more : k < n) where
  left : n - k ≡ suc (n - (k + 1))
  left = omega arith

  pub within : Faultless bs → xs ++ places_from bs p (n - k) ≡ row_places bs → Within bs p
  unfolding places_from
  within h placed = (all_right (Within bs) xs _ (subst (λ ps. AllByRecursion (Within bs) ps) (sym (rw left at placed)) (places_within bs h))).0

  pub room : xs ++ places_from bs p (n - k) ≡ row_places bs → length xs < most_states
  room placed =
      let all = ap length placed in
      let small = field_lt bs 0 10 in
      omega (arith, length-append xs (places_from bs p (n - k)), length_places bs p (n - k), length_places bs first_row (states_in bs), all)

  pub row_more : (v : ℕ) → v ≡ count_at bs p
      → (xs ++ p ∷ [] ++ places_from bs (p + (16 + 11 + 26 * v)) (n - (k + 1)) ≡ xs ++ places_from bs p (n - k))
      × (edges_in (rows_at bs p (n - k)) ≡ v + edges_in (rows_at bs (p + (16 + 11 + 26 * v)) (n - (k + 1))))
  unfolding rows_at places_from
  row_more v count =
      let next : p + (16 + 11 + 26 * count_at bs p) ≡ after_row bs p = omega arith in (
        rw (count, left, next) (append_assoc xs (p ∷ []) (places_from bs (after_row bs p) (n - (k + 1)))),
        rw (count, left, next, length_edges bs (p + 16 + 11) (count_at bs p)),
      )

-- what the questions answer, from what looking for the row found
module _ (bs : List ℕ) (s p : ℕ) (found : slice_get (decoded bs).rows s ≡ Some (row_at bs p)) where
  pub degree_found : (v : ℕ) → v ≡ count_at bs p → Some v ≡ degree_of (decoded bs) s
  degree_found v e = rw (found, length_edges bs (p + 16 + 11) (count_at bs p), e)

  pub edge_none : (v k : ℕ) → v ≡ count_at bs p → v ≤ k → None ≡ edge_of (decoded bs) s k
  edge_none v k e l =
      let past : count_at bs p ≤ k = rw e at l in
      rw found (sym (slice_get_past (edges_at bs (p + 16 + 11) (count_at bs p)) k (rw (length_edges bs (p + 16 + 11) (count_at bs p)) past)))

  pub edge_found : (v k t w : ℕ) → v ≡ count_at bs p → k < v → t ≡ field bs (p + 16 + 11 + 26 * k) 10 → w ≡ field bs (p + 16 + 11 + 26 * k + 10) 16
      → ◌≡◌ {A = Option (ℕ × ℕ)} (Some (t, w)) (edge_of (decoded bs) s k)
  edge_found v k t w e l et ew = let lt : k < count_at bs p = rw e at l in rw (found, et, ew) (sym (nth_edges bs (count_at bs p) (p + 16 + 11) k lt))
