-- A file is judged by its front: no byte beyond the first after the longest file is asked for.
use Rattle.std.proofs.Common.{◌≡◌, ℕ, zero, suc, ◌+◌, ◌-◌, ◌*◌, ◌/◌, ◌<◌, ◌≤◌, true, leb, List, [], ◌∷◌, ◌++◌, length, take, sym, refl, ap, ◌∙◌, inl, inr, arith}
use Rattle.std.proofs.lemmas.List.{get_or-take, length-take-le, take_all}
use Rattle.std.proofs.lemmas.Bool.{cases_lt, le-leb, lt-leb, le-ltb}
use Rattle.refusal.specs.Demands.{Demand, told}
use Rattle.bits.specs.Fields.{field}
use Rattle.bits.proofs.Whole.{field_same, field_lt}
use Rattle.chain.specs.Limits.{most_edges}
use Rattle.packed_file.specs.Format.{edges_at, count_at, after_row, states_in, denominator_in, first_row, longest_body}
use Rattle.packed_file.specs.Faults.{edges_demands, row_demands, rows_demands, body_demands, judged, deciding_bytes}

-- the two bodies have the same first `bits` bits, and end no earlier
record Agree (xs ys : List ℕ) (bits : ℕ) : Type 0 where
  fields : (p w : ℕ) → p + w ≤ bits → field xs p w ≡ field ys p w
  long : bits ≤ 8 * length xs
  long' : bits ≤ 8 * length ys

told_more : {F A : Type 0} (zs xs ys : List (Demand F)) (v : A) → told xs v ≡ told ys v → told (zs ++ xs) v ≡ told (zs ++ ys) v
told_more [] xs ys v e = e
told_more (z ∷ zs) xs ys v e = rw (told_more zs xs ys v e)

module _ (xs ys : List ℕ) (bits : ℕ) (same : Agree xs ys bits) where
  in_x : (p w : ℕ) → p + w ≤ bits → leb (p + w) (8 * length xs) ≡ true
  in_x p w h = let l = same.long in le-leb (p + w) (8 * length xs) (omega arith)

  in_y : (p w : ℕ) → p + w ≤ bits → leb (p + w) (8 * length ys) ≡ true
  in_y p w h = let l = same.long' in le-leb (p + w) (8 * length ys) (omega arith)

  edges_same : (n k p low : ℕ) → p + 26 * k ≤ bits → (edges_demands xs n k p low ≡ edges_demands ys n k p low) × (edges_at xs p k ≡ edges_at ys p k)
  unfolding edges_demands edges_at
  edges_same n zero p low h = (refl, refl)
  edges_same n (suc k) p low h =
      let t = same.fields p 10 (omega arith) in
      let w = same.fields (p + 10) 16 (omega arith) in
      let rest = edges_same n k (p + 10 + 16) (field ys p 10 + 1) (omega arith) in
      let t_in = in_x p 10 (omega arith) in
      let w_in = in_x (p + 10) 16 (omega arith) in
      let t_in' = in_y p 10 (omega arith) in
      let w_in' = in_y (p + 10) 16 (omega arith) in
      (rw (t_in, w_in, t_in', w_in', t, w, rest.0), rw (t, w, rest.1))

  row_same : (n d p m : ℕ) → p + 16 + 11 + 26 * count_at ys p ≤ bits → row_demands xs n d p m ≡ row_demands ys n d p m
  row_same n d p m h =
      let c = same.fields (p + 16) 11 (omega arith) in
      let es = edges_same n (count_at ys p) (p + 16 + 11) 0 h in
      rw (in_x p 16 (omega arith), in_x (p + 16) 11 (omega arith), in_y p 16 (omega arith), in_y (p + 16) 11 (omega arith), c, es.0, es.1)

  module _ {V : Type 0} (n d : ℕ) (v : V) where
    rows_same : (k p m : ℕ) → m ≤ most_edges → p + 27 * k + 26 * (most_edges - m) + 8 ≤ bits → told (rows_demands xs n d k p m) v ≡ told (rows_demands ys n d k p m) v
    unfolding rows_demands
    rows_same zero p m l h =
        let x_long = same.long in
        let y_long = same.long' in
        rw (le-ltb (8 * length xs) (p + 8) (omega arith), le-ltb (8 * length ys) (p + 8) (omega arith))
    rows_same (suc k) p m l h =
        let c = same.fields (p + 16) 11 (omega arith) in
        elim (cases_lt most_edges (m + count_at ys p)) [
          | inl many ↦ rw (in_x p 16 (omega arith), in_x (p + 16) 11 (omega arith), in_y p 16 (omega arith), in_y (p + 16) 11 (omega arith), c, lt-leb (m + count_at ys p) most_edges many)
          | inr few ↦ (
              let row = row_same n d p m (omega arith) in
              let later = λ (bs : List ℕ). rows_demands bs n d k (after_row ys p) (m + count_at ys p) in
              let moved : rows_demands xs n d k (after_row xs p) (m + count_at xs p) ≡ later xs = rw c in
              ap (λ ds. told (ds ++ rows_demands xs n d k (after_row xs p) (m + count_at xs p)) v) row
              ∙ ap (λ ds. told (row_demands ys n d p m ++ ds) v) moved
              ∙ told_more (row_demands ys n d p m) (later xs) (later ys) v (rows_same k (after_row ys p) (m + count_at ys p) few (omega arith)))
        ]

  body_same : {V : Type 0} (v : V) → longest_body + 8 ≤ bits → told (body_demands xs) v ≡ told (body_demands ys) v
  body_same v h =
      let states = same.fields 0 10 (omega arith) in
      let denominator = same.fields 10 16 (omega arith) in
      let start = same.fields 26 10 (omega arith) in
      let small = field_lt ys 0 10 in
      let rows = rows_same (states_in ys) (denominator_in ys) v (states_in ys) first_row 0 (omega arith) (omega arith) in
      rw (in_x 0 10 (omega arith), in_x 10 16 (omega arith), in_x 26 10 (omega arith), in_y 0 10 (omega arith), in_y 10 16 (omega arith), in_y 26 10 (omega arith), states, denominator, start, rows)

-- what a longer body begins with
take_agrees : (k : ℕ) (bs : List ℕ) → k ≤ length bs → Agree bs (take k bs) (8 * k)
take_agrees k bs h =
    let len = length-take-le k bs h in
    record {
      fields = λ p w l. field_same bs (take k bs) p w (λ j lt. let in_front : (p + j) / 8 < k = omega arith in rw (get_or-take k bs ((p + j) / 8) 0 in_front));
      long = omega arith;
      long' = omega arith;
    }

body_front : (bs : List ℕ) → told (body_demands bs) (tt {0}) ≡ told (body_demands (take 16774 bs)) (tt {0})
body_front bs =
    elim (cases_lt 16774 (length bs)) [
      | inl long ↦ body_same bs (take 16774 bs) (8 * 16774) (take_agrees 16774 bs (omega arith)) (tt {0}) (omega arith)
      | inr short ↦ ap (λ b. told (body_demands b) (tt {0})) (sym (take_all 16774 bs short))
    ]

pub front_told : (bs front : List ℕ) → front ≡ take (deciding_bytes - 2) bs → told (body_demands front) (tt {0}) ≡ told (body_demands bs) (tt {0})
front_told bs front e = rw e (sym (body_front bs))

pub judged_front : (bytes : List ℕ) → judged bytes ≡ judged (take deciding_bytes bytes)
judged_front [] = refl
judged_front (x ∷ []) = refl
judged_front (x ∷ y ∷ body) = rw (body_front body)
