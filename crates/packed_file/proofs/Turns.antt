-- One turn of each loop of the check.
use Rattle.std.proofs.Common.{◌≡◌, ℕ, suc, ◌+◌, ◌-◌, ◌*◌, ◌<◌, List, [], ◌∷◌, ◌++◌, Ok, Err, Result, ◌==◌, nat_le, sym, ap, ◌∙◌, arith}
use Rattle.refusal.specs.declared.Refusal.{Refusal}
use Rattle.refusal.specs.Demands.{demand, Met, told}
use Rattle.refusal.proofs.Told.{told_ok, told_value, told_then, told_on, told_stop, told_turn, told_halt}
use Rattle.bits.specs.Fields.{field}
use Rattle.chain.specs.Limits.{most_edges}
use Rattle.chain.specs.Markov.{weight_sum}
use Rattle.packed_file.specs.declared.fault.FileFault.{FileFault}
use Rattle.packed_file.specs.declared.fault.FileFault.TheVariants.{TooManyEdges, WrongSum}
use Rattle.packed_file.specs.declared.fields.Fields.{Fields}
use Rattle.packed_file.specs.Format.{edges_at, count_at, after_row}
use Rattle.packed_file.specs.Faults.{Demands, there, edge_demands, edges_demands, count_demands, sum_demand, row_demands, rows_demands}
use Rattle.packed_file.specs.Reading.{Reads}

module _ (bs : List ℕ) (n count k p low v : ℕ) (more : k < count) where
  abbrev here : Demands
  here = edge_demands bs n p low

  abbrev all : Demands
  all = edges_demands bs n (count - k) p low

  abbrev rest : Demands
  rest = edges_demands bs n (count - (k + 1)) (p + 10 + 16) (field bs p 10 + 1)

  left : count - k ≡ suc (count - (k + 1))
  left = omega arith

  edges_more : all ≡ here ++ rest
  unfolding edges_demands
  edges_more = rw left

  weights_more : weight_sum (edges_at bs p (count - k)) ≡ field bs (p + 10) 16 + weight_sum (edges_at bs (p + 10 + 16) (count - (k + 1)))
  unfolding edges_at
  weights_more = rw left

  -- what an edge that has no fault leaves to be told
  pub edges_turn : (q t w : ℕ) → q ≡ p + 26 → ◌≡◌ {A = Result (ℕ × ℕ) (Refusal FileFault)} (Ok (t, w)) (told (edge_demands bs n p low) (field bs p 10, field bs (p + 10) 16))
      → (told (edges_demands bs n (count - k) p low) v ≡ told (edges_demands bs n (count - (k + 1)) q (t + 1)) v)
      × (weight_sum (edges_at bs p (count - k)) ≡ w + weight_sum (edges_at bs q (count - (k + 1))))
  edges_turn q t w moved read =
      let edge : ℕ × ℕ = (field bs p 10, field bs (p + 10) 16) in
      let same = told_value here edge (t, w) read in
      let target : t ≡ field bs p 10 = ap (λ x. x.0) same in
      let weight : w ≡ field bs (p + 10) 16 = ap (λ x. x.1) same in
      let next : q ≡ p + 10 + 16 = omega arith in (
        rw (next, target) (told_turn all here rest edge (t, w) v edges_more read),
        rw (next, weight) weights_more,
      )

  pub edges_halt : (x : ℕ × ℕ) (f : Refusal FileFault) → Err f ≡ told (edge_demands bs n p low) x → told (edges_demands bs n (count - k) p low) v ≡ Err f
  edges_halt x f read = told_halt all here rest x v f edges_more read

-- what the parts of a row tell together, where the edges are not above their limit
module _ (n d m x c place : ℕ) (s₀ s₁ s₂ s₃ : Fields)
    (lettered : Reads s₀ s₁ (Ok x) (there s₀.body.now s₀.at 16 ∷ []) (field s₀.body.now s₀.at 16) 16) (placed : place ≡ 16 + s₁.at)
    (counted : Reads s₁ s₂ (Ok c) (there s₁.body.now s₁.at 11 ∷ []) (field s₁.body.now s₁.at 11) 11)
    (few : Ok (tt {0}) ≡ told (demand (nat_le (m + c) most_edges) TooManyEdges place ∷ []) (tt {0})) where
  abbrev bs : List ℕ
  bs = s₀.body.now

  abbrev p : ℕ
  p = s₀.at

  abbrev edges : Demands
  edges = edges_demands bs n c (p + 16 + 11) 0

  abbrev even : ℕ → Demands
  even s = demand (s == d) WrongSum place ∷ []

  -- the edges are read, and then the row
  abbrev EdgesRead : Result ℕ (Refusal FileFault) → Type 0
  EdgesRead r = Reads s₂ s₃ r (edges_demands s₂.body.now n c s₂.at 0) (weight_sum (edges_at s₂.body.now s₂.at c)) (26 * c)

  abbrev RowRead : Result ℕ (Refusal FileFault) → Type 0
  RowRead r = Reads s₀ s₃ r (row_demands bs n d p m) (m + count_at bs p) (16 + 11 + 26 * count_at bs p)

  count : c ≡ count_at bs p
  count = let tells = simp (lettered.same, lettered.moved) at counted.tells in told_value (there bs (p + 16) 11 ∷ []) (count_at bs p) c tells

  begun : Met (count_demands bs p m)
  begun =
      let tells = simp (lettered.same, lettered.moved) at counted.tells in
      let letters = told_ok (there bs p 16 ∷ []) (field bs p 16) x (sym lettered.tells) in
      let counts = told_ok (there bs (p + 16) 11 ∷ []) (count_at bs p) c (sym tells) in
      let limit = told_ok (demand (nat_le (m + c) most_edges) TooManyEdges place ∷ []) (tt {0}) (tt {0}) (sym few) in
      (letters.1.0, (counts.1.0, (rw count at limit.1.0, tt)))

  same : (r : Result ℕ (Refusal FileFault)) → EdgesRead r → s₃.body ≡ s₀.body
  same r read = read.same ∙ counted.same ∙ lettered.same

  begins : (v : ℕ) → told (row_demands bs n d p m) v ≡ told (edges ++ sum_demand bs d p ∷ []) v
  begins v = rw count (told_then (count_demands bs p m) (edges_demands bs n (count_at bs p) (p + 16 + 11) 0 ++ sum_demand bs d p ∷ []) v begun)

  summed : (s v : ℕ) → EdgesRead (Ok s) → told (row_demands bs n d p m) v ≡ told (even s) v
  summed s v read =
      let tells = simp (counted.same, counted.moved, lettered.same, lettered.moved) at read.tells in
      let sum : weight_sum (edges_at bs (p + 16 + 11) (count_at bs p)) ≡ s = rw count at (sym (told_value edges _ s tells)) in
      let here : place ≡ 16 + (p + 16) = omega (arith, lettered.moved) in
      begins v ∙ told_on edges (sum_demand bs d p ∷ []) _ s v tells ∙ rw (sum, here)

  pub row_halt : (f : Refusal FileFault) → EdgesRead (Err f) → RowRead (Err f)
  row_halt f read =
      let tells = simp (counted.same, counted.moved, lettered.same, lettered.moved) at read.tells in
      record { tells = sym (begins _ ∙ told_stop edges (sum_demand bs d p ∷ []) _ _ f (sym tells)); same = same (Err f) read; moved = tt }

  pub row_uneven : (s : ℕ) (f : Refusal FileFault) → EdgesRead (Ok s) → Err f ≡ told (even s) (tt {0}) → RowRead (Err f)
  row_uneven s f read uneven = record { tells = sym (summed s _ read ∙ told_stop (even s) [] (tt {0}) _ f (sym uneven)); same = same (Ok s) read; moved = tt }

  pub row_read : (s : ℕ) → EdgesRead (Ok s) → Ok (tt {0}) ≡ told (even s) (tt {0}) → RowRead (Ok (m + c))
  row_read s read even_sum =
      let tells : Ok (m + count_at bs p) ≡ told (row_demands bs n d p m) (m + count_at bs p) = sym (summed s _ read ∙ told_on (even s) [] (tt {0}) (tt {0}) _ even_sum) in
      record { tells = rw count tells; same = same (Ok s) read; moved = omega (arith, read.moved, counted.moved, lettered.moved, count) }

module _ {V : Type 0} (bs : List ℕ) (n d k p m : ℕ) (v : V) (more : k < n) where
  abbrev row : Demands
  row = row_demands bs n d p m

  abbrev all_rows : Demands
  all_rows = rows_demands bs n d (n - k) p m

  abbrev rest_rows : Demands
  rest_rows = rows_demands bs n d (n - (k + 1)) (after_row bs p) (m + count_at bs p)

  rows_more : all_rows ≡ row ++ rest_rows
  unfolding rows_demands
  rows_more = let left : n - k ≡ suc (n - (k + 1)) = omega arith in rw left

  -- what a row that has no fault leaves to be told
  pub rows_turn : (q c : ℕ) → q ≡ p + (16 + 11 + 26 * count_at bs p) → Ok c ≡ told (row_demands bs n d p m) (m + count_at bs p)
      → told (rows_demands bs n d (n - k) p m) v ≡ told (rows_demands bs n d (n - (k + 1)) q c) v
  rows_turn q c moved read =
      let edges = told_value row (m + count_at bs p) c read in
      let next : q ≡ after_row bs p = omega arith in
      rw (next, edges) (told_turn all_rows row rest_rows (m + count_at bs p) c v rows_more read)

  pub rows_halt : (x : ℕ) (f : Refusal FileFault) → Err f ≡ told (row_demands bs n d p m) x → told (rows_demands bs n d (n - k) p m) v ≡ Err f
  rows_halt x f read = told_halt all_rows row rest_rows x v f rows_more read
