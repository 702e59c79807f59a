-- The bounds of what a lawful chain answers.
use Rattle.std.proofs.Common.{◌≡◌, ℕ, zero, suc, ◌+◌, ◌^◌, ◌<◌, ◌≤◌, List, [], ◌∷◌, length, get_or, Some, arith}
use Rattle.std.specs.List.{slice_get}
use Rattle.std.proofs.ByRecursion.{All-get_or}
use Rattle.std.proofs.lemmas.Option.{same_Some, slice_get-get_or, slice_get_within, get_or_from_slice_get}
use Rattle.chain.specs.Markov.{Markov, Rising, LawfulRow, Lawful, weight_sum}
use Rattle.chain.specs.Questions.{degree_of, edge_of}
use Rattle.packed_file.proofs.Files.{rising_short}
use Rattle.packed_writer.specs.Within.{no_row, row_of}

rising_at : (n low k : ℕ) (es : List (ℕ × ℕ)) → k < length es → Rising n low es → ((get_or es k (0, 0)).0 < n) × ((get_or es k (0, 0)).1 ≤ weight_sum es)
rising_at n low k [] h r = absurd (omega arith)
rising_at n low zero (e ∷ es) h r = (r.1, omega arith)
rising_at n low (suc k) (e ∷ es) h r = let q = rising_at n (e.0 + 1) k es (omega arith) r.3 in (q.0, (let l = q.1 in omega arith))

module _ (c : Markov) (l : Lawful c) (s : ℕ) (h : s < length c.rows) where
  lawful_row : LawfulRow (length c.rows) c.denominator (row_of c s)
  lawful_row = All-get_or (LawfulRow (length c.rows) c.denominator) c.rows s no_row h l.each

  there_is : slice_get c.rows s ≡ Some (row_of c s)
  there_is = slice_get-get_or c.rows s no_row h

  pub degree_small : (n : ℕ) → degree_of c s ≡ Some n → n ≤ 1024
  degree_small n e =
      let q = same_Some (length (row_of c s).edges) n (rw there_is at e) in
      let b = rising_short (length c.rows) 0 (row_of c s).edges (omega arith) lawful_row.rising in
      let f = l.few in
      omega arith

  pub edge_small : (k : ℕ) (e : ℕ × ℕ) → edge_of c s k ≡ Some e → (e.0 < 2 ^ 10) × (e.1 < 2 ^ 16)
  edge_small k e is =
      let found : slice_get (row_of c s).edges k ≡ Some e = rw there_is at is in
      let lt = slice_get_within (row_of c s).edges k e found in
      let q = get_or_from_slice_get (row_of c s).edges k e (0, 0) found in
      let b = rw q at (rising_at (length c.rows) 0 k (row_of c s).edges lt lawful_row.rising) in
      let w = lawful_row.whole in
      let f = l.few in
      let t = l.divided in
      let b₀ = b.0 in
      let b₁ = b.1 in
      (omega arith, omega arith)
