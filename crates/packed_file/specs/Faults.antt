-- What a file must meet, in the order of the file.
use Rattle.std.specs.Prelude.{ℕ, zero, suc, ◌+◌, ◌-◌, ◌*◌, ◌/◌, Bool, false, not, ◌&&◌, List, [], ◌∷◌, ◌++◌, length, drop, Result, ◌==◌, nat_le, nat_lt}
use Rattle.refusal.specs.declared.Refusal.{Refusal}
use Rattle.refusal.specs.Demands.{Demand, demand, told}
use Rattle.bits.specs.Fields.{field}
use Rattle.chain.specs.Limits.{most_edges}
use Rattle.chain.specs.Markov.{weight_sum}
use Rattle.packed_file.specs.declared.fault.FileFault.{FileFault}
use Rattle.packed_file.specs.declared.fault.FileFault.TheVariants.{ReversedMark, NoMark, EndsInField, ZeroDenominator, StartOutside, BadTarget, ZeroWeight, WrongSum, TooManyEdges, Leftover}
use Rattle.packed_file.specs.Format.{edges_at, count_at, after_row, states_in, denominator_in, start_in, first_row, longest_body}

abbrev pub Demands : Type 0
Demands = List (Demand FileFault)

-- a demand on what stands at place p of the body: in the file that is 16 bits on, after the mark
abbrev pub asks : Bool → FileFault → ℕ → Demand FileFault
asks met fault p = demand met fault (16 + p)

-- the file does not end inside the w bits at p
abbrev pub there : List ℕ → ℕ → ℕ → Demand FileFault
there bs p w = asks (nat_le (p + w) (8 * length bs)) EndsInField p

abbrev pub header_demands : List ℕ → Demands
header_demands bs =
    there bs 0 10
    ∷ there bs 10 16
    ∷ asks (nat_le 1 (denominator_in bs)) ZeroDenominator 10
    ∷ there bs (10 + 16) 10
    ∷ asks (nat_lt (start_in bs) (states_in bs)) StartOutside (10 + 16)
    ∷ []

-- the beginning of the row at p, after rows with m edges
abbrev pub count_demands : List ℕ → ℕ → ℕ → Demands
count_demands bs p m =
    there bs p 16
    ∷ there bs (p + 16) 11
    ∷ asks (nat_le (m + count_at bs p) most_edges) TooManyEdges (p + 16)
    ∷ []

-- the edge at p of a chain with n states; its target is at least `low`
abbrev pub edge_demands : List ℕ → ℕ → ℕ → ℕ → Demands
edge_demands bs n p low =
    there bs p 10
    ∷ asks (nat_le low (field bs p 10) && nat_lt (field bs p 10) n) BadTarget p
    ∷ there bs (p + 10) 16
    ∷ asks (nat_le 1 (field bs (p + 10) 16)) ZeroWeight (p + 10)
    ∷ []

-- k edges from p on
unfoldable pub edges_demands : List ℕ → ℕ → ℕ → ℕ → ℕ → Demands
edges_demands bs n zero p low = []
edges_demands bs n (suc k) p low = edge_demands bs n p low ++ edges_demands bs n k (p + 10 + 16) (field bs p 10 + 1)

-- the weights of the row at p add up to the denominator d
abbrev pub sum_demand : List ℕ → ℕ → ℕ → Demand FileFault
sum_demand bs d p = asks (weight_sum (edges_at bs (p + 16 + 11) (count_at bs p)) == d) WrongSum (p + 16)

abbrev pub row_demands : List ℕ → ℕ → ℕ → ℕ → ℕ → Demands
row_demands bs n d p m = count_demands bs p m ++ (edges_demands bs n (count_at bs p) (p + 16 + 11) 0 ++ sum_demand bs d p ∷ [])

-- what is left at p is less than a byte, and its bits are 0
abbrev pub nothing_left : List ℕ → ℕ → Bool
nothing_left bs p = nat_lt (8 * length bs) (p + 8) && field bs p (8 * length bs - p) == 0

abbrev pub end_demands : List ℕ → ℕ → Demands
end_demands bs p = asks (nothing_left bs p) Leftover p ∷ []

-- k rows from p on, after rows with m edges, and then the end
unfoldable pub rows_demands : List ℕ → ℕ → ℕ → ℕ → ℕ → ℕ → Demands
rows_demands bs n d zero p m = end_demands bs p
rows_demands bs n d (suc k) p m = row_demands bs n d p m ++ rows_demands bs n d k (after_row bs p) (m + count_at bs p)

abbrev pub body_demands : List ℕ → Demands
body_demands bs = header_demands bs ++ rows_demands bs (states_in bs) (denominator_in bs) (states_in bs) first_row 0

-- the file begins with these two bytes
abbrev pub begins : List ℕ → ℕ → ℕ → Bool
begins [] a b = false
begins (x ∷ []) a b = false
begins (x ∷ y ∷ rest) a b = x == a && y == b

abbrev pub mark_demands : List ℕ → Demands
mark_demands bytes =
    demand (not (begins bytes 0xFF 0xFE)) ReversedMark 0
    ∷ demand (begins bytes 0xFE 0xFF) NoMark 0
    ∷ []

abbrev pub demands : List ℕ → Demands
demands bytes = mark_demands bytes ++ body_demands (drop 2 bytes)

-- the refusal of the first demand that the file breaks, or `Ok`
abbrev pub judged : List ℕ → Result (Unit {0}) (Refusal FileFault)
judged bytes = told (demands bytes) tt

-- The bytes of the longest file and one more: from the front of a file these decide what it is judged.
abbrev pub deciding_bytes : ℕ
deciding_bytes = (16 + longest_body + 7) / 8 + 1
