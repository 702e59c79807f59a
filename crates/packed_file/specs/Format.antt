-- The packed file of a chain: the mark, two bytes, and then the body, fields of bits.
-- Places in a body count its bits from the end of the mark.
use Rattle.std.specs.Prelude.{ℕ, zero, suc, ◌+◌, ◌-◌, ◌*◌, ◌/◌, ◌%◌, ◌^◌, List, [], ◌∷◌, ◌++◌, length, slice_index}
use Rattle.std.specs.List.{flat_map}
use Rattle.bits.specs.Fields.{field}
use Rattle.bits.specs.Mirror.{mirrored}
use Rattle.chain.specs.Limits.{most_states, most_edges}
use Rattle.chain.specs.Markov.{Row, Markov}

-- What a chain's file holds: fields, each a width and a value, in the order of the file.
abbrev pub edge_fields : ℕ × ℕ → List (ℕ × ℕ)
edge_fields e = (10, e.0) ∷ (16, e.1) ∷ []

-- in the file the proposition a is the highest bit of its field
abbrev pub row_fields : Row → List (ℕ × ℕ)
row_fields r = (16, mirrored 16 r.propositions) ∷ (11, length r.edges) ∷ flat_map edge_fields r.edges

abbrev pub header_fields : Markov → List (ℕ × ℕ)
header_fields c = (10, length c.rows - 1) ∷ (16, c.denominator) ∷ (10, c.start) ∷ []

abbrev pub layout : Markov → List (ℕ × ℕ)
layout c = header_fields c ++ flat_map row_fields c.rows

-- The file: the mark, then the bits of the fields one after another, cut into bytes; zero bits fill the last byte.
unfoldable pub bits : ℕ → ℕ → List ℕ
bits zero v = []
bits (suc w) v = v / 2 ^ w % 2 ∷ bits w v

abbrev pub all_bits : List (ℕ × ℕ) → List ℕ
all_bits = flat_map (λ f. bits f.0 f.1)

-- the number that w bits of a list write from place p on, with zeros past the list's end
unfoldable pub number_at : List ℕ → ℕ → ℕ → ℕ
number_at xs p zero = 0
number_at xs p (suc w) = number_at xs p w * 2 + slice_index xs (p + w)

-- the k bytes that the bits from place p on write
unfoldable pub bytes_from : List ℕ → ℕ → ℕ → List ℕ
bytes_from xs p zero = []
bytes_from xs p (suc k) = number_at xs p 8 ∷ bytes_from xs (p + 8) k

abbrev pub packed : List (ℕ × ℕ) → List ℕ
packed fs = bytes_from (all_bits fs) 0 ((length (all_bits fs) + 7) / 8)

abbrev pub marked : List ℕ → List ℕ
marked body = 0xFE ∷ 0xFF ∷ body

abbrev pub encode : Markov → List ℕ
encode c = marked (packed (layout c))

-- What a body says at its places, with no question whether it is a chain's.
unfoldable pub edges_at : List ℕ → ℕ → ℕ → List (ℕ × ℕ)
edges_at bs p zero = []
edges_at bs p (suc k) = (field bs p 10, field bs (p + 10) 16) ∷ edges_at bs (p + 10 + 16) k

abbrev pub count_at : List ℕ → ℕ → ℕ
count_at bs p = field bs (p + 16) 11

abbrev pub row_at : List ℕ → ℕ → Row
row_at bs p = record { propositions = mirrored 16 (field bs p 16); edges = edges_at bs (p + 16 + 11) (count_at bs p) }

-- where the row after the row at p begins
abbrev pub after_row : List ℕ → ℕ → ℕ
after_row bs p = p + 16 + 11 + 26 * count_at bs p

-- the k rows from p on
unfoldable pub rows_at : List ℕ → ℕ → ℕ → List Row
rows_at bs p zero = []
rows_at bs p (suc k) = row_at bs p ∷ rows_at bs (after_row bs p) k

abbrev pub states_in : List ℕ → ℕ
states_in bs = field bs 0 10 + 1

abbrev pub denominator_in : List ℕ → ℕ
denominator_in bs = field bs 10 16

abbrev pub start_in : List ℕ → ℕ
start_in bs = field bs (10 + 16) 10

-- where the first row begins
abbrev pub first_row : ℕ
first_row = 10 + 16 + 10

-- the most bits that the body of a lawful chain's file can have
abbrev pub longest_body : ℕ
longest_body = first_row + 27 * most_states + 26 * most_edges

abbrev pub decoded : List ℕ → Markov
decoded bs = record { start = start_in bs; denominator = denominator_in bs; rows = rows_at bs first_row (states_in bs) }
