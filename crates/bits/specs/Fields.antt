-- Bits and fields of a list of bytes, the most significant bit first.
use Rattle.std.specs.Prelude.{ℕ, zero, suc, ◌+◌, ◌-◌, ◌*◌, ◌/◌, ◌%◌, ◌^◌, List, slice_index}

-- the bit at place p; bit 0 is the highest of the first byte
abbrev pub bit_at : List ℕ → ℕ → ℕ
bit_at bs p = slice_index bs (p / 8) / 2 ^ (7 - p % 8) % 2

-- the number that the w bits from place p on write
unfoldable pub field : List ℕ → ℕ → ℕ → ℕ
field bs p zero = 0
field bs p (suc w) = field bs p w * 2 + bit_at bs (p + w)
