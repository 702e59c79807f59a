-- The limits of a property.
use Rattle.std.specs.Prelude.{ℕ}

-- the bytes of its text
abbrev pub most_bytes : ℕ
most_bytes = 1024

-- the lower number of its ceiling
abbrev pub most_lower : ℕ
most_lower = 65535

abbrev pub most_hops : ℕ
most_hops = 64

-- parentheses open at once
abbrev pub most_open : ℕ
most_open = 16
