-- The limits of a lawful chain, all in one place.
use Rattle.std.specs.Prelude.{ℕ}

abbrev pub most_states : ℕ
most_states = 1024

abbrev pub most_edges : ℕ
most_edges = 4096

abbrev pub most_denominator : ℕ
most_denominator = 65535

-- the propositions are the letters from a on, this many
abbrev pub letters : ℕ
letters = 16
