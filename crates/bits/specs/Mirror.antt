-- The bits of a number in the other order.
use Rattle.std.specs.Prelude.{ℕ, zero, suc, ◌+◌, ◌*◌, ◌/◌, ◌%◌, ◌^◌}

-- the w lowest bits of v, the lowest of them highest
unfoldable pub mirrored : ℕ → ℕ → ℕ
mirrored zero v = 0
mirrored (suc w) v = v % 2 * 2 ^ w + mirrored w (v / 2)
