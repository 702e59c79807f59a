-- A writer that moves on through its buffer.
use Rattle.std.specs.Prelude.{◌≡◌, ℕ, ◌+◌, ◌*◌, ◌^◌, ◌<◌, ◌≤◌, List, length}
use Rattle.bits.specs.Wrote.{width_of, Wrote}
use Rattle.packed_writer.specs.declared.bit_writer.BitWriter.{BitWriter}

-- the buffer has room for these fields from the writer's place on
pub record Room (w : BitWriter) (fs : List (ℕ × ℕ)) : Type 0 where
  pub within : w.at + width_of fs ≤ 8 * length w.buffer.now
  pub near : w.at + width_of fs < 2 ^ 40

-- the writer wrote these fields into its buffer, and stands behind them
pub record Writes (before after : BitWriter) (fs : List (ℕ × ℕ)) : Type 0 where
  pub same_reference : after.buffer.ghost_name ≡ before.buffer.ghost_name
  pub long : length after.buffer.now ≡ length before.buffer.now
  pub wrote : Wrote before.buffer.now after.buffer.now before.at after.at fs
