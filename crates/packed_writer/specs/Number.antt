-- The number of each fault of writing.
use Rattle.std.specs.Prelude.{ℕ}
use Rattle.packed_writer.specs.declared.fault.WriteFault.{WriteFault}
use Rattle.packed_writer.specs.declared.fault.WriteFault.TheVariants.{BufferTooShort}

abbrev pub number : WriteFault → ℕ
number BufferTooShort = 30
