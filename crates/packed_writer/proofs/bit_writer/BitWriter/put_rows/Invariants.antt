use Rattle.std.proofs.Common.{take}
use Rattle.std.specs.List.{flat_map}
use Rattle.packed_file.specs.Format.{row_fields}
use Rattle.packed_writer.specs.Writing.{Writes}
use Rattle.packed_writer.proofs.bit_writer.BitWriter.put_rows.Given as goal

abbrev pub invariant-loop-state : goal.invariant-loop-state
invariant-loop-state g l = Writes l.initial.self l.self (flat_map row_fields (take l.state (g.C.Chain.meaning l.chain).rows))
