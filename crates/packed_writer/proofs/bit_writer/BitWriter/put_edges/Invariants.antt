use Rattle.std.proofs.Common.{take}
use Rattle.std.specs.List.{flat_map}
use Rattle.packed_file.specs.Format.{edge_fields}
use Rattle.packed_writer.specs.Writing.{Writes}
use Rattle.packed_writer.proofs.bit_writer.BitWriter.put_edges.Given as goal

abbrev pub invariant-loop-place : goal.invariant-loop-place
invariant-loop-place g l = Writes l.initial.self l.self (flat_map edge_fields (take l.place l.row.edges))
