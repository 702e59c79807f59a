use Rattle.std.proofs.Common.{arith}
use Rattle.packed_file.specs.Format.{edge_fields}
use Rattle.packed_writer.proofs.Steps.{room_next, writes_next}
use Rattle.packed_writer.proofs.bit_writer.BitWriter.put_edges.Goals as goal

pub put_edge-requires-clause-room : goal.put_edge-requires-clause-room
put_edge-requires-clause-room g c =
    let n = c.edge_count-place-end.ensures.value in
    rw c.edge-target.ensures.value (room_next edge_fields c.args.row.now.edges c.loop-place.place (0, 0) (omega arith) c.requires c.loop-place.invariant)

pub loop-place-preserved : goal.loop-place-preserved
loop-place-preserved g c =
    let n = c.edge_count-place-end.ensures.value in
    writes_next edge_fields c.args.row.now.edges c.loop-place.place (0, 0) (omega arith) c.loop-place.invariant (rw c.edge-target.ensures.value at c.put_edge.ensures)
