use Rattle.std.proofs.Common.{arith}
use Rattle.packed_file.specs.Format.{row_fields}
use Rattle.packed_writer.specs.Within.{no_row}
use Rattle.packed_writer.proofs.Steps.{room_next, writes_next}
use Rattle.packed_writer.proofs.bit_writer.BitWriter.put_rows.Goals as goal

pub put_row-requires : goal.put_row-requires
put_row-requires g c =
    let n = c.states-state-end.ensures in
    rw c.new.ensures (room_next row_fields (g.C.Chain.meaning c.args.chain.now).rows c.loop-state.state no_row (omega arith) c.requires c.loop-state.invariant)

pub loop-state-preserved : goal.loop-state-preserved
loop-state-preserved g c =
    let n = c.states-state-end.ensures in
    writes_next row_fields (g.C.Chain.meaning c.args.chain.now).rows c.loop-state.state no_row (omega arith) c.loop-state.invariant (rw c.new.ensures at c.put_row.ensures)
