use Rattle.std.proofs.Common.{rules}
use Rattle.std.proofs.lemmas.Result.{err_from_is_err_and}
use Rattle.packed_writer.proofs.Finish.{refused, room_rows, room_fill, written_back}
use Rattle.packed_writer.proofs.file.write.Goals as goal

pub returns-in_err-demand-clause-written : goal.returns-in_err-demand-clause-written
returns-in_err-demand-clause-written g c =
    let p = err_from_is_err_and c.from_residual.result c.from_residual.ensures.1 in
    rw (p.1, p.2) (refused (g.C.Chain.lawful c.args.chain.now) c.states.ensures c.edges.ensures c.div_ceil-length.ensures
    c.args.buffer.now c.in_err-demand.field-0.0 c.in_err-demand.ensures)

pub put_rows-requires : goal.put_rows-requires
put_rows-requires g c =
    room_rows (g.C.Chain.lawful c.args.chain.now) c.states.ensures c.edges.ensures c.div_ceil-length.ensures
    c.new-file.result c.new-file.ensures.front c.new-file.ensures.bytes c.in_ok-demand.ensures c.put_header.ensures

pub put-requires-clause-room : goal.put-requires-clause-room
put-requires-clause-room g c =
    room_fill (g.C.Chain.lawful c.args.chain.now) c.states.ensures c.edges.ensures c.div_ceil-length.ensures
    c.new-file.result c.new-file.ensures.front c.new-file.ensures.bytes c.in_ok-demand.ensures c.put_header.ensures c.put_rows.ensures

pub returns : goal.returns
returns g c =
    let w = written_back (g.C.Chain.lawful c.args.chain.now) c.states.ensures c.edges.ensures c.div_ceil-length.ensures
    c.new-file.result c.new-file.ensures.front c.new-file.ensures.bytes c.in_ok-demand.ensures c.put_header.ensures c.put_rows.ensures c.put.ensures
    (search rules) (λ i l. let t = c.type_inv.buffer i in search rules) in
    record { written = w.0; read_back = w.1 }
