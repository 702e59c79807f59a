use Rattle.std.proofs.lemmas.Result.{err_from_is_err_and}
use Rattle.packed_file.proofs.Turns.{row_halt, row_uneven, row_read}
use Rattle.packed_file.proofs.fields.Fields.row.Goals as goal

pub returns-in_err-sum-clause-read : goal.returns-in_err-sum-clause-read
returns-in_err-sum-clause-read c =
    let p = err_from_is_err_and c.from_residual-in_err-sum.result c.from_residual-in_err-sum.ensures.1 in
    rw (p.1, p.2) (row_halt _ _ _ _ _ _ _ _ _ _ c.in_ok-take.ensures.read c.place-place.ensures c.in_ok-count.ensures.read c.in_ok-demand.ensures _ c.in_err-sum.ensures)

pub returns-in_err-demand-2-clause-read : goal.returns-in_err-demand-2-clause-read
returns-in_err-demand-2-clause-read c =
    let p = err_from_is_err_and c.from_residual-in_err-demand-2.result c.from_residual-in_err-demand-2.ensures.1 in
    rw (p.1, p.2) (row_uneven _ _ _ _ _ _ _ _ _ _ c.in_ok-take.ensures.read c.place-place.ensures c.in_ok-count.ensures.read c.in_ok-demand.ensures c.in_ok-sum.sum _ c.in_ok-sum.ensures c.in_err-demand-2.ensures)

pub returns-clause-read : goal.returns-clause-read
returns-clause-read c = row_read _ _ _ _ _ _ _ _ _ _ c.in_ok-take.ensures.read c.place-place.ensures c.in_ok-count.ensures.read c.in_ok-demand.ensures c.in_ok-sum.sum c.in_ok-sum.ensures c.in_ok-demand-2.ensures
