use Rattle.std.proofs.Common.{◌≡◌, length, sym, ◌∙◌, arith, rules}
use Rattle.std.proofs.lemmas.Result.{err_from_is_err_and}
use Rattle.std.specs.Slice.Iter.{iter_rest}
use Rattle.tables.proofs.Turns.{rows_turn, rows_stop, rows_end}
use Rattle.tables.proofs.tables.Tables.check_rows.Goals as goal

pub loop-state-preserved : goal.loop-state-preserved
loop-state-preserved c =
    let t = c.args.self.now in
    let turn = rows_turn t t.rows.now c.loop-state.state c.loop-state.before (iter_rest c.loop-state.edges) (omega arith) c.in_ok-check_row.ensures.told in
    record { decided = rw c.in_ok-check_row.ensures.left (c.loop-state.invariant.decided ∙ turn); few = c.in_ok-check_row.ensures.bound }

pub returns-in_err-check_row : goal.returns-in_err-check_row
returns-in_err-check_row c =
    let t = c.args.self.now in
    let p = err_from_is_err_and c.from_residual.result c.from_residual.ensures.1 in
    let stop = rows_stop t t.rows.now c.loop-state.state c.loop-state.before (iter_rest c.loop-state.edges) _ (omega arith) c.in_err-check_row.ensures.told in
    rw (p.1, p.2) (sym (c.loop-state.invariant.decided ∙ stop))

pub returns : goal.returns
returns c =
    let t = c.args.self.now in
    let len : c.len.result ≡ length (iter_rest c.loop-state.edges) = search rules in
    let end = rows_end t t.rows.now c.loop-state.state c.loop-state.before (iter_rest c.loop-state.edges) (omega arith) in
    rw len at c.demand.ensures ∙ sym (c.loop-state.invariant.decided ∙ end)
