use Rattle.std.proofs.Common.{◌≡◌, ◌-◌, sym, ◌∙◌, arith}
use Rattle.std.proofs.lemmas.Result.{err_from_is_err_and}
use Rattle.packed_file.specs.Faults.{rows_demands}
use Rattle.packed_file.proofs.Turns.{rows_turn, rows_halt}
use Rattle.packed_file.proofs.fields.Fields.rows.Goals as goal

pub loop-preserved : goal.loop-preserved
loop-preserved c =
    let kept = c.loop.invariant in
    let read = c.in_ok-edges.ensures.read in
    let tells = simp kept.same at read.tells in
    let moved = simp kept.same at read.moved in
    let turn = rows_turn c.args.self.body.now c.args.header.states c.args.header.denominator c.loop.counter c.loop.self.at c.loop.edges (tt {0}) c.loop-test.true
    c.row.new.self.at c.in_ok-edges.edges moved tells in
    record { same = read.same ∙ kept.same; tells = kept.tells ∙ turn; few = c.in_ok-edges.ensures.bound }

pub returns-in_err-edges : goal.returns-in_err-edges
returns-in_err-edges c =
    let kept = c.loop.invariant in
    let tells = simp kept.same at c.in_err-edges.ensures.read.tells in
    let halt = rows_halt c.args.self.body.now c.args.header.states c.args.header.denominator c.loop.counter c.loop.self.at c.loop.edges (tt {0}) c.loop-test.true _ _ tells in
    let p = err_from_is_err_and c.from_residual.result c.from_residual.ensures.1 in
    rw (p.1, p.2) (sym (kept.tells ∙ halt))

pub returns : goal.returns
unfolding rows_demands
returns c =
    let left : c.args.header.states - c.loop.counter ≡ 0 = omega arith in
    let kept = c.loop.invariant in
    let tells = simp kept.same at c.end.ensures in
    tells ∙ sym (rw left at kept.tells)
