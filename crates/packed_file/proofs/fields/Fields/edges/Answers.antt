use Rattle.std.proofs.Common.{◌≡◌, ◌-◌, sym, ◌∙◌, arith}
use Rattle.std.proofs.lemmas.Result.{err_from_is_err_and}
use Rattle.chain.specs.Markov.{weight_sum}
use Rattle.packed_file.specs.Format.{edges_at}
use Rattle.packed_file.specs.Faults.{edges_demands}
use Rattle.packed_file.proofs.Turns.{edges_turn, edges_halt}
use Rattle.packed_file.proofs.fields.Fields.edges.Goals as goal

pub loop-preserved : goal.loop-preserved
loop-preserved c =
    let body = c.args.self.now.body.now in
    let kept = c.loop.invariant in
    let read = c.in_ok-target.ensures.read in
    let tells = simp kept.same at read.tells in
    let total = weight_sum (edges_at body c.args.self.now.at c.args.count) in
    let turn = edges_turn body c.args.states c.args.count c.loop.counter c.loop.self.at c.loop.low total c.loop-test.true
    c.edge.new.self.at c.in_ok-target.target c.in_ok-target.weight read.moved tells in
    let small = c.in_ok-target.ensures.bound in
    record {
      same = read.same ∙ kept.same;
      moved = omega arith;
      tells = kept.tells ∙ turn.0;
      sums = omega (arith, kept.sums, turn.1);
      fits = omega (arith, kept.fits, small.1);
    }

pub returns-in_err-target : goal.returns-in_err-target
returns-in_err-target c =
    let body = c.args.self.now.body.now in
    let kept = c.loop.invariant in
    let read = c.in_err-target.ensures.read in
    let tells = simp kept.same at read.tells in
    let total = weight_sum (edges_at body c.args.self.now.at c.args.count) in
    let halt = edges_halt body c.args.states c.args.count c.loop.counter c.loop.self.at c.loop.low total c.loop-test.true _ _ tells in
    let p = err_from_is_err_and c.from_residual.result c.from_residual.ensures.1 in
    rw (p.1, p.2) (record { tells = sym (kept.tells ∙ halt); same = read.same ∙ kept.same; moved = tt })

pub returns : goal.returns
unfolding edges_demands edges_at
returns c =
    let left : c.args.count - c.loop.counter ≡ 0 = omega arith in
    let kept = c.loop.invariant in
    let sums = rw left at kept.sums in
    let value : c.loop.sum ≡ weight_sum (edges_at c.args.self.now.body.now c.args.self.now.at c.args.count) = omega arith in
    record { tells = rw value (sym (rw left at kept.tells)); same = kept.same; moved = omega (arith, kept.moved) }
