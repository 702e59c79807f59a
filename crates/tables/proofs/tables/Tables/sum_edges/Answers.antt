use Rattle.std.proofs.Common.{◌≡◌, ◌+◌, ◌-◌, drop, sym, ap, ◌∙◌, arith, rules}
use Rattle.std.proofs.lemmas.List.{drop-drop}
use Rattle.std.proofs.lemmas.Result.{err_from_is_err_and}
use Rattle.std.specs.Slice.Iter.{iter_rest}
use Rattle.tables.proofs.Turns.{edges_turn, edges_stop, edges_end}
use Rattle.tables.proofs.tables.Tables.sum_edges.Goals as goal

pub loop-preserved : goal.loop-preserved
loop-preserved c =
    let left : iter_rest c.next_edge.new.edges ≡ drop 1 (iter_rest c.loop.edges) = c.in_ok-edge.ensures.left in
    let weight : c.from-sum.result ≡ c.in_ok-edge.edge.now.weight = search rules in
    let light = c.in_ok-edge.ensures.bound.1 in
    let turn = edges_turn c.args.self.now c.args.state (iter_rest c.loop.edges) (c.args.count - c.loop.counter) (c.args.count - (c.loop.counter + 1)) c.loop.low c.loop.sum
    c.in_ok-edge.edge.now (omega arith) c.in_ok-edge.ensures.told in
    record {
      decided = rw (left, weight) (c.loop.invariant.decided ∙ turn);
      walked = left ∙ ap (drop 1) c.loop.invariant.walked ∙ drop-drop 1 c.loop.counter (iter_rest c.args.edges.now);
      small = omega (arith, weight, c.loop.invariant.small);
    }

pub returns-in_err-edge-clause-told : goal.returns-in_err-edge-clause-told
returns-in_err-edge-clause-told c =
    let p = err_from_is_err_and c.from_residual.result c.from_residual.ensures.1 in
    let stop = edges_stop c.args.self.now c.args.state (iter_rest c.loop.edges) (c.args.count - c.loop.counter) (c.args.count - (c.loop.counter + 1)) c.loop.low _ _
    (omega arith) c.in_err-edge.ensures.told in
    rw (p.1, p.2) (sym (c.loop.invariant.decided ∙ stop))

pub returns-clause-told : goal.returns-clause-told
returns-clause-told c = sym (c.loop.invariant.decided ∙ edges_end c.args.self.now c.args.state (iter_rest c.loop.edges) (c.args.count - c.loop.counter) c.loop.low c.loop.sum (omega arith))
