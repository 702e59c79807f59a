use Rattle.std.proofs.Common.{◌≡◌, ◌+◌, ◌-◌, ◌∙◌, lit<, arith, rules}
use Rattle.std.proofs.lemmas.List.{append-nil}
use Rattle.packed_file.specs.Format.{rows_at}
use Rattle.packed_file.proofs.Judged.{faultless_lawful}
use Rattle.packed_chain.specs.Places.{places_from}
use Rattle.packed_chain.proofs.Lookup.{within, room, row_more}
use Rattle.packed_chain.proofs.rows.find_rows.Goals as goal

pub push-requires : goal.push-requires
push-requires c = (lit< tt, room c.args.body.now c.loop.rows.items (c.get.result + 1) c.loop.counter c.loop.at c.loop-test.true c.loop.invariant.placed)

pub get-count-requires-clause-within : goal.get-count-requires-clause-within
get-count-requires-clause-within c =
    let row = within c.args.body.now c.loop.rows.items (c.get.result + 1) c.loop.counter c.loop.at c.loop-test.true c.requires.faultless c.loop.invariant.placed in
    omega (arith, row.inside)

pub overflow_add-at-in-loop-4 : goal.overflow_add-at-in-loop-4
overflow_add-at-in-loop-4 c =
    let row = within c.args.body.now c.loop.rows.items (c.get.result + 1) c.loop.counter c.loop.at c.loop-test.true c.requires.faultless c.loop.invariant.placed in
    let near = row.near in
    let count = c.get-count.ensures.value in
    search rules

pub overflow_add-edges : goal.overflow_add-edges
overflow_add-edges c =
    let more = row_more c.args.body.now c.loop.rows.items (c.get.result + 1) c.loop.counter c.loop.at c.loop-test.true c.get-count.result c.get-count.ensures.value in
    let few = (faultless_lawful c.args.body.now c.requires.faultless).sparse in
    let sum = c.loop.invariant.summed in
    let next = more.1 in
    search rules

pub loop-preserved : goal.loop-preserved
loop-preserved c =
    let more = row_more c.args.body.now c.loop.rows.items (c.get.result + 1) c.loop.counter c.loop.at c.loop-test.true c.get-count.result c.get-count.ensures.value in
    let kept = c.loop.invariant in
    record { placed = rw c.push.ensures.items (more.0 ∙ kept.placed); summed = omega (arith, kept.summed, more.1) }

pub returns-clause-placed : goal.returns-clause-placed
unfolding places_from
returns-clause-placed c =
    let left : (c.get.result + 1) - c.loop.counter ≡ 0 = omega arith in
    rw (append-nil c.loop.rows.items) at (rw left at c.loop.invariant.placed)

pub returns-clause-summed : goal.returns-clause-summed
unfolding rows_at
returns-clause-summed c =
    let left : (c.get.result + 1) - c.loop.counter ≡ 0 = omega arith in
    let summed = rw left at c.loop.invariant.summed in
    omega arith
