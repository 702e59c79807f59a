use Rattle.packed_chain.proofs.Lookup.{edge_none, edge_found}
use Rattle.packed_chain.proofs.questions.PackedChainChain.edge.Goals as goal

pub returns-then-place-get : goal.returns-then-place-get
returns-then-place-get c =
    edge_none c.args.self.now.body.now c.args.state c.in_ok-row.row c.in_ok-row.ensures.0
    c.get.result c.args.place c.get.ensures.value c.if-place-get.true

pub returns : goal.returns
returns c =
    edge_found c.args.self.now.body.now c.args.state c.in_ok-row.row c.in_ok-row.ensures.0
    c.get.result c.args.place c.get-2.result c.get-3.result
    c.get.ensures.value c.if-place-get.false c.get-2.ensures.value c.get-3.ensures.value
