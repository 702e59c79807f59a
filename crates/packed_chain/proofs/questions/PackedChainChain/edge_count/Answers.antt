use Rattle.packed_chain.proofs.Lookup.{degree_found}
use Rattle.packed_chain.proofs.questions.PackedChainChain.edge_count.Goals as goal

pub returns : goal.returns
returns c = degree_found c.args.self.now.body.now c.args.state c.in_ok-row.row c.in_ok-row.ensures.0 c.get.result c.get.ensures.value
