use Rattle.std.proofs.Common.{sym, ◌∙◌}
use Rattle.packed_writer.proofs.Bounds.{edge_small}
use Rattle.packed_writer.proofs.chain_row.ChainRow.edge.Goals as goal

pub returns-clause-bound : goal.returns-clause-bound
returns-clause-bound g c =
    edge_small (g.C.Chain.meaning c.self.inside.chain.now) (g.C.Chain.lawful c.self.inside.chain.now) c.self.inside.state c.self.invariant
    c.args.place c.unwrap.result (sym c.edge.ensures ∙ c.unwrap.ensures)
