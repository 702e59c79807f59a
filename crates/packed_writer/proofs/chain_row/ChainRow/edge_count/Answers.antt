use Rattle.std.proofs.Common.{sym, ◌∙◌}
use Rattle.packed_writer.proofs.Bounds.{degree_small}
use Rattle.packed_writer.proofs.chain_row.ChainRow.edge_count.Goals as goal

pub returns-clause-bound : goal.returns-clause-bound
returns-clause-bound g c =
    degree_small (g.C.Chain.meaning c.self.inside.chain.now) (g.C.Chain.lawful c.self.inside.chain.now) c.self.inside.state c.self.invariant
    c.unwrap.result (sym c.edge_count.ensures ∙ c.unwrap.ensures)
