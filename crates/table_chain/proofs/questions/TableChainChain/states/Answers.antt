use Rattle.std.proofs.Common.{sym}
use Rattle.tables.proofs.Fits.{length_rows}
use Rattle.table_chain.proofs.questions.TableChainChain.states.Goals as goal

pub returns : goal.returns
returns c = let t = c.args.self.now.tables in sym (length_rows t.rows.now t.edges.now)
