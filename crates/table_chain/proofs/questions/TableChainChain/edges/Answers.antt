use Rattle.std.proofs.Common.{sym}
use Rattle.tables.proofs.Fits.{faultless_whole}
use Rattle.table_chain.proofs.questions.TableChainChain.edges.Goals as goal

pub returns : goal.returns
returns c = sym (faultless_whole c.args.self.now.tables c.args.self.now.faultless)
