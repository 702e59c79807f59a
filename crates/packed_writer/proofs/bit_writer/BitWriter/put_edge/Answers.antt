use Rattle.packed_writer.proofs.Steps.{writes_more}
use Rattle.packed_writer.proofs.bit_writer.BitWriter.put_edge.Goals as goal

pub returns : goal.returns
returns c = writes_more c.put.ensures c.put-2.ensures
