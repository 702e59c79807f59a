use Rattle.packed_writer.proofs.Steps.{writes_more}
use Rattle.packed_writer.proofs.bit_writer.BitWriter.put_header.Goals as goal

pub returns : goal.returns
returns g c =
    rw (c.states.ensures, c.denominator.ensures, c.start.ensures) at
    (writes_more c.put.ensures (writes_more c.put-2.ensures (writes_more c.put-3.ensures c.put-4.ensures)))
