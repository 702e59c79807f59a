use Rattle.std.proofs.Common.{◌≡◌, ap, ◌∙◌}
use Rattle.bits.specs.Mirror.{mirrored}
use Rattle.packed_writer.proofs.Steps.{writes_more}
use Rattle.packed_writer.proofs.bit_writer.BitWriter.put_row.Goals as goal

pub returns : goal.returns
returns g c =
    let letters : c.mirror-letters.result ≡ mirrored 16 c.args.row.now.propositions = c.mirror-letters.ensures ∙ ap (λ v. mirrored 16 v) c.propositions.ensures in
    rw (letters, c.edge_count.ensures.value) at (writes_more c.put.ensures (writes_more c.put-2.ensures c.put_edges.ensures))
