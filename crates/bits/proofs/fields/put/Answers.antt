use Rattle.std.proofs.Common.{◌-◌, ◌*◌, ◌%◌, arith}
use Rattle.bits.proofs.Puts.{put_wrote}
use Rattle.bits.proofs.fields.put.Goals as goal

pub returns : goal.returns
returns c =
    let n = c.div_ceil-count.ensures in
    put_wrote c.args.bytes.now c.store.new.bytes c.args.at c.args.width c.args.value c.byte_or_zero.result c.div_ceil-count.result
    (8 * c.div_ceil-count.result - c.args.at % 8 - c.args.width) c.joined-word.result c.requires.fits c.byte_or_zero.ensures (omega arith)
    (omega arith) (omega arith) c.joined-word.ensures c.store.ensures
