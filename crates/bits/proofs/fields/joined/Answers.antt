use Rattle.std.proofs.Common.{◌≡◌, ◌+◌, ◌*◌, ◌%◌, ◌^◌, ◌<◌, arith, pow-add, shl_exact}
use lib.Arith.{digits_lt}
use Rattle.bits.proofs.fields.joined.Goals as goal

pub returns : goal.returns
returns c =
    let first : (c.args.head * 2 ^ c.args.width) % 2 ^ 32 ≡ c.args.head * 2 ^ c.args.width = shl_exact 8 c.args.width 32 c.requires.short (omega arith) in
    let lt : c.args.head * 2 ^ c.args.width + c.args.value < 2 ^ (8 + c.args.width) = rw (pow-add 2 8 c.args.width) (digits_lt c.requires.short c.requires.fits) in
    rw first (shl_exact (8 + c.args.width) c.args.fill 32 lt (omega arith))
