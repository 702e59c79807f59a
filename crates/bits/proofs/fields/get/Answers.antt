use Rattle.std.proofs.Common.{◌≡◌, ◌*◌, ◌%◌, ◌^◌, arith}
use Rattle.std.proofs.lemmas.Nat.{one_shl}
use Rattle.bits.proofs.Whole.{field_lt, field_read}
use Rattle.bits.proofs.fields.get.Goals as goal

pub returns : goal.returns
returns c =
    let s : (1 * 2 ^ c.args.width) % 2 ^ 32 ≡ 2 ^ c.args.width = one_shl c.args.width 32 (omega arith) in
    let e = field_read c.args.bytes.now c.args.at c.args.width c.from_be_bytes-word.result c.byte_or_zero.result c.byte_or_zero-2.result c.byte_or_zero-3.result
    (omega arith) (omega arith) c.byte_or_zero.ensures c.byte_or_zero-2.ensures c.byte_or_zero-3.ensures (omega arith) (omega arith) (omega arith) in
    rw s (record { value = e; bound = rw e (field_lt c.args.bytes.now c.args.at c.args.width) })
