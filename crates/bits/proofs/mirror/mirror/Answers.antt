use Rattle.std.proofs.Common.{◌∙◌, arith}
use Rattle.bits.proofs.Mirrors.{reversed_mirrored}
use Rattle.bits.proofs.mirror.mirror.Goals as goal

pub returns : goal.returns
returns c = c.reverse_bits.ensures ∙ reversed_mirrored 16 c.args.bits 0 ∙ omega arith
