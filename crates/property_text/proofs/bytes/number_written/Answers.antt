use Rattle.std.proofs.Common.{◌+◌, ◌-◌, get_or, drop, arith, sym, ap, ◌∙◌}
use Rattle.property_text.specs.Tokens.{digits, worth}
use Rattle.property_text.proofs.Numerals.{in_digits, digit_some, more_bound, worth_more, worth_end}
use Rattle.property_text.proofs.bytes.number_written.Goals as goal

pub loop-byte-preserved : goal.loop-byte-preserved
loop-byte-preserved c =
    let s = c.args.bytes.now in
    let k = c.loop-byte.byte-index in
    let v = c.loop-byte.value in
    let r = in_digits s k c.requires.all c.loop-byte-test.true in
    record {
      small = more_bound v (get_or s k 0 - 48) k c.loop-byte.invariant.small (omega arith);
      value = sym (worth_more v (get_or s k 0 - 48) (digits (drop (k + 1) s)))
          ∙ (ap (λ ds. worth v ds) (sym (digit_some s k c.loop-byte-test.true r.0 r.1)) ∙ c.loop-byte.invariant.value);
    }

pub returns : goal.returns
returns c = sym (worth_end c.loop-byte.value c.loop-byte.byte-index c.args.bytes.now c.loop-byte-test.false) ∙ c.loop-byte.invariant.value
