use Rattle.std.specs.Prelude.{length, take, min}
use Rattle.std.proofs.Common.{ap, ◌∙◌}
use Rattle.std.proofs.lemmas.List.{take_min}
use Rattle.property_text.specs.Tokens.{digits}
use Rattle.property_text.proofs.Numerals.{cut, digits_front}
use Rattle.property_text.proofs.bytes.leading_digits.Goals as goal

pub returns-clause-digits : goal.returns-clause-digits
returns-clause-digits c = rw (c.digit_count.ensures.value, c.min.ensures) ((cut (take (min 6 (length c.args.bytes.now)) c.args.bytes.now)).same ∙ (ap digits (take_min _ _) ∙ digits_front 6 c.args.bytes.now))

pub returns-clause-all : goal.returns-clause-all
returns-clause-all c = rw (c.digit_count.ensures.value, c.min.ensures) (cut (take (min 6 (length c.args.bytes.now)) c.args.bytes.now)).all
