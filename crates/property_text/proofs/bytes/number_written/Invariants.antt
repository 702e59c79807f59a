use Rattle.std.proofs.Common.{◌≡◌, ◌^◌, ◌<◌, drop}
use Rattle.property_text.specs.Tokens.{digits, worth}
use Rattle.property_text.proofs.bytes.number_written.Given as goal

abbrev pub invariant-loop-byte : goal.invariant-loop-byte
invariant-loop-byte l = record { small : l.value < 10 ^ l.byte-index; value : worth l.value (digits (drop l.byte-index l.bytes)) ≡ worth 0 (digits l.bytes) }
