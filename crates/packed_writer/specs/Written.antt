-- What the writer leaves in the buffer.
use Rattle.std.specs.Prelude.{◌≡◌, ℕ, ◌<◌, List, ◌++◌, length, take, drop, Ok, Err, Result}
use Rattle.refusal.specs.declared.Refusal.{Refusal}
use Rattle.chain.specs.Markov.{Markov}
use Rattle.packed_file.specs.Format.{encode}
use Rattle.packed_file.specs.Faults.{judged}
use Rattle.packed_file.specs.TakenUp.{taken_up}
use Rattle.packed_writer.specs.declared.fault.WriteFault.{WriteFault}
use Rattle.packed_writer.specs.declared.fault.WriteFault.TheVariants.{BufferTooShort}

-- The chain's file stands at the front of the buffer, and the rest is as it was; the answer is the file's length.
-- Or the buffer is too short for the file, and all of it is as it was.
abbrev pub Written : Markov → List ℕ → List ℕ → Result ℕ (Refusal WriteFault) → Type 0
Written c before after (Ok n) = (n ≡ length (encode c)) × (after ≡ encode c ++ drop n before)
Written c before after (Err r) = (r ≡ record { fault = BufferTooShort; place = 0 }) × (length before < length (encode c)) × (after ≡ before)

-- What was written is accepted by the check, and taken up it is the chain again.
abbrev pub ReadBack : Markov → List ℕ → Result ℕ (Refusal WriteFault) → Type 0
ReadBack c after (Ok n) = (judged (take n after) ≡ Ok (tt {0})) × (taken_up (take n after) ≡ c)
ReadBack c after (Err r) = Unit {0}
