-- What the check's answer says about chains.
use Rattle.std.specs.Prelude.{◌≡◌, ℕ, true, List, drop, is_ok, Ok, Err, Result, ◌≢◌}
use Rattle.refusal.specs.declared.Refusal.{Refusal}
use Rattle.refusal.specs.Demands.{First, told}
use Rattle.chain.specs.Markov.{Markov, Lawful}
use Rattle.packed_file.specs.declared.fault.FileFault.{FileFault}
use Rattle.packed_file.specs.Format.{encode, decoded}
use Rattle.packed_file.specs.Faults.{demands, body_demands}

-- The check accepts exactly the files of lawful chains. What it accepts is the file of the decoded chain, and of no other.
-- What it refuses is the file of no lawful chain, and the refusal is that of the first demand it breaks.
abbrev pub Judges : List ℕ → Result (Unit {0}) (Refusal FileFault) → Type 0
Judges bytes (Ok _) =
    Lawful (decoded (drop 2 bytes)) × (bytes ≡ encode (decoded (drop 2 bytes))) × ((c : Markov) → Lawful c → bytes ≡ encode c → c ≡ decoded (drop 2 bytes))
Judges bytes (Err r) = First (demands bytes) r × ((c : Markov) → Lawful c → bytes ≢ encode c)

-- the body breaks no demand
abbrev pub Faultless : List ℕ → Type 0
Faultless body = is_ok (told {A = Unit {0}} (body_demands body) tt) ≡ true
