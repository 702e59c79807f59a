-- What reading the fields of a body from the front comes to.
use Rattle.std.specs.Prelude.{◌≡◌, ℕ, ◌+◌, List, OnOk, Result}
use Rattle.refusal.specs.declared.Refusal.{Refusal}
use Rattle.refusal.specs.Demands.{told}
use Rattle.packed_file.specs.declared.fault.FileFault.{FileFault}
use Rattle.packed_file.specs.declared.fields.Fields.{Fields}
use Rattle.packed_file.specs.declared.header.Header.{Header}
use Rattle.packed_file.specs.Format.{states_in, denominator_in}
use Rattle.packed_file.specs.Faults.{Demands}

-- The fields on which these demands are made were read: what is told is told of the demands,
-- and where they are met, the next field begins `width` bits further on. After a refusal nobody reads on, and nothing is said of the place.
pub record Reads {A : Type 0} (before after : Fields) (result : Result A (Refusal FileFault)) (demands : Demands) (value : A) (width : ℕ) : Type 0 where
  pub tells : result ≡ told demands value
  pub same : after.body ≡ before.body
  pub moved : OnOk result (after.at ≡ before.at + width)

-- what the header says of the rows
abbrev pub header_of : List ℕ → Header
header_of body = record { states = states_in body; denominator = denominator_in body }
