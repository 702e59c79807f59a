-- What reading from the front of what is left of a text comes to.
use Rattle.std.specs.Prelude.{◌≡◌, ◌≤◌, OnOk}
use Rattle.property_text.specs.Faults.{Read}
use Rattle.property_text.specs.declared.tokens.Tokens.{Tokens}

-- what is told is what is read of the text; the text stays, and the place does not fall. After an `Err` nothing is said of the place, since nobody reads on
pub record Reads {A : Type 0} (before after : Tokens) (told reading : Read A) : Type 0 where
  pub tells : told ≡ reading
  pub same : after.text ≡ before.text
  pub later : OnOk told (before.at ≤ after.at)
