-- What the reader's answer says of the text.
use Rattle.std.specs.Prelude.{◌≡◌, ℕ, List, Ok, Err, Result}
use Rattle.refusal.specs.declared.Refusal.{Refusal}
use Rattle.property_text.specs.declared.fault.PropertyFault.{PropertyFault}
use Rattle.property.specs.Asked.{Asked, InParts, in_parts}
use Rattle.property.specs.Grammar.{Spelled}
use Rattle.property.specs.Meaning.{meaning}
use Rattle.property.specs.Places.{Stands, FrontDecides, FrontSpellsNone}
use Rattle.property.specs.Written.{written}
use Rattle.property.specs.declared.property.Property.{Property}

-- the text spells one property and no other; these are its parts, and written out it is spelled again
pub record Accepted (s : List ℕ) (p : InParts) : Type 0 where
  pub asked : Asked
  pub spelled : Spelled s asked
  pub alone : (b : Asked) → Spelled s b → b ≡ asked
  pub parts : p ≡ in_parts asked
  pub again : Spelled (written p) asked

-- the text spells no property; the refusal is told for what stands at its place, and is the first from the front
pub record Refused (s : List ℕ) (r : Refusal PropertyFault) : Type 0 where
  pub unspelled : (a : Asked) → Spelled s a → ⊥
  pub stands : Stands s r.fault r.place
  pub front : FrontDecides s r
  pub hopeless : FrontSpellsNone s r

-- The reader accepts exactly the texts that spell a property within the limits.
abbrev pub Judges : List ℕ → Result Property (Refusal PropertyFault) → Type 0
Judges s (Ok p) = Accepted s (meaning p)
Judges s (Err r) = Refused s r
