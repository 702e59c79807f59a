-- What a table of parts holds, and how it is filled.
use Rattle.std.specs.Prelude.{◌≡◌, ℕ, ◌+◌, ◌<◌, List, [], ◌∷◌, ◌++◌, take}
use Rattle.property_parts.specs.Parts.{most_parts}
use Rattle.property_parts.specs.declared.parts.Part.{Part}
use Rattle.property_parts.specs.declared.table.PartTable.{PartTable}

abbrev pub held : PartTable → List Part
held t = take t.count t.parts

-- the part was put behind those that were held, under the next number
pub record Filled (before : PartTable) (part : Part) (after : PartTable) (number : ℕ) : Type 0 where
  pub small : number < most_parts
  pub own : number ≡ before.count
  pub count : after.count ≡ number + 1
  pub parts : held after ≡ held before ++ (part ∷ [])
