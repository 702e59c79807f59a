-- How a reader's answer, which is a part's number, goes with the formula that is read.
use Rattle.std.specs.Prelude.{◌≡◌, ℕ, ◌+◌, ◌≤◌, ◌++◌, Ok, Err, OnOk}
use Rattle.property_parts.specs.Formula.{Formula, root, size, parts_of}
use Rattle.property_parts.specs.Table.{held}
use Rattle.property_parts.specs.declared.table.PartTable.{PartTable}
use Rattle.property_text.specs.Faults.{Read}
use Rattle.formula_reader.specs.Reading.{Reader}
use Rattle.formula_reader.specs.declared.reader.FormulaReader.{FormulaReader}

-- a formula was read up to `next`; its parts are put behind those that the table held, and `number` is its own
pub record Made (g : Read (Formula × ℕ)) (before after : PartTable) (number next : ℕ) : Type 0 where
  pub formula : Formula
  pub read : g ≡ Ok (formula, next)
  pub own : number ≡ before.count + root formula
  pub count : after.count ≡ before.count + size formula
  pub parts : held after ≡ held before ++ parts_of before.count formula

-- what is to be read was read from where the reader stood, up to where it stands now; or it was refused
abbrev pub Told : Reader → FormulaReader → FormulaReader → Read ℕ → Type 0
Told reading before after (Ok number) = Made (reading before.parts.count before.tokens.at) before.parts after.parts number after.tokens.at
Told reading before after (Err refusal) = reading before.parts.count before.tokens.at ≡ Err refusal

-- and the text stays, and the place does not fall
pub record Answers (reading : Reader) (before after : FormulaReader) (result : Read ℕ) : Type 0 where
  pub tells : Told reading before after result
  pub same : after.tokens.text ≡ before.tokens.text
  pub later : OnOk result (before.tokens.at ≤ after.tokens.at)
