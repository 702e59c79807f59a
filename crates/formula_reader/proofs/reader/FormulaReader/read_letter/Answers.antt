use Rattle.std.proofs.Common.{◌-◌, refl, arith}
use Rattle.property_parts.specs.Formula.{letter}
use Rattle.property_parts.specs.Parts.{most_parts}
use Rattle.formula_reader.specs.Reading.{single, lone_letter}
use Rattle.formula_reader.proofs.Steps.{answers_as, answers_single, is_lettered}
use Rattle.formula_reader.proofs.reader.FormulaReader.read_letter.Goals as goal

pub returns-in-Some-97-to-112 : goal.returns-in-Some-97-to-112
returns-in-Some-97-to-112 c =
    let s = c.args.self.now.tokens.text.now in
    let b = c.in-Some-97-to-112.letter in
    answers_as (single s most_parts (letter (b - 97))) (lone_letter s most_parts) _ _ _
    (rw (c.in-Some-97-to-112.ensures.stands, is_lettered b (omega arith) (omega arith)) refl)
    (answers_single _ _ _ _ (c.read_single.ensures.read (letter (b - 97)) refl refl) c.read_single.ensures.later c.read_single.ensures.text)
