use Rattle.std.proofs.Common.{◌+◌, ◌<◌, [], ◌∷◌, ◌++◌, sym, ◌∙◌, ap, ap₂, arith}
use Rattle.std.proofs.lemmas.Bool.{ltb-true}
use Rattle.std.proofs.lemmas.Str.Ascii.{encode_ascii}
use Rattle.property_parts.proofs.Forms.{form_enclosed, form_bare}
use Rattle.property_parts.proofs.Pieces.{in_one, in_two, in_three}
use Rattle.property_parts.proofs.form.PartFormDisplay.+fmt.Goals as goal

pub returns-then-is_enclosed-clause-writes : goal.returns-then-is_enclosed-clause-writes
returns-then-is_enclosed-clause-writes g t c =
    let e = form_enclosed c.args.self.now c.part-part.ensures.value (sym c.is_enclosed.ensures ∙ c.if-is_enclosed.true) in
    in_three g.W.Write.write_str_gives c.write_str-then-is_enclosed.result c.args.f.now c.write_str.new.self c.fmt.new.f c.write_str-then-is_enclosed.new.self (ap (λ x. 40 ∷ (x ++ (41 ∷ []))) c.form.ensures.text ∙ e)
    c.in_ok-write_str.ensures.writes c.in_ok-fmt.ensures.writes c.write_str-then-is_enclosed.ensures.writes

pub returns-in-Letter-clause-writes : goal.returns-in-Letter-clause-writes
returns-in-Letter-clause-writes g t c =
    let e = form_bare c.args.self.now c.part-part.ensures.value c.in-Letter.is c.if-is_enclosed.ensures in
    let low : c.in-Letter.letter < 16 = ltb-true _ _ c.in-Letter.ensures.falls in
    in_one g.W.Write.write_str_gives c.write_char.result c.args.f.now c.write_char.new.self
    (encode_ascii (97 + c.in-Letter.letter) (omega arith) ∙ e) c.write_char.ensures.writes

pub returns-in_ok-write_str-in-Not-clause-writes : goal.returns-in_ok-write_str-in-Not-clause-writes
returns-in_ok-write_str-in-Not-clause-writes g t c =
    let e = form_bare c.args.self.now c.part-part.ensures.value c.in-Not.is c.if-is_enclosed.ensures in
    in_two g.W.Write.write_str_gives c.fmt-in-Not.result c.args.f.now c.write_str-in-Not.new.self c.fmt-in-Not.new.f
    (ap (λ x. 33 ∷ x) c.form-in-Not.ensures.text ∙ e) c.in_ok-write_str-in-Not.ensures.writes c.fmt-in-Not.ensures.writes

pub returns-in-True-clause-writes : goal.returns-in-True-clause-writes
returns-in-True-clause-writes g t c =
    let e = form_bare c.args.self.now c.part-part.ensures.value c.in-True.is c.if-is_enclosed.ensures in
    in_one g.W.Write.write_str_gives c.write_str-in-True.result c.args.f.now c.write_str-in-True.new.self e c.write_str-in-True.ensures.writes

pub returns-in-False-clause-writes : goal.returns-in-False-clause-writes
returns-in-False-clause-writes g t c =
    let e = form_bare c.args.self.now c.part-part.ensures.value c.in-False.is c.if-is_enclosed.ensures in
    in_one g.W.Write.write_str_gives c.write_str-in-False.result c.args.f.now c.write_str-in-False.new.self e c.write_str-in-False.ensures.writes

pub returns-in_ok-write_str-in-And-clause-writes : goal.returns-in_ok-write_str-in-And-clause-writes
returns-in_ok-write_str-in-And-clause-writes g t c =
    let e = form_bare c.args.self.now c.part-part.ensures.value c.in-And.is c.if-is_enclosed.ensures in
    in_three g.W.Write.write_str_gives c.fmt-in-And-2.result c.args.f.now c.fmt-in-And.new.f c.write_str-in-And.new.self c.fmt-in-And-2.new.f
    (ap₂ (λ x y. x ++ (38 ∷ y)) c.form-in-And.ensures.text c.form-in-And-2.ensures.text ∙ e)
    c.in_ok-fmt-in-And.ensures.writes c.in_ok-write_str-in-And.ensures.writes c.fmt-in-And-2.ensures.writes

pub returns-in_ok-write_str-in-Or-clause-writes : goal.returns-in_ok-write_str-in-Or-clause-writes
returns-in_ok-write_str-in-Or-clause-writes g t c =
    let e = form_bare c.args.self.now c.part-part.ensures.value c.in-Or.is c.if-is_enclosed.ensures in
    in_three g.W.Write.write_str_gives c.fmt-in-Or-2.result c.args.f.now c.fmt-in-Or.new.f c.write_str-in-Or.new.self c.fmt-in-Or-2.new.f
    (ap₂ (λ x y. x ++ (124 ∷ y)) c.form-in-Or.ensures.text c.form-in-Or-2.ensures.text ∙ e)
    c.in_ok-fmt-in-Or.ensures.writes c.in_ok-write_str-in-Or.ensures.writes c.fmt-in-Or-2.ensures.writes
