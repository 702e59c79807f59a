use Rattle.std.proofs.Common.{take, ap, ◌∙◌, arith}
use Rattle.property_text.specs.Tokens.{digits}
use Rattle.property_text.proofs.Numerals.{written_none, written_long, written_needless, written_well}
use Rattle.property_text.proofs.tokens.Tokens.read_number.Goals as goal

pub returns-in_err-demand : goal.returns-in_err-demand
returns-in_err-demand c =
    let w = c.leading_digits-written in
    grind (arith, written_none c.args.self.now.text.now w.result.now c.args.self.now.at (w.ensures.digits ∙ ap (λ s. take 6 (digits s)) c.rest.ensures) w.ensures.all)

pub returns-in_err-demand-2 : goal.returns-in_err-demand-2
returns-in_err-demand-2 c =
    let w = c.leading_digits-written in
    grind (arith, written_long c.args.self.now.text.now w.result.now c.args.self.now.at (w.ensures.digits ∙ ap (λ s. take 6 (digits s)) c.rest.ensures) w.ensures.all)

pub returns-in_err-demand-3 : goal.returns-in_err-demand-3
returns-in_err-demand-3 c =
    let w = c.leading_digits-written in
    grind (arith, written_needless c.args.self.now.text.now w.result.now c.args.self.now.at (w.ensures.digits ∙ ap (λ s. take 6 (digits s)) c.rest.ensures) w.ensures.all)

pub returns : goal.returns
returns c =
    let w = c.leading_digits-written in
    grind (arith, written_well c.args.self.now.text.now w.result.now c.args.self.now.at (w.ensures.digits ∙ ap (λ s. take 6 (digits s)) c.rest.ensures) w.ensures.all)
