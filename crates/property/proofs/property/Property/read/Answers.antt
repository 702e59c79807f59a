use Rattle.std.proofs.Common.{◌≡◌, ◌≤◌, length, refl, rules, arith}
use Rattle.std.proofs.lemmas.Result.{err_from_is_err_and}
use Rattle.property_parts.specs.Formula.{size}
use Rattle.property.specs.Limits.{most_bytes}
use Rattle.property.specs.Reading.{read}
use Rattle.property.proofs.Stages.{refused, accepted, goal_refused}
use Rattle.property.proofs.property.Property.read.Goals as goal

pub returns-in_err-demand : goal.returns-in_err-demand
unfolding read
returns-in_err-demand c =
    let p = err_from_is_err_and c.from_residual.result c.from_residual.ensures.1 in
    rw (p.1, p.2) (refused c.args.text.now c.in_err-demand.field-0.0 (search rules))

pub returns-in_err-ceiling : goal.returns-in_err-ceiling
unfolding read
returns-in_err-ceiling c =
    let p = err_from_is_err_and c.from_residual-in_err-ceiling.result c.from_residual-in_err-ceiling.ensures.1 in
    rw (p.1, p.2) (refused c.args.text.now c.in_err-ceiling.field-0.0 (search rules))

pub returns-in_err-ground_part : goal.returns-in_err-ground_part
unfolding read
returns-in_err-ground_part c =
    let none = c.new.ensures in
    let ground = c.in_err-ground_part.ensures.tells in
    let p = err_from_is_err_and c.from_residual-in_err-ground_part.result c.from_residual-in_err-ground_part.ensures.1 in
    rw (p.1, p.2) (refused c.args.text.now c.in_err-ground_part.field-0.0 (search rules))

pub returns-in_err-hop_bound : goal.returns-in_err-hop_bound
unfolding read
returns-in_err-hop_bound c =
    let none = c.new.ensures in
    let ground = c.in_ok-ground_part.ensures.tells.read in
    let p = err_from_is_err_and c.from_residual-in_err-hop_bound.result c.from_residual-in_err-hop_bound.ensures.1 in
    rw (p.1, p.2) (refused c.args.text.now c.in_err-hop_bound.field-0.0 (search rules))

pub returns-in_err-goal_part : goal.returns-in_err-goal_part
returns-in_err-goal_part c =
    let s = c.args.text.now in
    let short : length s ≤ most_bytes = search rules in
    let begin = c.new-tokens.ensures in
    let none = c.new.ensures in
    let text₁ = c.in_ok-ceiling.ensures.read.same in
    let text₂ = c.in_ok-ground_part.ensures.same in
    let text₃ = c.in_ok-hop_bound.ensures.read.same in
    let made = c.in_ok-ground_part.ensures.tells in
    let filled : c.read_state.new.self.parts.count ≡ size made.formula = omega (arith, made.count, none) in
    let opened = rw (begin.text, begin.at) at c.in_ok-ceiling.ensures.read.tells in
    let ground = rw (text₁, begin.text, none) at made.read in
    let until = rw (text₂, text₁, begin.text) at c.in_ok-hop_bound.ensures.read.tells in
    let refused_goal = rw (text₃, text₂, text₁, begin.text, filled) at c.in_err-goal_part.ensures.tells in
    let p = err_from_is_err_and c.from_residual-in_err-goal_part.result c.from_residual-in_err-goal_part.ensures.1 in
    rw (p.1, p.2) (refused s c.in_err-goal_part.field-0.0 (goal_refused s short opened ground until refused_goal))

pub returns-in_err-read_closing : goal.returns-in_err-read_closing
unfolding read
returns-in_err-read_closing c =
    let made = c.in_ok-ground_part.ensures.tells in
    let none = c.new.ensures in
    let ground = made.read in
    let filled : c.read_state.new.self.parts.count ≡ size made.formula = omega (arith, made.count) in
    let goal_formula = c.in_ok-goal_part.ensures.tells.read in
    let p = err_from_is_err_and c.from_residual-in_err-read_closing.result c.from_residual-in_err-read_closing.ensures.1 in
    rw (p.1, p.2) (refused c.args.text.now c.in_err-read_closing.field-0.0 (search rules))

pub returns-clause-value : goal.returns-clause-value
unfolding read
returns-clause-value c =
    let made = c.in_ok-ground_part.ensures.tells in
    let none = c.new.ensures in
    let ground = made.read in
    let filled : c.read_state.new.self.parts.count ≡ size made.formula = omega (arith, made.count) in
    let goal_formula = c.in_ok-goal_part.ensures.tells.read in
    search rules

pub returns-clause-judges : goal.returns-clause-judges
returns-clause-judges c = accepted c.args.text.now c.read_state-2.new.self.parts _ refl (returns-clause-value c)
