use Rattle.property.proofs.Fresh.{fresh_filled}
use Rattle.property.proofs.property.Property.fresh.Goals as goal

pub returns : goal.returns
returns c =
    fresh_filled c.new-parts.result c.fill.new.self c.fill-2.new.self c.unwrap-ground_part.result c.unwrap-goal_part.result c.new-parts.ensures
    (rw c.unwrap-ground_part.ensures at c.fill.ensures) (rw c.unwrap-goal_part.ensures at c.fill-2.ensures)
