-- What a property means.
use Rattle.property_parts.specs.Table.{held}
use Rattle.property.specs.Asked.{InParts}
use Rattle.property.specs.declared.property.Property.{Property}

abbrev pub meaning : Property → InParts
meaning p = record { ceiling = p.ceiling; ground_part = p.ground_part; hops = p.hop_bound; goal_part = p.goal_part; parts = held p.parts }
