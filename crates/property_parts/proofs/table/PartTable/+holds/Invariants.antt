use Rattle.property_parts.proofs.table.PartTable.+holds.Given as goal

abbrev pub decreases-holds : goal.decreases-holds
decreases-holds l = l.number
