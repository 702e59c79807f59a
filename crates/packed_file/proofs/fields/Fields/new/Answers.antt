use Rattle.std.proofs.lemmas.List.{take_min}
use Rattle.packed_file.proofs.fields.Fields.new.Goals as goal

pub returns-clause-front : goal.returns-clause-front
returns-clause-front c = rw (c.min-front.ensures) (take_min _ _)
