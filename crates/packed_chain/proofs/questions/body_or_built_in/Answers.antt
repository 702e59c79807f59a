use Rattle.std.proofs.Common.{refl}
use Rattle.packed_chain.proofs.BuiltIn.{taken}
use Rattle.packed_chain.proofs.questions.body_or_built_in.Goals as goal

pub returns-clause-faultless : goal.returns-clause-faultless
returns-clause-faultless c = rw c.unwrap_or.ensures (taken c.args.bytes.now c.faultless_body.result _ refl c.faultless_body.ensures).0

pub returns-clause-meaning : goal.returns-clause-meaning
returns-clause-meaning c = rw c.unwrap_or.ensures (taken c.args.bytes.now c.faultless_body.result _ refl c.faultless_body.ensures).1
