-- The chain that a value stands for.
use Rattle.chain.specs.Markov.{Markov}
use Rattle.packed_file.specs.Format.{decoded}
use Rattle.packed_chain.specs.declared.packed_chain.PackedChain.{PackedChain}

abbrev pub meaning_of : PackedChain → Markov
meaning_of c = decoded c.body.now
