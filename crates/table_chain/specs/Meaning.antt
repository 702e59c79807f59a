-- The chain that a value stands for.
use Rattle.chain.specs.Markov.{Markov}
use Rattle.table_chain.specs.declared.table_chain.TableChain.{TableChain}
use Rattle.tables.specs.Tabled.{tabled}

abbrev pub meaning_of : TableChain → Markov
meaning_of c = tabled c.tables
