-- What tables are taken up as.
use Rattle.std.specs.Prelude.{cond, is_ok}
use Rattle.chain.specs.Markov.{Markov, built_in}
use Rattle.tables.specs.declared.tables.Tables.{Tables}
use Rattle.tables.specs.Tabled.{tabled}
use Rattle.tables.specs.Faults.{judged}

-- the chain that the tables write out where the check accepts them, else the built-in chain
abbrev pub taken_up : Tables → Markov
taken_up t = cond (is_ok (judged t)) (tabled t) built_in
