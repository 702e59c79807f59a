-- What a file is taken up as.
use Rattle.std.specs.Prelude.{ℕ, cond, List, drop, is_ok}
use Rattle.chain.specs.Markov.{Markov, built_in}
use Rattle.packed_file.specs.Format.{decoded}
use Rattle.packed_file.specs.Faults.{judged}

-- the chain of the file where the check accepts it, else the built-in chain
abbrev pub taken_up : List ℕ → Markov
taken_up bytes = cond (is_ok (judged bytes)) (decoded (drop 2 bytes)) built_in
