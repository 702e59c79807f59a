-- The number of each fault of a file.
use Rattle.std.specs.Prelude.{ℕ}
use Rattle.packed_file.specs.declared.fault.FileFault.{FileFault}
use Rattle.packed_file.specs.declared.fault.FileFault.TheVariants.{ReversedMark, NoMark, EndsInField, ZeroDenominator, StartOutside, BadTarget, ZeroWeight, WrongSum, TooManyEdges, Leftover}

abbrev pub number : FileFault → ℕ
number ReversedMark = 1
number NoMark = 2
number EndsInField = 3
number ZeroDenominator = 4
number StartOutside = 5
number BadTarget = 6
number ZeroWeight = 7
number WrongSum = 8
number TooManyEdges = 9
number Leftover = 10
