-- The number of each fault of tables.
use Rattle.std.specs.Prelude.{ℕ}
use Rattle.tables.specs.declared.fault.TableFault.{TableFault}
use Rattle.tables.specs.declared.fault.TableFault.TheVariants.{BadRowCount, EdgesRunOut, BadDenominator, StartOutside, BadTarget, ZeroWeight, WrongSum, TooManyEdges, Leftover}

abbrev pub number : TableFault → ℕ
number BadRowCount = 2
number EdgesRunOut = 3
number BadDenominator = 4
number StartOutside = 5
number BadTarget = 6
number ZeroWeight = 7
number WrongSum = 8
number TooManyEdges = 9
number Leftover = 10
