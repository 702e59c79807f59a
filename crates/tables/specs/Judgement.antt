-- What the check's answer says about chains.
use Rattle.std.specs.Prelude.{◌≡◌, length, Ok, Err, Result, ◌≢◌}
use Rattle.refusal.specs.declared.Refusal.{Refusal}
use Rattle.refusal.specs.Demands.{First}
use Rattle.chain.specs.Markov.{Lawful}
use Rattle.chain.specs.Questions.{edge_total}
use Rattle.tables.specs.declared.tables.Tables.{Tables}
use Rattle.tables.specs.declared.fault.TableFault.{TableFault}
use Rattle.tables.specs.Tabled.{tabled}
use Rattle.tables.specs.Faults.{demands}

-- The check accepts exactly the tables of a lawful chain that has all the edges of the second table.
-- A refusal is that of the first demand that the tables break.
abbrev pub Judges : Tables → Result (Unit {0}) (Refusal TableFault) → Type 0
Judges t (Ok _) = Lawful (tabled t) × (edge_total (tabled t) ≡ length t.edges.now)
Judges t (Err r) = First (demands t) r × (Lawful (tabled t) → edge_total (tabled t) ≢ length t.edges.now)
