use Rattle.std.proofs.Common.{◌≡◌, Err, sym, refl}
use Rattle.refusal.specs.declared.Refusal.{Refusal}
use Rattle.chain.specs.Markov.{built_in}
use Rattle.tables.specs.declared.tables.Tables.{Tables}
use Rattle.tables.specs.declared.fault.TableFault.{TableFault}
use Rattle.tables.specs.Tabled.{next_edges, rows_of}
use Rattle.tables.specs.Faults.{edges_demands, rows_demands, judged}
use Rattle.tables.specs.TakenUp.{taken_up}
use Rattle.table_chain.proofs.questions.faultless_or_built_in.Goals as goal

refused : (t : Tables) (f : Refusal TableFault) → Err f ≡ judged t → taken_up t ≡ built_in
refused t f h = rw (← h)

pub returns-in-Err : goal.returns-in-Err
unfolding next_edges rows_of edges_demands rows_demands
returns-in-Err c = record { faultless = refl; meaning = sym (refused c.args.tables _ c.in-Err.ensures.value) }
