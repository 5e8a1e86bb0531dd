-- What linking answers.
use Rattle.std.specs.Prelude.{ℕ, List, Result, Ok, Err, ⊤}
use Rattle.machine_json.specs.declared.machine.Machine.{Machine}
use Rattle.machine_json.specs.FirstFaults.{IsLeastPlace}
use Rattle.action_table.specs.declared.definitions.Defs.{Defs}
use Rattle.action_table.specs.declared.fault.TableFault.{TableFault}
use Rattle.action_table.specs.declared.fault.TableFault.TheVariants.{UnknownForm, Unnamed, Twice, Memory}
use Rattle.action_table.specs.declared.table.Table.{Table}
use Rattle.action_table.specs.Linking.{AreLinkedTo}
use Rattle.action_table.specs.Uses.{IsTwice, IsUnnamed}

-- no machine has the id of an earlier one
abbrev pub HaveOwnIds : List Machine → Type 0
HaveOwnIds machines = (place : ℕ) → ¬ IsTwice machines place

-- machines and a table are linked in which no id stands twice and something stands for each name
pub record IsLinkOf (machines : List Machine) (table : Table) (defs : Defs) : Type 0 where
  pub linked : AreLinkedTo machines table defs
  pub own_ids : HaveOwnIds machines
  pub named : (place : ℕ) → ¬ IsUnnamed machines table place

-- the linked definitions; the least place of a machine with an earlier one's id; where there is none, the least place of a name for which
-- nothing stands; memory may run out
abbrev pub IsLinkReading : List Machine → Table → Result Defs TableFault → Type 0
IsLinkReading machines table (Ok defs) = IsLinkOf machines table defs
IsLinkReading machines table (Err (Twice place)) = IsLeastPlace (IsTwice machines) place
IsLinkReading machines table (Err (Unnamed place)) = HaveOwnIds machines × IsLeastPlace (IsUnnamed machines table) place
IsLinkReading machines table (Err (UnknownForm place)) = ⊥
IsLinkReading machines table (Err Memory) = ⊤
