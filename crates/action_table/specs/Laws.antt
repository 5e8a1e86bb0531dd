-- What follows from the definitions, in the words of one who writes implementations.
use Rattle.std.specs.Prelude.{◌≡◌, ◌≢◌, ℕ, List, Contains, IsSome, Err}
use Rattle.ordered_json.specs.declared.json.OrderedJson.{OrderedJson}
use Rattle.xs_model.specs.Rising.{get}
use Rattle.machine_json.specs.declared.machine.Machine.{Machine}
use Rattle.machine_json.specs.FirstFaults.{IsLeastPlace}
use Rattle.action_table.specs.declared.definitions.Defs.{Defs}
use Rattle.action_table.specs.declared.defs_fault.DefsFault.{DefsFault}
use Rattle.action_table.specs.declared.fault.TableFault.{TableFault}
use Rattle.action_table.specs.declared.fault.TableFault.TheVariants.{Memory}
use Rattle.action_table.specs.declared.role.TableRole.TheVariants as role
use Rattle.action_table.specs.declared.table.Table.{Table}
use Rattle.action_table.specs.DefNames.{ids_of_machines}
use Rattle.action_table.specs.DefsText.{IsRefusedDefs, MeansDefs}
use Rattle.action_table.specs.Linked.{IsLinkOf, IsLinkReading}
use Rattle.action_table.specs.Linking.{actor_number, machine_number}
use Rattle.action_table.specs.TableMeaning.{IsTableOf}
use Rattle.action_table.specs.TablePlaces.{HasTableFault}
use Rattle.action_table.specs.Uses.{Use, uses}

-- implementations mean one table at most, have one place at most where they are refused, and never both
pub record TableMeansOnce : Type 0 where
  pub one_table : (json : OrderedJson) (table other : Table) → IsTableOf json table → IsTableOf json other → table ≡ other
  pub one_place : (json : OrderedJson) (place other : ℕ)
      → IsLeastPlace (HasTableFault role.Implementations json) place
      → IsLeastPlace (HasTableFault role.Implementations json) other → place ≡ other
  pub never_both : (json : OrderedJson) (table : Table) (place : ℕ)
      → IsTableOf json table → IsLeastPlace (HasTableFault role.Implementations json) place → ⊥

-- something stands for the name: in the table, or among the machines
abbrev pub StandsFor : List Machine → Table → Use → Type 0
StandsFor machines table (Use.OfGuard named) = IsSome (get named.name table.guards)
StandsFor machines table (Use.OfAction named) = IsSome (get named.name table.actions)
StandsFor machines table (Use.OfDelay named) = IsSome (get named.name table.delays)
StandsFor machines table (Use.OfActor named) = IsSome (actor_number table named.name)
StandsFor machines table (Use.OfMachine named) = IsSome (machine_number (ids_of_machines machines) named.name)

-- where linking gives definitions, something stands for each name that the machines and the table use
abbrev pub LinkedNamesStand : Type 0
LinkedNamesStand =
    (machines : List Machine) (table : Table) (defs : Defs) → IsLinkOf machines table defs
    → (used : Use) → Contains (uses machines table) used → StandsFor machines table used

-- linking has one fault at most, want of memory apart, and never both a fault and definitions
pub record LinkAnswersOnce : Type 0 where
  pub one_fault : (machines : List Machine) (table : Table) (fault other : TableFault) → fault ≢ Memory → other ≢ Memory
      → IsLinkReading machines table (Err fault) → IsLinkReading machines table (Err other) → fault ≡ other
  pub never_both : (machines : List Machine) (table : Table) (defs : Defs) (fault : TableFault) → fault ≢ Memory
      → IsLinkOf machines table defs → IsLinkReading machines table (Err fault) → ⊥

-- a definitions text is refused for one fault at most, and never means definitions too
pub record DefsMeanOnce : Type 0 where
  pub one_fault : (text : List ℕ) (fault other : DefsFault) → IsRefusedDefs text fault → IsRefusedDefs text other → fault ≡ other
  pub never_both : (text : List ℕ) (defs : Defs) (fault : DefsFault) → MeansDefs text defs → IsRefusedDefs text fault → ⊥
