-- What a definitions text means, and which fault it is refused for.
use Rattle.std.specs.Prelude.{◌≡◌, ◌≢◌, ℕ, List, ◌∷◌, ◌++◌, Result, Ok, Err, ⊤}
use Rattle.std.specs.List.{AllZip}
use Rattle.ordered_json.specs.declared.fault.JsonFault.{JsonFault}
use Rattle.ordered_json.specs.declared.fault.JsonFault.TheVariants as json_fault
use Rattle.ordered_json.specs.declared.json.OrderedJson.{OrderedJson}
use Rattle.ordered_json.specs.Faults.{HasFault}
use Rattle.ordered_json.specs.Meaning.{Means}
use Rattle.machine_json.specs.declared.fault.MachineFault.{MachineFault}
use Rattle.machine_json.specs.declared.fault.MachineFault.TheVariants as machine_fault
use Rattle.machine_json.specs.declared.machine.Machine.{Machine}
use Rattle.machine_json.specs.FirstFaults.{IsLeastPlace}
use Rattle.machine_json.specs.Machines.{IsAnsweredFault, MeansMachine}
use Rattle.action_table.specs.declared.definitions.Defs.{Defs}
use Rattle.action_table.specs.declared.defs_fault.DefsFault.{DefsFault}
use Rattle.action_table.specs.declared.defs_fault.DefsFault.TheVariants as fault_in
use Rattle.action_table.specs.declared.fault.TableFault.{TableFault}
use Rattle.action_table.specs.declared.fault.TableFault.TheVariants as table_fault
use Rattle.action_table.specs.declared.role.TableRole.TheVariants as role
use Rattle.action_table.specs.declared.table.Table.{Table}
use Rattle.action_table.specs.Linked.{IsLinkOf, IsLinkReading}
use Rattle.action_table.specs.OuterShape.{HasOuterShape, HasShapeFault}
use Rattle.action_table.specs.TableMeaning.{IsTableOf}
use Rattle.action_table.specs.TablePlaces.{HasTableFault}

-- ---- the whole text

-- the bytes are a text in its outer shape, with these machines and this table
pub record IsOuterText (text : List ℕ) (machines : List OrderedJson) (implementations : OrderedJson) : Type 0 where
  pub json : OrderedJson
  pub means : Means text json
  pub shape : HasOuterShape json machines implementations

-- the definitions that a text means
pub record MeansDefs (text : List ℕ) (defs : Defs) : Type 0 where
  pub texts : List OrderedJson
  pub implementations : OrderedJson
  pub outer : IsOuterText text texts implementations
  pub machines : List Machine
  pub machines_mean : AllZip MeansMachine texts machines
  pub table : Table
  pub table_means : IsTableOf implementations table
  pub linked : IsLinkOf machines table defs

-- this is the fault of the first of the machines that is refused: those before it mean machines
pub record IsFirstRefused (texts : List OrderedJson) (fault : MachineFault) : Type 0 where
  pub earlier : List OrderedJson
  pub refused : OrderedJson
  pub later : List OrderedJson
  pub texts_are : texts ≡ earlier ++ refused ∷ later
  pub read : List Machine
  pub earlier_mean : AllZip MeansMachine earlier read
  pub is_refused : IsAnsweredFault refused fault

-- A text is refused for this fault. Each is looked for where there is none of those before it.
pub data IsRefusedDefs (text : List ℕ) : DefsFault → Type 0 where
  no_json : (fault : JsonFault) → HasFault text fault → fault ≢ json_fault.Memory → IsRefusedDefs text (fault_in.Json fault)
  outer_shape : (json : OrderedJson) (place : ℕ) → Means text json → IsLeastPlace (HasShapeFault json) place
      → IsRefusedDefs text (fault_in.Table (table_fault.UnknownForm place))
  a_machine : (texts : List OrderedJson) (implementations : OrderedJson) (fault : MachineFault)
      → IsOuterText text texts implementations → IsFirstRefused texts fault → IsRefusedDefs text (fault_in.Machine fault)
  the_table : (texts : List OrderedJson) (implementations : OrderedJson) (machines : List Machine) (place : ℕ)
      → IsOuterText text texts implementations → AllZip MeansMachine texts machines
      → IsLeastPlace (HasTableFault role.Implementations implementations) place
      → IsRefusedDefs text (fault_in.Table (table_fault.UnknownForm place))
  linking : (texts : List OrderedJson) (implementations : OrderedJson) (machines : List Machine) (table : Table) (fault : TableFault)
      → IsOuterText text texts implementations → AllZip MeansMachine texts machines → IsTableOf implementations table
      → IsLinkReading machines table (Err fault) → fault ≢ table_fault.Memory → IsRefusedDefs text (fault_in.Table fault)

-- the definitions that a text means, or the fault for which it is refused; memory may run out
abbrev pub IsDefsReading : List ℕ → Result Defs DefsFault → Type 0
IsDefsReading text (Ok defs) = MeansDefs text defs
IsDefsReading text (Err (fault_in.Json json_fault.Memory)) = ⊤
IsDefsReading text (Err (fault_in.Machine machine_fault.Memory)) = ⊤
IsDefsReading text (Err (fault_in.Table table_fault.Memory)) = ⊤
IsDefsReading text (Err fault) = IsRefusedDefs text fault
