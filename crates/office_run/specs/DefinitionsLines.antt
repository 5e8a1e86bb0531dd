-- The line that tells what a definitions text has, or for which fault it is refused.
use Rattle.std.specs.Prelude.{ℕ, Bool, true, false, List, [], ◌∷◌, codes, decimal, length, sum_by}
use Rattle.ordered_json.specs.declared.fault.JsonFault.{JsonFault}
use Rattle.ordered_json.specs.declared.fault.JsonFault.TheVariants as json_fault
use Rattle.ordered_json.specs.Words.{fault_place}
use Rattle.guard_eval.specs.declared.def.Def.{Def}
use Rattle.machine_json.specs.declared.fault.MachineFault.TheVariants as machine_fault
use Rattle.machine_json.specs.MachineFaults.{machine_fault_number, machine_fault_place}
use Rattle.action_table.specs.declared.definitions.Defs.{Defs}
use Rattle.action_table.specs.declared.defs_fault.DefsFault.{DefsFault}
use Rattle.action_table.specs.declared.defs_fault.DefsFault.TheVariants as fault_in
use Rattle.action_table.specs.declared.fault.TableFault.{TableFault}
use Rattle.action_table.specs.declared.fault.TableFault.TheVariants as table_fault
use Rattle.action_table.specs.TableFaults.{table_fault_place}
use Rattle.office_run.specs.Replies.{line_of}

-- the number of a fault of the JSON
abbrev pub json_fault_number : JsonFault → ℕ
json_fault_number (json_fault.Syntax place) = 1
json_fault_number (json_fault.DoubleKey place) = 2
json_fault_number (json_fault.Fraction place) = 3
json_fault_number (json_fault.Range place) = 4
json_fault_number (json_fault.TooDeep place) = 5
json_fault_number json_fault.TooLong = 6
json_fault_number json_fault.Memory = 7

-- the number of a fault of the outer shape, the table or linking
abbrev pub table_fault_number : TableFault → ℕ
table_fault_number (table_fault.UnknownForm place) = 1
table_fault_number (table_fault.Unnamed place) = 2
table_fault_number (table_fault.Twice place) = 3
table_fault_number table_fault.Memory = 4

-- whether a fault is want of memory, and none of the text's own
abbrev pub is_want_of_memory : DefsFault → Bool
is_want_of_memory (fault_in.Json json_fault.Memory) = true
is_want_of_memory (fault_in.Machine machine_fault.Memory) = true
is_want_of_memory (fault_in.Table table_fault.Memory) = true
is_want_of_memory _ = false

-- the line of a fault: in which part of the definitions it is, its number and its place
abbrev pub fault_line : List ℕ → ℕ → ℕ → List ℕ
fault_line part number place =
    line_of (codes "definitions" ∷ part ∷ decimal number ∷ decimal place ∷ [])

-- the line of the fault for which a text is refused
abbrev pub refusal_line : DefsFault → List ℕ
refusal_line (fault_in.Json fault) =
    fault_line (codes "json") (json_fault_number fault) (fault_place fault)
refusal_line (fault_in.Machine fault) =
    fault_line (codes "machine") (machine_fault_number fault) (machine_fault_place fault)
refusal_line (fault_in.Table fault) =
    fault_line (codes "table") (table_fault_number fault) (table_fault_place fault)

-- how many nodes machines have together
abbrev pub node_count : List Def → ℕ
node_count defs = sum_by (λ (def : Def). length def.tree) defs

-- the line of definitions that are accepted: how many machines they have, and how many nodes these have together
abbrev pub counts_line : Defs → List ℕ
counts_line defs = line_of (
    codes "definitions" ∷ codes "machines" ∷ decimal (length defs.defs)
    ∷ codes "nodes" ∷ decimal (node_count defs.defs) ∷ []
    )
