-- The faults of tables and of linking.
use Rattle.std.specs.Prelude.{ℕ}
use Rattle.action_table.specs.declared.fault.TableFault.{TableFault}
use Rattle.action_table.specs.declared.fault.TableFault.TheVariants.{UnknownForm, Unnamed, Twice, Memory}

-- where a fault stands; want of memory has no place and counts as 0
abbrev pub table_fault_place : TableFault → ℕ
table_fault_place (UnknownForm place) = place
table_fault_place (Unnamed place) = place
table_fault_place (Twice place) = place
table_fault_place Memory = 0
