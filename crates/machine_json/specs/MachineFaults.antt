-- The faults of machine texts.
use Rattle.std.specs.Prelude.{ℕ}
use Rattle.machine_json.specs.declared.fault.MachineFault.{MachineFault}
use Rattle.machine_json.specs.declared.fault.MachineFault.TheVariants.{UnknownField, BadKind, NoInitial, EmptyStates, TooMany, DoubleId, NoTarget, Clash, Memory}

-- where a fault stands; want of memory has no place and counts as 0
abbrev pub machine_fault_place : MachineFault → ℕ
machine_fault_place (UnknownField place) = place
machine_fault_place (BadKind place) = place
machine_fault_place (NoInitial place) = place
machine_fault_place (EmptyStates place) = place
machine_fault_place (TooMany place) = place
machine_fault_place (DoubleId place) = place
machine_fault_place (NoTarget place) = place
machine_fault_place (Clash place) = place
machine_fault_place Memory = 0

-- the number of a fault: of two at one place the one of the lesser number is answered
abbrev pub machine_fault_number : MachineFault → ℕ
machine_fault_number (UnknownField place) = 1
machine_fault_number (BadKind place) = 2
machine_fault_number (NoInitial place) = 3
machine_fault_number (EmptyStates place) = 4
machine_fault_number (TooMany place) = 5
machine_fault_number (DoubleId place) = 6
machine_fault_number (NoTarget place) = 7
machine_fault_number (Clash place) = 8
machine_fault_number Memory = 9
