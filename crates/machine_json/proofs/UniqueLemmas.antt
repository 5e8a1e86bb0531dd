-- A place and a number are those of one fault.
use Rattle.std.proofs.Common.{◌≡◌, ℕ, refl, sym, ap, ◌∙◌, arith}
use Rattle.std.specs.Prelude.{◌==◌, if◌then◌else◌}
use Rattle.machine_json.specs.declared.fault.MachineFault.{MachineFault}
use Rattle.machine_json.specs.declared.fault.MachineFault.TheVariants.{UnknownField, BadKind, NoInitial, EmptyStates, TooMany, DoubleId, NoTarget, Clash, Memory}
use Rattle.machine_json.specs.FirstFaults.{IsFirst}
use Rattle.machine_json.specs.MachineFaults.{machine_fault_number, machine_fault_place}

-- the fault of a place and a number
abbrev fault_of : ℕ → ℕ → MachineFault
fault_of place number =
    if number == 1 then UnknownField place
    else if number == 2 then BadKind place
    else if number == 3 then NoInitial place
    else if number == 4 then EmptyStates place
    else if number == 5 then TooMany place
    else if number == 6 then DoubleId place
    else if number == 7 then NoTarget place
    else if number == 8 then Clash place
    else Memory

again : (fault : MachineFault) → fault_of (machine_fault_place fault) (machine_fault_number fault) ≡ fault
again (UnknownField place) = refl
again (BadKind place) = refl
again (NoInitial place) = refl
again (EmptyStates place) = refl
again (TooMany place) = refl
again (DoubleId place) = refl
again (NoTarget place) = refl
again (Clash place) = refl
again Memory = refl

-- one fault alone is first
pub one_first : (IsThere : MachineFault → Type 0) (x y : MachineFault) → IsFirst machine_fault_place machine_fault_number IsThere x
    → IsFirst machine_fault_place machine_fault_number IsThere y → x ≡ y
one_first IsThere x y first second =
    let up = first.no_earlier y second.there in
    let down = second.no_earlier x first.there in
    let same_place : machine_fault_place x ≡ machine_fault_place y = omega arith in
    let lower = first.least_number y second.there (sym same_place) in
    let upper = second.least_number x first.there same_place in
    let same_number : machine_fault_number x ≡ machine_fault_number y = omega arith in
    sym (again x) ∙ ap (λ p. fault_of p (machine_fault_number x)) same_place ∙ ap (fault_of (machine_fault_place y)) same_number ∙ again y
