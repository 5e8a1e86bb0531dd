use Rattle.std.proofs.Common.{sym, Option, subst}
use Rattle.std.specs.Prelude.{Contains}
use Rattle.machine_json.specs.declared.fault.MachineFault.{MachineFault}
use Rattle.machine_json.specs.FirstPass.{TellsFirst, own_faults}
use Rattle.machine_json.proofs.FirstLemmas.{of_list}
use Rattle.machine_json.proofs.OwnLemmas.{no_expression}
use Rattle.machine_json.proofs.first_pass.own_fault.Goals as goal

pub returns-in-Expression : goal.returns-in-Expression
returns-in-Expression c = rw c.in-Expression.is c.form_fault.ensures

pub returns-in_default : goal.returns-in_default
returns-in_default c =
    let faults = own_faults c.args.role c.args.json.now in
    let P : Option MachineFault → Type 0 = λ found. TellsFirst found (Contains faults) in
    no_expression c.args.role c.args.json.now c.value_fault.result c.in_default.not-Expression
    (subst P (sym c.value_fault.ensures) (of_list faults))
