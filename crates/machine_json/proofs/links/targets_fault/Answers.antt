use Rattle.std.proofs.Common.{sym}
use Rattle.machine_json.proofs.LinkLemmas.{target_alone, targets_of_list}
use Rattle.machine_json.proofs.links.targets_fault.Goals as goal

pub returns-in_ok-clash-in-Some : goal.returns-in_ok-clash-in-Some
returns-in_ok-clash-in-Some c =
    rw c.earlier.ensures
    (targets_of_list c.args.outline.now c.args.source c.args.json.now c.in-Some.targets.now c.first_astray-astray.result c.in_ok-clash-in-Some.clash
    (sym c.in-Some.ensures) c.first_astray-astray.ensures c.in_ok-clash-in-Some.ensures)

pub returns-in-None : goal.returns-in-None
returns-in-None c =
    target_alone c.args.outline.now c.args.source c.args.json.now c.text_fault.result (sym c.in-None.ensures) c.text_fault.ensures
