use Rattle.machine_json.proofs.LinkLemmas.{first_of_text}
use Rattle.machine_json.proofs.links.own_link_fault.Goals as goal

pub returns-in-Transitions : goal.returns-in-Transitions
returns-in-Transitions c =
    first_of_text c.args.outline.now c.args.source c.args.role c.args.json.now c.text_fault.result c.in-Transitions.is c.text_fault.ensures

pub returns-in-Targets : goal.returns-in-Targets
returns-in-Targets c = rw c.in-Targets.is c.targets_fault.ensures
