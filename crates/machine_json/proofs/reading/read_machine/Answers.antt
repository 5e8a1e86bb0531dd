use Rattle.std.proofs.Common.{List, None, [], map, subst, sym}
use Rattle.machine_json.specs.declared.nodes.NodeText.{NodeText}
use Rattle.machine_json.specs.Nodes.{AreNodes, node_parts}
use Rattle.machine_json.specs.SecondPass.{HasSecondPassFault}
use Rattle.machine_json.proofs.ReadMachineLemmas.{is_read}
use Rattle.machine_json.proofs.ReadingLemmas.{none_found, of_nodes, second_answered}
use Rattle.machine_json.proofs.reading.read_machine.Goals as goal

pub returns-clause-linkable : goal.returns-clause-linkable
returns-clause-linkable c own = is_read c.args.text.now c.in_ok-machine.machine c.in_ok-machine.ensures own

pub returns-in-Some-2-clause-fault : goal.returns-in-Some-2-clause-fault
returns-in-Some-2-clause-fault c not_memory =
    let text = c.args.text.now in
    let P : List NodeText → Type 0 = λ l. AreNodes 0 None [] text (map node_parts l) in
    second_answered text (map node_parts c.as_slice-3.result.now) c.in_ok-fault.field-0 c.in_ok-fault-2.field-0 c.in-Some-2.fault
    (subst P (sym c.as_slice-3.ensures.value) c.in_ok-nodes.ensures) c.in_default.is c.in_ok-fault.ensures c.in-Some-2.is c.in_ok-fault-2.ensures

pub machine_of-requires-clause-second_pass : goal.machine_of-requires-clause-second_pass
machine_of-requires-clause-second_pass c =
    let text = c.args.text.now in
    let P : List NodeText → Type 0 = λ l. AreNodes 0 None [] text (map node_parts l) in
    none_found c.in_ok-fault-2.field-0 (HasSecondPassFault text) c.in_default-2.is
    (of_nodes text (map node_parts c.as_slice-3.result.now) c.in_ok-fault-2.field-0 (subst P (sym c.as_slice-3.ensures.value) c.in_ok-nodes.ensures) c.in_ok-fault-2.ensures)
