use Rattle.machine_json.specs.Nodes.{node_parts}
use Rattle.machine_json.proofs.SecondLemmas.{node_first}
use Rattle.machine_json.proofs.second_pass.first_of_node.Goals as goal

pub returns : goal.returns
returns c =
    rw (c.earlier-2.ensures, c.earlier.ensures)
    (node_first c.args.outline.now c.args.n (node_parts c.args.node.now) c.node_role.result c.double_id.result c.in_ok-link.link c.default_fault.result
    c.node_role.ensures c.double_id.ensures c.in_ok-link.ensures c.default_fault.ensures)
