use Rattle.machine_json.specs.Nodes.{node_parts}
use Rattle.machine_json.proofs.SecondLemmas.{history_first}
use Rattle.machine_json.proofs.second_pass.default_fault.Goals as goal

pub returns-in-History : goal.returns-in-History
returns-in-History c =
    history_first c.args.outline.now c.args.n (node_parts c.args.node.now) c.of.result c.bad_default.result c.of.ensures c.in-History.is c.bad_default.ensures
