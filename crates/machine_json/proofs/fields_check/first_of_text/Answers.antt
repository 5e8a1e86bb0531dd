use Rattle.std.proofs.Common.{map}
use Rattle.machine_json.specs.declared.role.Role.TheVariants as role
use Rattle.machine_json.specs.FirstPass.{HasFaultAs}
use Rattle.machine_json.specs.Nodes.{IsTooMany, node_parts}
use Rattle.machine_json.proofs.FirstLemmas.{both}
use Rattle.machine_json.proofs.NodeLemmas.{extra_first}
use Rattle.machine_json.proofs.fields_check.first_of_text.Goals as goal

pub returns : goal.returns
returns c =
    rw c.earlier.ensures
    (both c.in_ok-inner.inner c.extra_node.result (HasFaultAs role.Root c.args.text.now) (IsTooMany c.args.text.now) c.in_ok-inner.ensures
    (extra_first c.args.text.now (map node_parts c.args.nodes.now) c.extra_node.result c.requires c.extra_node.ensures))
