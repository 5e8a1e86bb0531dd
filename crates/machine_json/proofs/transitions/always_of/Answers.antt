use Rattle.std.proofs.Common.{map}
use Rattle.ordered_json.specs.Words.{member_parts}
use Rattle.machine_json.specs.Nodes.{node_parts}
use Rattle.machine_json.proofs.TransitionLemmas.{always_added}
use Rattle.machine_json.proofs.transitions.always_of.Goals as goal

pub returns : goal.returns
returns c =
    rw c.from_vec.ensures
    (always_added c.args.outline.now c.args.source (node_parts c.args.node.now) (map member_parts c.members_of.result.now) c.new-all.result.items c.add_under_key.new.all.items
    c.members_of.ensures c.new-all.ensures.items c.in_ok-add_under_key.ensures)
