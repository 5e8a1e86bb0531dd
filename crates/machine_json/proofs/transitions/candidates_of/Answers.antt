use Rattle.std.proofs.Common.{◌∙◌, map}
use Rattle.ordered_json.specs.Words.{member_parts}
use Rattle.machine_json.specs.Nodes.{node_parts}
use Rattle.machine_json.proofs.TransitionLemmas.{candidates_added}
use Rattle.machine_json.proofs.transitions.candidates_of.Goals as goal

pub returns : goal.returns
returns c =
    rw c.from_vec.ensures
    (candidates_added c.args.outline.now c.args.source (node_parts c.args.node.now) c.args.id.now (map member_parts c.members_of-members.result.now)
    (map member_parts c.members_under-on.result.now) (map member_parts c.members_under-after.result.now) c.invocation_texts-invocations.result.now c.as_str-end.result.now
    c.new-all.result.items c.add_on.new.all.items c.add_under_key.new.all.items c.add_invoked.new.all.items c.add_after.new.all.items
    c.members_of-members.ensures c.members_under-on.ensures (c.as_str-end.ensures ∙ c.in_ok-done.ensures) c.invocation_texts-invocations.ensures c.members_under-after.ensures c.new-all.ensures.items
    c.in_ok-add_on.ensures c.in_ok-add_under_key.ensures c.in_ok-add_invoked.ensures c.in_ok-add_after.ensures)
