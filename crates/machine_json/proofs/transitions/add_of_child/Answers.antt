use Rattle.std.proofs.Common.{◌∙◌, map}
use Rattle.std.specs.Prelude.{IfSome, codes}
use Rattle.ordered_json.specs.Words.{get, member_parts}
use Rattle.machine_json.specs.declared.role.Role.TheVariants as role
use Rattle.machine_json.specs.Faultless.{IsFaultlessAs}
use Rattle.machine_json.specs.Machines.{AddsTransitions, of_child, under_key}
use Rattle.machine_json.specs.NodeKinds.{members_of}
use Rattle.machine_json.proofs.NodeLemmas.{if_ok}
use Rattle.machine_json.proofs.TransitionLemmas.{child_added}
use Rattle.machine_json.proofs.transitions.add_of_child.Goals as goal

pub returns : goal.returns
returns c =
    let rows = c.args.outline.now in
    let source = c.args.source in
    let json = c.args.json.now in
    let members = map member_parts c.members_of-members.result.now in
    let between = c.add_under_key-2.new.all.items in
    let last = c.add_under_key-3.new.all.items in
    if_ok c.add_under_key-3.result
    (IfSome (get (codes "onSnapshot") members) (IsFaultlessAs rows source role.Transitions) → AddsTransitions rows source (under_key c.as_str-3.result.now (codes "onSnapshot") members) between last)
    (IsFaultlessAs rows source role.Invocation json → AddsTransitions rows source (of_child c.args.child.now (members_of json)) c.args.all.now.items last)
    (λ third. child_added rows source c.args.child.now json members c.as_str.result.now c.as_str-2.result.now c.as_str-3.result.now
    c.args.all.now.items c.add_under_key.new.all.items between last c.members_of-members.ensures
    (c.as_str.ensures ∙ c.in_ok-done.ensures) (c.as_str-2.ensures ∙ c.in_ok-error.ensures) (c.as_str-3.ensures ∙ c.in_ok-snapshot.ensures)
    c.in_ok-add_under_key.ensures c.in_ok-add_under_key-2.ensures third)
    c.add_under_key-3.ensures
