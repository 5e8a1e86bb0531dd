use Rattle.std.proofs.Common.{◌≡◌, ◌∙◌, ◌+◌, ◌≤◌, ℕ, List, [], None, Some, ap, refl, sym, map, length, take, subst, arith, length-append}
use Rattle.std.specs.Prelude.{codes}
use Rattle.std.proofs.lemmas.List.{length-map, map-append, take_all}
use Rattle.std.proofs.Common.{true, false, add-one}
use Rattle.std.specs.Str.{bytes_eq}
use Rattle.ordered_json.specs.Words.{get, member_parts}
use Rattle.machine_json.specs.NodeKinds.{children_of, members_of}
use Rattle.machine_json.specs.Nodes.{AddsNodes, AreNodes, AreNodesBelow, node_parts}
use Rattle.machine_json.proofs.NodeLemmas.{adds_none, children_at, found_at, if_ok, no_children, not_found, of_children, part_at, take_next, with_child, with_node}
use Rattle.machine_json.proofs.PartLemmas.{members-Object, no_members}
use Rattle.machine_json.proofs.nodes.+nodes.Goals as goal

pub add_children-loop-child-init : goal.add_children-loop-child-init
add_children-loop-child-init t c =
    adds_none (map node_parts c.args.nodes.now.items) (length c.args.nodes.now.items) c.args.parent [] refl

pub add_children-loop-child-preserved : goal.add_children-loop-child-preserved
add_children-loop-child-preserved t c =
    let old = map node_parts c.args.nodes.now.items in
    let so_far = map node_parts c.loop-child.nodes.items in
    let new = map node_parts c.add_node.new.nodes.items in
    let here = length c.loop-child.nodes.items in
    let items = map member_parts c.as_slice-child-items.result.now in
    let i = c.loop-child.child-index in
    let child = member_parts c.child-item.result in
    let at = part_at c.as_slice-child-items.result.now i c.child-item.result c.loop-child-test.true c.child-item.is in
    let P : List ℕ → Type 0 = λ key. AddsNodes so_far new (AreNodes here (Some c.args.parent) key child.value) in
    with_child old so_far new (length c.args.nodes.now.items) here c.args.parent (take i items) (take (i + 1) items) child
    (sym (length-map c.args.nodes.now.items node_parts)) (sym (length-map c.loop-child.nodes.items node_parts))
    (take_next items i child at) c.loop-child.invariant (subst P c.as_str.ensures c.in_ok-add_node-in-Object.ensures)

pub add_children-returns-after-loop-child : goal.add_children-returns-after-loop-child
add_children-returns-after-loop-child t c =
    let items = map member_parts c.as_slice-child-items.result.now in
    let i = c.loop-child.child-index in
    let past : length items ≤ i = simp length-map (omega (arith, c.loop-child-test.false)) in
    let whole : items ≡ members_of c.args.states.now = ap (map member_parts) c.as_slice-child-items.ensures ∙ sym (ap members_of c.in-Object.is ∙ members-Object c.in-Object.place c.in-Object.members) in
    of_children (map node_parts c.args.nodes.now.items) (map node_parts c.loop-child.nodes.items) (length c.args.nodes.now.items) c.args.parent
    (take i items) (members_of c.args.states.now) (take_all i items past ∙ whole) c.loop-child.invariant

pub add_children-returns-in-Null : goal.add_children-returns-in-Null
add_children-returns-in-Null t c =
    adds_none (map node_parts c.args.nodes.now.items) (length c.args.nodes.now.items) c.args.parent (members_of c.args.states.now) (no_members c.args.states.now c.in-Null.is)

pub add_children-returns-in-Null-2 : goal.add_children-returns-in-Null-2
add_children-returns-in-Null-2 t c =
    adds_none (map node_parts c.args.nodes.now.items) (length c.args.nodes.now.items) c.args.parent (members_of c.args.states.now) (no_members c.args.states.now c.in-Null.is)

pub add_children-returns-in-Null-3 : goal.add_children-returns-in-Null-3
add_children-returns-in-Null-3 t c =
    adds_none (map node_parts c.args.nodes.now.items) (length c.args.nodes.now.items) c.args.parent (members_of c.args.states.now) (no_members c.args.states.now c.in-Null.is)

pub add_children-returns-in-Null-4 : goal.add_children-returns-in-Null-4
add_children-returns-in-Null-4 t c =
    adds_none (map node_parts c.args.nodes.now.items) (length c.args.nodes.now.items) c.args.parent (members_of c.args.states.now) (no_members c.args.states.now c.in-Null.is)

pub add_children-returns-in-Null-5 : goal.add_children-returns-in-Null-5
add_children-returns-in-Null-5 t c =
    adds_none (map node_parts c.args.nodes.now.items) (length c.args.nodes.now.items) c.args.parent (members_of c.args.states.now) (no_members c.args.states.now c.in-Null.is)

pub add_states-returns : goal.add_states-returns
add_states-returns t c =
    let members = map member_parts c.args.members.now in
    let past : length members ≤ c.loop-member.member-index = simp length-map (omega (arith, c.loop-member-test.false)) in
    let none : get (codes "states") members ≡ None = ap (get (codes "states")) (sym (take_all c.loop-member.member-index members past)) ∙ c.loop-member.invariant.none in
    rw c.loop-member.invariant.same
    (adds_none (map node_parts c.args.nodes.now.items) (length c.args.nodes.now.items) c.args.parent (children_of members) (no_children members none))

pub add_states-loop-member-preserved : goal.add_states-loop-member-preserved
add_states-loop-member-preserved t c =
    let members = map member_parts c.args.members.now in
    let i = c.loop-member.member-index in
    let member = member_parts c.member-item.result in
    let at = part_at c.args.members.now i c.member-item.result c.loop-member-test.true c.member-item.is in
    let other : bytes_eq member.key (codes "states") ≡ false = ap (λ key. bytes_eq key (codes "states")) (sym c.as_str.ensures) ∙ sym c.if-eq.ensures in
    record {
      same = c.loop-member.invariant.same;
      none = rw add-one (not_found (codes "states") members i member at c.loop-member.invariant.none other);
    }

pub add_states-returns-then-eq : goal.add_states-returns-then-eq
add_states-returns-then-eq t c =
    let members = map member_parts c.args.members.now in
    let i = c.loop-member.member-index in
    let member = member_parts c.member-item.result in
    let old = map node_parts c.args.nodes.now.items in
    let new = map node_parts c.add_children.new.nodes.items in
    let next = length c.args.nodes.now.items in
    let at = part_at c.args.members.now i c.member-item.result c.loop-member-test.true c.member-item.is in
    let named : bytes_eq member.key (codes "states") ≡ true = ap (λ key. bytes_eq key (codes "states")) (sym c.as_str.ensures) ∙ sym c.if-eq.ensures in
    let found = children_at members member.value (found_at (codes "states") members i member at c.loop-member.invariant.none named) in
    if_ok c.add_children.result (AddsNodes old new (AreNodesBelow next c.args.parent (members_of member.value))) (AddsNodes old new (AreNodesBelow next c.args.parent (children_of members)))
    (of_children old new next c.args.parent (members_of member.value) (children_of members) found)
    (rw c.loop-member.invariant.same at c.add_children.ensures)

pub add_node-returns-in-Null : goal.add_node-returns-in-Null
add_node-returns-in-Null t c =
    let old = map node_parts c.args.nodes.now.items in
    let first = map node_parts c.push.new.self.items in
    let number = length c.args.nodes.now.items in
    let none = no_members c.args.json.now c.in-Null.is in
    with_node old first first number (number + 1) c.args.parent c.args.key.now c.args.json.now []
    (ap (map node_parts) c.in_ok-push.ensures.items ∙ map-append node_parts c.args.nodes.now.items _) refl (sym (ap children_of none))
    (adds_none first (number + 1) number [] refl)

pub add_node-returns-in-Null-2 : goal.add_node-returns-in-Null-2
add_node-returns-in-Null-2 t c =
    let old = map node_parts c.args.nodes.now.items in
    let first = map node_parts c.push.new.self.items in
    let number = length c.args.nodes.now.items in
    let none = no_members c.args.json.now c.in-Null.is in
    with_node old first first number (number + 1) c.args.parent c.args.key.now c.args.json.now []
    (ap (map node_parts) c.in_ok-push.ensures.items ∙ map-append node_parts c.args.nodes.now.items _) refl (sym (ap children_of none))
    (adds_none first (number + 1) number [] refl)

pub add_node-returns-in-Null-3 : goal.add_node-returns-in-Null-3
add_node-returns-in-Null-3 t c =
    let old = map node_parts c.args.nodes.now.items in
    let first = map node_parts c.push.new.self.items in
    let number = length c.args.nodes.now.items in
    let none = no_members c.args.json.now c.in-Null.is in
    with_node old first first number (number + 1) c.args.parent c.args.key.now c.args.json.now []
    (ap (map node_parts) c.in_ok-push.ensures.items ∙ map-append node_parts c.args.nodes.now.items _) refl (sym (ap children_of none))
    (adds_none first (number + 1) number [] refl)

pub add_node-returns-in-Null-4 : goal.add_node-returns-in-Null-4
add_node-returns-in-Null-4 t c =
    let old = map node_parts c.args.nodes.now.items in
    let first = map node_parts c.push.new.self.items in
    let number = length c.args.nodes.now.items in
    let none = no_members c.args.json.now c.in-Null.is in
    with_node old first first number (number + 1) c.args.parent c.args.key.now c.args.json.now []
    (ap (map node_parts) c.in_ok-push.ensures.items ∙ map-append node_parts c.args.nodes.now.items _) refl (sym (ap children_of none))
    (adds_none first (number + 1) number [] refl)

pub add_node-returns-in-Null-5 : goal.add_node-returns-in-Null-5
add_node-returns-in-Null-5 t c =
    let old = map node_parts c.args.nodes.now.items in
    let first = map node_parts c.push.new.self.items in
    let number = length c.args.nodes.now.items in
    let none = no_members c.args.json.now c.in-Null.is in
    with_node old first first number (number + 1) c.args.parent c.args.key.now c.args.json.now []
    (ap (map node_parts) c.in_ok-push.ensures.items ∙ map-append node_parts c.args.nodes.now.items _) refl (sym (ap children_of none))
    (adds_none first (number + 1) number [] refl)

pub add_node-returns-in-Object : goal.add_node-returns-in-Object
add_node-returns-in-Object t c =
    let old = map node_parts c.args.nodes.now.items in
    let first = map node_parts c.push.new.self.items in
    let new = map node_parts c.add_states.new.nodes.items in
    let number = length c.args.nodes.now.items in
    let next = length c.push.new.self.items in
    let children = children_of (map member_parts c.as_slice.result.now) in
    let is_number : c.len-number.result ≡ number = omega (arith, c.len-number.ensures, c.args.nodes.now.ok.0) in
    let is_next : next ≡ number + 1 = ap length c.in_ok-push.ensures.items ∙ length-append c.args.nodes.now.items _ in
    let whole : map member_parts c.as_slice.result.now ≡ members_of c.args.json.now =
    ap (map member_parts) c.as_slice.ensures ∙ sym (ap members_of c.in-Object.is ∙ members-Object c.in-Object.place c.in-Object.members) in
    if_ok c.add_states.result (AddsNodes first new (AreNodesBelow next number children))
    (AddsNodes old new (AreNodes number c.args.parent c.args.key.now c.args.json.now))
    (with_node old first new number next c.args.parent c.args.key.now c.args.json.now children
    (ap (map node_parts) c.in_ok-push.ensures.items ∙ map-append node_parts c.args.nodes.now.items _) is_next (ap children_of whole))
    (rw is_number at c.add_states.ensures)
