use Rattle.std.proofs.Common.{◌≤◌, ℕ, List, [], arith, length, map, refl, subst, take, ◌+◌}
use Rattle.std.specs.List.{flat_map}
use Rattle.std.proofs.lemmas.List.{length-map, take_all}
use Rattle.ordered_json.specs.declared.json.OrderedJson.{OrderedJson}
use Rattle.ordered_json.specs.Words.{MemberParts, member_parts}
use Rattle.machine_json.specs.Machines.{AddsTransitions, under}
use Rattle.machine_json.proofs.NodeLemmas.{part_at}
use Rattle.machine_json.proofs.TransitionLemmas.{adds_both, adds_none, flat_map_next}
use Rattle.machine_json.proofs.transitions.add_on.Goals as goal

pub loop-member-init : goal.loop-member-init
loop-member-init c = λ sound. adds_none c.args.outline.now c.args.source [] c.args.all.now.items refl

pub loop-member-preserved : goal.loop-member-preserved
loop-member-preserved c =
    let rows = c.args.outline.now in
    let source = c.args.source in
    let members = map member_parts c.args.on.now in
    let i = c.loop-member.member-index in
    let member = member_parts c.member-item.result in
    let f : MemberParts → List (List ℕ × OrderedJson) = λ m. under m.key m.value in
    let at = part_at c.args.on.now i c.member-item.result c.loop-member-test.true c.member-item.is in
    λ sound.
    let P : List ℕ → Type 0 = λ key. AddsTransitions rows source (under key member.value) c.loop-member.all.items c.add_under.new.all.items in
    adds_both rows source (flat_map f (take i members)) (f member) (flat_map f (take (i + 1) members)) c.args.all.now.items c.loop-member.all.items c.add_under.new.all.items
    (flat_map_next f members i member at) (c.loop-member.invariant sound) (subst P c.as_str-key.ensures (c.in_ok-add_under.ensures (sound i member at)))

pub returns : goal.returns
returns c =
    let members = map member_parts c.args.on.now in
    let i = c.loop-member.member-index in
    let past : length members ≤ i = simp length-map (omega (arith, c.loop-member-test.false)) in
    let P : List MemberParts → Type 0 = λ l. AddsTransitions c.args.outline.now c.args.source (flat_map (λ (m : MemberParts). under m.key m.value) l) c.args.all.now.items c.loop-member.all.items in
    λ sound. subst P (take_all i members past) (c.loop-member.invariant sound)
