use Rattle.std.proofs.Common.{◌∙◌, ℕ, List, [], ap, length, refl, subst, take, ◌+◌}
use Rattle.std.specs.List.{enumerate_from, flat_map}
use Rattle.std.proofs.lemmas.List.{take_all}
use Rattle.std.proofs.lemmas.Option.{slice_get_read}
use Rattle.ordered_json.specs.declared.json.OrderedJson.{OrderedJson}
use Rattle.machine_json.specs.Machines.{AddsTransitions, of_child, of_invocation}
use Rattle.machine_json.specs.Meaning.{invoked_id}
use Rattle.machine_json.specs.NodeKinds.{members_of}
use Rattle.machine_json.proofs.TransitionLemmas.{adds_both, adds_none, flat_map_numbered}
use Rattle.machine_json.proofs.transitions.add_invoked.Goals as goal

pub loop-place-init : goal.loop-place-init
loop-place-init c = λ sound. adds_none c.args.outline.now c.args.source [] c.args.all.now.items refl

pub loop-place-preserved : goal.loop-place-preserved
loop-place-preserved c =
    let rows = c.args.outline.now in
    let source = c.args.source in
    let items = c.args.invocations.now in
    let i = c.loop-place.place in
    let json = c.index-invocations-place.result in
    let f = of_invocation c.args.id.now in
    let at = slice_get_read items (length items) i json refl c.loop-place-test.true c.index-invocations-place.is in
    let child = c.as_str.ensures ∙ c.in_ok-child.ensures ∙ ap (invoked_id c.args.id.now i) c.members_of.ensures in
    let P : List ℕ → Type 0 = λ id. AddsTransitions rows source (of_child id (members_of json)) c.loop-place.all.items c.add_of_child.new.all.items in
    λ sound.
    adds_both rows source (flat_map f (enumerate_from 0 (take i items))) (f (i, json)) (flat_map f (enumerate_from 0 (take (i + 1) items))) c.args.all.now.items c.loop-place.all.items c.add_of_child.new.all.items
    (flat_map_numbered f items i json at) (c.loop-place.invariant sound) (subst P child (c.in_ok-add_of_child.ensures (sound i json at)))

pub returns : goal.returns
returns c =
    let items = c.args.invocations.now in
    let P : List OrderedJson → Type 0 = λ l. AddsTransitions c.args.outline.now c.args.source (flat_map (of_invocation c.args.id.now) (enumerate_from 0 l)) c.args.all.now.items c.loop-place.all.items in
    λ sound. subst P (take_all c.loop-place.place items c.loop-place-test.false) (c.loop-place.invariant sound)
