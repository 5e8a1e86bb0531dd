use Rattle.std.proofs.Common.{◌∙◌, ◌∷◌, ℕ, List, [], ap, length, map, refl, subst, sym, take, ◌+◌}
use Rattle.std.specs.Prelude.{slice_get}
use Rattle.std.proofs.lemmas.List.{map-append, take_all}
use Rattle.std.proofs.lemmas.Option.{slice_get_read}
use Rattle.ordered_json.specs.declared.json.OrderedJson.{OrderedJson}
use Rattle.machine_json.specs.Machines.{AddsTransitions}
use Rattle.machine_json.proofs.FaultlessLemmas.{of_transitions}
use Rattle.machine_json.proofs.NodeLemmas.{take_next}
use Rattle.machine_json.proofs.TransitionLemmas.{adds_both, adds_none, adds_one}
use Rattle.machine_json.proofs.transitions.add_under.Goals as goal

pub loop-item-init : goal.loop-item-init
loop-item-init c = λ sound. adds_none c.args.outline.now c.args.source [] c.args.all.now.items refl

pub loop-item-preserved : goal.loop-item-preserved
loop-item-preserved c =
    let rows = c.args.outline.now in
    let source = c.args.source in
    let items = c.listed-items.result.now in
    let i = c.loop-item.item-index in
    let item = c.item-item.result in
    let f : OrderedJson → List ℕ × OrderedJson = λ t. (c.args.descriptor.now, t) in
    let at = slice_get_read items (length items) i item refl c.loop-item-test.true c.item-item.is in
    λ sound.
    adds_both rows source (map f (take i items)) (f item ∷ []) (map f (take (i + 1) items)) c.args.all.now.items c.loop-item.all.items c.push.new.self.items
    (ap (map f) (take_next items i item at) ∙ map-append f (take i items) (item ∷ [])) (c.loop-item.invariant sound)
    (adds_one rows source c.args.descriptor.now item c.in_ok-one.one c.loop-item.all.items c.push.new.self.items c.in_ok-push.ensures.items
    (c.in_ok-one.ensures (of_transitions rows source c.args.json.now item i sound (ap (λ l. slice_get l i) (sym c.listed-items.ensures) ∙ at))))

pub returns : goal.returns
returns c =
    let items = c.listed-items.result.now in
    let f : OrderedJson → List ℕ × OrderedJson = λ t. (c.args.descriptor.now, t) in
    let P : List OrderedJson → Type 0 = λ l. AddsTransitions c.args.outline.now c.args.source (map f l) c.args.all.now.items c.loop-item.all.items in
    λ sound. subst P (take_all c.loop-item.item-index items c.loop-item-test.false ∙ c.listed-items.ensures) (c.loop-item.invariant sound)
