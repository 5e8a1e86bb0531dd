use Rattle.std.proofs.Common.{sym, ap, ◌∙◌}
use Rattle.std.specs.List.{flat_map}
use Rattle.action_table.specs.TablePlaces.{least_of}
use Rattle.action_table.specs.Unnamed.{least_unnamed}
use Rattle.action_table.specs.Uses.{Use, uses_of_form, uses_of_item}
use Rattle.action_table.proofs.UseLemmas.{one-use, unnamed-all, unnamed-append, unnamed-more, uses-EnqueueActions, uses-If, uses-SpawnChild}
use Rattle.action_table.proofs.unnamed_forms.+unnamed_form.Goals as goal

pub unnamed_in_items-loop-item-preserved : goal.unnamed_in_items-loop-item-preserved
unnamed_in_items-loop-item-preserved t c =
    c.least_of-least.ensures
    ∙ unnamed-more c.args.ids.now c.args.table.now uses_of_item c.args.items.now c.loop-item.item-index c.item-item.result c.loop-item.least c.unnamed_in_item.result c.loop-item-test.true c.item-item.is c.loop-item.invariant
    c.unnamed_in_item.ensures

pub unnamed_in_items-returns : goal.unnamed_in_items-returns
unnamed_in_items-returns t c = unnamed-all c.args.ids.now c.args.table.now uses_of_item c.args.items.now c.loop-item.item-index c.loop-item.least c.loop-item-test.false c.loop-item.invariant

pub unnamed_in_form-returns-in-SpawnChild : goal.unnamed_in_form-returns-in-SpawnChild
unnamed_in_form-returns-in-SpawnChild t c =
    c.place_unless_listed.ensures ∙ sym (one-use c.args.ids.now c.args.table.now (Use.OfActor c.in-SpawnChild.src))
    ∙ sym (ap (least_unnamed c.args.ids.now c.args.table.now) (ap uses_of_form c.in-SpawnChild.is ∙ uses-SpawnChild c.in-SpawnChild.src c.in-SpawnChild.id c.in-SpawnChild.input c.in-SpawnChild.system))

pub unnamed_in_form-returns-in-EnqueueActions : goal.unnamed_in_form-returns-in-EnqueueActions
unnamed_in_form-returns-in-EnqueueActions t c =
    c.unnamed_in_items.ensures ∙ ap (λ l. least_unnamed c.args.ids.now c.args.table.now (flat_map uses_of_item l)) c.as_slice.ensures
    ∙ sym (ap (least_unnamed c.args.ids.now c.args.table.now) (ap uses_of_form c.in-EnqueueActions.is ∙ uses-EnqueueActions c.in-EnqueueActions.items))

pub unnamed_in_item-returns-in-If : goal.unnamed_in_item-returns-in-If
unnamed_in_item-returns-in-If t c =
    let first = c.unnamed_in_items-first.ensures ∙ ap (λ l. least_unnamed c.args.ids.now c.args.table.now (flat_map uses_of_item l)) c.as_slice.ensures in
    let second = c.unnamed_in_items.ensures ∙ ap (λ l. least_unnamed c.args.ids.now c.args.table.now (flat_map uses_of_item l)) c.as_slice-in-If.ensures in
    c.least_of.ensures ∙ ap (λ o. least_of o c.unnamed_in_items.result) first ∙ ap (least_of (least_unnamed c.args.ids.now c.args.table.now (flat_map uses_of_item c.in-If.then))) second
    ∙ sym (unnamed-append c.args.ids.now c.args.table.now (flat_map uses_of_item c.in-If.then) (flat_map uses_of_item c.in-If.otherwise))
    ∙ sym (ap (least_unnamed c.args.ids.now c.args.table.now) (ap uses_of_item c.in-If.is ∙ uses-If c.in-If.test c.in-If.then c.in-If.otherwise))
