use Rattle.std.proofs.Common.{List, take, subst, sym}
use Rattle.std.proofs.lemmas.List.{take_all}
use Rattle.ordered_json.specs.declared.json.OrderedJson.{OrderedJson}
use Rattle.action_table.specs.OuterShape.{IsNoObject, IsPlaceAmong}
use Rattle.action_table.specs.TablePlaces.{IsLeastOf}
use Rattle.action_table.proofs.ShapeLemmas.{among-push}
use Rattle.action_table.proofs.ThereLemmas.{taken}
use Rattle.action_table.proofs.outer_shape.first_no_object.Goals as goal

pub loop-item-preserved : goal.loop-item-preserved
loop-item-preserved c =
    let before : List OrderedJson = take c.loop-item.item-index c.args.items.now in
    subst (λ (js : List OrderedJson). IsLeastOf (IsPlaceAmong IsNoObject js) c.least_of-least.result)
    (sym (taken c.args.items.now c.loop-item.item-index c.item-item.result c.loop-item-test.true c.item-item.is))
    (rw c.least_of-least.ensures
    (among-push IsNoObject before c.item-item.result c.loop-item.least c.no_object.result c.loop-item.invariant c.no_object.ensures))

pub returns : goal.returns
returns c =
    subst (λ (js : List OrderedJson). IsLeastOf (IsPlaceAmong IsNoObject js) c.loop-item.least)
    (take_all c.loop-item.item-index c.args.items.now c.loop-item-test.false) c.loop-item.invariant
