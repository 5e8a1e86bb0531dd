use Rattle.std.proofs.Common.{take}
use Rattle.ordered_json.specs.declared.json.OrderedJson.{OrderedJson}
use Rattle.action_table.specs.declared.role.TableRole.TheVariants as role
use Rattle.action_table.specs.Shapes.{members_in}
use Rattle.action_table.specs.TableMeaning.{MeansAction, MeansInTurn}
use Rattle.action_table.proofs.actions.each_form.Given as goal

abbrev pub invariant-loop-item : goal.invariant-loop-item
invariant-loop-item l =
    MeansInTurn (λ (part : OrderedJson). MeansAction (members_in role.Form part)) (take l.item-index l.items) l.forms.items
