use Rattle.std.proofs.Common.{◌≡◌, Some, List, map, sym, ◌∙◌}
use Rattle.ordered_json.specs.Words.{MemberParts, member_parts}
use Rattle.action_table.specs.declared.role.Shape.TheVariants as shape
use Rattle.action_table.specs.declared.role.TableRole.TheVariants as role
use Rattle.action_table.specs.Shapes.{shape_of}
use Rattle.action_table.proofs.TableLemmas.{enqueue-means, parts-mean}
use Rattle.action_table.proofs.actions.form_in.Goals as goal

pub returns-in_ok-items-in-Some-EnqueueActions : goal.returns-in_ok-items-in-Some-EnqueueActions
returns-in_ok-items-in-Some-EnqueueActions c =
    let members : List MemberParts = map member_parts c.args.members.now in
    let named : shape_of role.Form members ≡ Some shape.EnqueueActions = cc (c.in-Some-EnqueueActions.field-0-is, c.in-Some-EnqueueActions.ensures) in
    enqueue-means members c.in_ok-items-in-Some-EnqueueActions.items named c.in_ok-items-in-Some-EnqueueActions.ensures

pub returns-in-Some : goal.returns-in-Some
returns-in-Some c =
    parts-mean (map member_parts c.args.members.now) c.in-Some.shape c.form_of_parts.result (sym c.shape_of.ensures ∙ c.in-Some.is) c.form_of_parts.ensures
