use Rattle.std.proofs.Common.{◌≤◌, length, ap, ◌∙◌, arith}
use Rattle.std.specs.List.{flat_map}
use Rattle.action_table.specs.Unnamed.{least_unnamed}
use Rattle.action_table.specs.Uses.{uses_of_action_row, uses_of_form}
use Rattle.action_table.proofs.UseLemmas.{unnamed-more-at, unnamed-all}
use Rattle.action_table.proofs.unnamed_forms.unnamed_in_action_rows.Goals as goal

pub loop-place-preserved : goal.loop-place-preserved
loop-place-preserved c =
    c.least_of-least.ensures
    ∙ unnamed-more-at c.args.ids.now c.args.table.now uses_of_action_row c.args.table.now.actions c.loop-place.place (c.row_at.result.0.now, c.row_at.result.1.now) c.loop-place.least c.unnamed_in_forms.result c.row_at.ensures c.loop-place.invariant
    (c.unnamed_in_forms.ensures ∙ ap (λ l. least_unnamed c.args.ids.now c.args.table.now (flat_map uses_of_form l)) c.as_slice.ensures)

pub returns : goal.returns
returns c =
    let past : length c.args.table.now.actions ≤ c.loop-place.place = omega arith in
    unnamed-all c.args.ids.now c.args.table.now uses_of_action_row c.args.table.now.actions c.loop-place.place c.loop-place.least past c.loop-place.invariant
