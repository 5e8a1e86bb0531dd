use Rattle.std.proofs.Common.{◌≤◌, length, ◌∙◌, arith}
use Rattle.action_table.specs.Uses.{uses_of_actor_row}
use Rattle.action_table.proofs.UseLemmas.{unnamed-more-at, unnamed-all}
use Rattle.action_table.proofs.unnamed_forms.unnamed_in_actor_rows.Goals as goal

pub loop-place-preserved : goal.loop-place-preserved
loop-place-preserved c =
    c.least_of-least.ensures
    ∙ unnamed-more-at c.args.ids.now c.args.table.now uses_of_actor_row c.args.table.now.actors c.loop-place.place (c.row_at.result.0.now, c.row_at.result.1.now) c.loop-place.least c.unnamed_in_actor.result c.row_at.ensures c.loop-place.invariant
    c.unnamed_in_actor.ensures

pub returns : goal.returns
returns c =
    let past : length c.args.table.now.actors ≤ c.loop-place.place = omega arith in
    unnamed-all c.args.ids.now c.args.table.now uses_of_actor_row c.args.table.now.actors c.loop-place.place c.loop-place.least past c.loop-place.invariant
