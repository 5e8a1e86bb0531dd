use Rattle.std.proofs.Common.{[], ◌++◌, sym, ap, ◌∙◌}
use Rattle.std.specs.Option.{option_map_or}
use Rattle.action_table.specs.TablePlaces.{least_of}
use Rattle.action_table.specs.Unnamed.{least_unnamed}
use Rattle.action_table.specs.Uses.{uses_of_actions, uses_of_guard}
use Rattle.action_table.proofs.UseLemmas.{unnamed-append}
use Rattle.action_table.proofs.unnamed.unnamed_in_transition.Goals as goal

pub returns-in-Some : goal.returns-in-Some
returns-in-Some c =
    let actions = c.args.transition.now.actions in
    let second = c.unnamed_in_actions-actions.ensures ∙ ap (λ l. least_unnamed c.args.ids.now c.args.table.now (uses_of_actions l)) c.as_slice.ensures in
    c.least_of.ensures ∙ ap (λ o. least_of o c.unnamed_in_actions-actions.result) c.unnamed_in_guard.ensures
    ∙ ap (least_of (least_unnamed c.args.ids.now c.args.table.now (uses_of_guard c.in-Some.guard))) second
    ∙ sym (unnamed-append c.args.ids.now c.args.table.now (uses_of_guard c.in-Some.guard) (uses_of_actions actions))
    ∙ sym (ap (λ o. least_unnamed c.args.ids.now c.args.table.now (option_map_or uses_of_guard o [] ++ uses_of_actions actions)) c.in-Some.is)
