use Rattle.std.proofs.Common.{ℕ, List, length, filter, map, refl, sym, ap, ◌∙◌, subst}
use Rattle.std.specs.Prelude.{AllPairs, sum_by}
use Rattle.std.specs.List.{AllByRecursion, filter_map}
use Rattle.std.specs.List.Sorted.{IsStrictlyIncreasing}
use Rattle.std.proofs.lemmas.List.Elements.{recursion_from_All}
use Rattle.office_types.specs.declared.office.ActorRecord.{ActorRecord}
use Rattle.office_types.specs.declared.office.Timer.{Timer}
use Rattle.office_types.specs.Records.{is_active}
use Rattle.office_types.specs.ValidOffice.{AreOfOneId, IsActor}
use Rattle.office_types.specs.WorkItems.{open_item}
use Rattle.actor_tree.specs.HeldOffice.{HasOwnItem}
use Rattle.actor_tree.proofs.RestoreLemmas.{restored, valid_names, valid_own}
use Rattle.actor_tree.proofs.held.Held.of.Goals as goal

pub restore_names-requires-clause-rise : goal.restore_names-requires-clause-rise
restore_names-requires-clause-rise c =
    subst (λ (names : List (List ℕ × ℕ)). IsStrictlyIncreasing (map (λ (holder : List ℕ × ℕ). holder.1) names)) (sym c.as_slice-3.ensures) (valid_names c.requires.valid.0 c.args.state.now c.requires.valid.1)

pub restore_items-requires-clause-own : goal.restore_items-requires-clause-own
restore_items-requires-clause-own c =
    let state = c.args.state.now in
    subst (AllByRecursion HasOwnItem) (sym c.as_slice-4.ensures)
    (valid_own c.requires.valid.0 state state.actors (recursion_from_All (IsActor c.requires.valid.0 state) state.actors c.requires.valid.1.actors))

pub restore_timers-requires-clause-once : goal.restore_timers-requires-clause-once
restore_timers-requires-clause-once c = subst (AllPairs (λ (a b : Timer). AreOfOneId a b → ⊥)) (sym c.as_slice-5.ensures) c.requires.valid.1.timer_ids

pub invariant_of-result : goal.invariant_of-result
invariant_of-result c =
    restored c.requires.valid.0 c.args.state.now c.requires.valid.1 c.in_ok-restore_actors.field-0.items c.in_ok-restore_names.field-0.names c.in_ok-restore_timers.field-0.timers c.in_ok-restore_items.field-0.items
    c.count_all-counted.result.active c.count_all-counted.result.letters
    (c.in_ok-restore_actors.ensures ∙ c.as_slice-2.ensures)
    (c.in_ok-restore_names.ensures ∙ c.as_slice-3.ensures)
    (c.in_ok-restore_timers.ensures ∙ c.as_slice-5.ensures)
    (c.in_ok-restore_items.ensures ∙ ap (filter_map open_item) c.as_slice-4.ensures)
    (c.count_all-counted.ensures.active ∙ ap (λ (actors : List ActorRecord). length (filter is_active actors)) c.as_slice.ensures)
    (c.count_all-counted.ensures.letters ∙ ap (sum_by (λ (actor : ActorRecord). length actor.mailbox)) c.as_slice.ensures)
    _ refl
