-- The worked examples come out as written.
use Rattle.std.proofs.Common.{◌≡◌, true, refl}
use Rattle.json.proofs.OnLiterals.{json_on_literals}
use denote.Hole.Carrier.{out, shown, hidden}
use Rattle.xs_model.specs.declared.value.Value.{out-Value}
use Rattle.xs_model.specs.declared.value.Value.TheBlock.{shown-the_row-Value-1}
use Rattle.office_types.specs.Ends.{subtree_of, removed, after_end}
use Rattle.office_types.specs.Effects.{is_within_levels, after_effects}
use Rattle.office_types.specs.StateValue.{active_nodes}
use Rattle.office_types.specs.Moment.{after_advance}
use Rattle.office_types.specs.Step.{took}
use Rattle.office_types.specs.Decisions.{decided}
use Rattle.xs_model.proofs.CompactLemmas.{compact-Map}
use Rattle.office_types.specs.Limits.{is_short}
use Rattle.office_types.proofs.ValueLemmas.{compact-Text, nesting-Map, nesting-Text}
use Rattle.office_types.specs.WorkedRows.{told, WorkedExamples, RepeatsAreKept, GapsAreRefused, EndedActorsTakeNothing, ErrorsClimb, HeldNamesAreFaults, ItemsTellTheirParents, ItemsGoWithTheirState, TimersStand, TimersBecomeLetters, ObservedChildrenTell, DoneChildrenTellTheirEnd}

repeats_are_kept : RepeatsAreKept
unfolding out-Value out shown hidden shown-the_row-Value-1 subtree_of removed after_end is_within_levels after_effects active_nodes after_advance took decided
repeats_are_kept = record { replied = refl; after = refl }

gaps_are_refused : GapsAreRefused
unfolding out-Value out shown hidden shown-the_row-Value-1 subtree_of removed after_end is_within_levels after_effects active_nodes after_advance took decided
gaps_are_refused = record { replied = refl; after = refl }

ended_actors_take_nothing : EndedActorsTakeNothing
unfolding out-Value out shown hidden shown-the_row-Value-1 subtree_of removed after_end is_within_levels after_effects active_nodes after_advance took decided
ended_actors_take_nothing = record { replied = refl; after = refl }

errors_climb : ErrorsClimb
unfolding out-Value out shown hidden shown-the_row-Value-1 subtree_of removed after_end is_within_levels after_effects active_nodes after_advance took decided
errors_climb = record { replied = refl; after = refl }

held_names_are_faults : HeldNamesAreFaults
unfolding out-Value out shown hidden shown-the_row-Value-1 subtree_of removed after_end is_within_levels after_effects active_nodes after_advance took decided
held_names_are_faults = record { replied = refl; after = refl }

items_tell_their_parents : ItemsTellTheirParents
unfolding out-Value out shown hidden shown-the_row-Value-1 subtree_of removed after_end is_within_levels after_effects active_nodes after_advance took decided
items_tell_their_parents = record { replied = refl; after = refl }

items_go_with_their_state : ItemsGoWithTheirState
unfolding out-Value out shown hidden shown-the_row-Value-1 subtree_of removed after_end is_within_levels after_effects active_nodes after_advance took decided
items_go_with_their_state = record { replied = refl; after = refl }

timers_stand : TimersStand
unfolding out-Value out shown hidden shown-the_row-Value-1 subtree_of removed after_end is_within_levels after_effects active_nodes after_advance took decided
timers_stand = record { replied = refl; after = refl }

timers_become_letters : TimersBecomeLetters
unfolding out-Value out shown hidden shown-the_row-Value-1 subtree_of removed after_end is_within_levels after_effects active_nodes after_advance took decided
timers_become_letters = record { replied = refl; after = refl }

-- the event of the observed child is short enough for its snapshot
snapshot_is_short : is_short told ≡ true
unfolding json_on_literals
snapshot_is_short = simp (compact-Map, compact-Text, nesting-Map, nesting-Text)

observed_children_tell : ObservedChildrenTell
unfolding out-Value out shown hidden shown-the_row-Value-1 subtree_of removed after_end is_within_levels after_effects active_nodes after_advance took decided
observed_children_tell = record { replied = refl; after = rw snapshot_is_short refl }

done_children_tell_their_end : DoneChildrenTellTheirEnd
unfolding out-Value out shown hidden shown-the_row-Value-1 subtree_of removed after_end is_within_levels after_effects active_nodes after_advance took decided
done_children_tell_their_end = record { replied = refl; after = refl }

pub worked_examples : WorkedExamples
worked_examples = record {
  repeats = repeats_are_kept;
  gaps = gaps_are_refused;
  ends = ended_actors_take_nothing;
  errors = errors_climb;
  names = held_names_are_faults;
  resolved_items = items_tell_their_parents;
  removed_items = items_go_with_their_state;
  timers = timers_stand;
  moments = timers_become_letters;
  observed = observed_children_tell;
  observed_ends = done_children_tell_their_end;
}
