-- What the removal or the end of one actor makes of an office.
use Rattle.std.specs.Prelude.{ℕ, not, List, filter, fold, nat_eq}
use Rattle.office_types.specs.declared.office.ActorRecord.{ActorRecord}
use Rattle.office_types.specs.declared.office.OfficeState.{OfficeState}
use Rattle.office_types.specs.Ends.{done_record, error_record, stopped_record}
use Rattle.office_types.specs.Records.{with_actor}
use Rattle.office_types.specs.SystemNames.{without_holder}
use Rattle.office_types.specs.Timers.{without_owner}
use Rattle.actor_tree.specs.declared.ending.Ending.{Ending}
use Rattle.actor_tree.specs.declared.ending.Ending.TheVariants as ending

-- the office without an actor, its timers and its name
abbrev pub without_actor : OfficeState → ℕ → OfficeState
without_actor state number = record state {
  actors = filter (λ (actor : ActorRecord). not (nat_eq actor.number number)) state.actors;
  timers = without_owner number state.timers;
  names = without_holder state.names number;
}

-- the office without some actors, one after the other
abbrev pub without_actors : OfficeState → List ℕ → OfficeState
without_actors state numbers = fold without_actor state numbers

-- the record of an actor that ended so
abbrev pub ended_by : Ending → ActorRecord → ActorRecord
ended_by (ending.Done output) actor = done_record output actor
ended_by (ending.Error error) actor = error_record error actor
ended_by ending.Stopped actor = stopped_record actor

-- the office with one actor ended, without its timers and its name
abbrev pub with_end : Ending → OfficeState → ℕ → OfficeState
with_end ending state number = record (with_actor state number (ended_by ending)) {
  timers = without_owner number state.timers;
  names = without_holder state.names number;
}

-- the office with some actors stopped, one after the other
abbrev pub with_stopped : OfficeState → List ℕ → OfficeState
with_stopped state numbers = fold (with_end ending.Stopped) state numbers
