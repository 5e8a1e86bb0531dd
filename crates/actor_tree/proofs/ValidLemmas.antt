-- Validity doesn't depend on callers and the count of entries, which a forest doesn't keep.
use Rattle.std.proofs.Common.{◌≡◌, ℕ, zero, suc, ◌<◌, ◌≤◌, true, List, [], ◌∷◌, length, get_or, fold, Option, Some, None, IfSome, IsTrue, refl, sym, ap, ◌∙◌, subst, arith}
use Rattle.std.specs.List.{All}
use Rattle.std.specs.Option.{option_map_or}
use Rattle.office_types.specs.declared.limits.TheConstants.{MAX_ENTRIES}
use Rattle.office_types.specs.declared.office.ActorRecord.{ActorRecord}
use Rattle.office_types.specs.declared.office.Caller.{Caller}
use Rattle.office_types.specs.declared.office.Letter.{Letter}
use Rattle.office_types.specs.declared.office.OfficeState.{OfficeState}
use Rattle.office_types.specs.declared.office.Origin.{Origin}
use Rattle.office_types.specs.declared.office.Origin.TheVariants as origin
use Rattle.office_types.specs.declared.office.Timer.{Timer}
use Rattle.office_types.specs.Definitions.{OfficeDefinitions}
use Rattle.office_types.specs.Effects.{after_stop, child_named, is_within_levels, without_kid}
use Rattle.office_types.specs.Ends.{after_end, removed}
use Rattle.office_types.specs.Records.{parent_actor, with_actor}
use Rattle.office_types.specs.ValidOffice.{IsActor, IsChildOf, IsLetter, IsOrigin, IsTimer, IsValidOffice}
use Rattle.actor_tree.specs.declared.part.Part.{Part}
use Rattle.actor_tree.specs.declared.part.Part.TheVariants as part
use Rattle.actor_tree.specs.Parts.{put, put_part}

-- the office without callers and entries
abbrev pub stripped : OfficeState → OfficeState
stripped state = record state { callers = []; entries = 0 }

module _ (definitions : OfficeDefinitions) (state : OfficeState) where
  same_levels : (levels number : ℕ) → is_within_levels (stripped state) levels number ≡ is_within_levels state levels number
  unfolding is_within_levels
  same_levels zero number = refl
  same_levels (suc levels) number = cases (same_levels levels) (parent_actor state number)
    where
      cases : ((number : ℕ) → is_within_levels (stripped state) levels number ≡ is_within_levels state levels number) → (parent : Option ℕ)
          → option_map_or (is_within_levels (stripped state) levels) parent true ≡ option_map_or (is_within_levels state levels) parent true
      cases rest None = refl
      cases rest (Some parent) = rest parent

  same_parent : (actor : ActorRecord) (parent : Option ℕ) → IfSome parent (IsChildOf state actor) → IfSome parent (IsChildOf (stripped state) actor)
  same_parent actor None is = tt
  same_parent actor (Some number) is = record { parent = is.parent; record' = is.record'; smaller = is.smaller; listed = is.listed; active = is.active }

  same_actor : (actor : ActorRecord) → IsActor definitions state actor → IsActor definitions (stripped state) actor
  same_actor actor is = record {
    number = is.number;
    kind = is.kind;
    parent = same_parent actor actor.parent is.parent;
    kids = is.kids;
    levels = same_levels 16 actor.number ∙ is.levels;
    ended = is.ended;
    system = is.system;
    output = is.output;
    error = is.error;
    values = is.values;
    mailbox = is.mailbox;
  }

  same_origin : (from : Origin) → IsOrigin state from → IsOrigin (stripped state) from
  same_origin (origin.Caller name) is = tt
  same_origin (origin.Actor number) is = is

  same_letter : (letter : Letter) → IsLetter state letter → IsLetter (stripped state) letter
  same_letter letter is = record { number = is.number; origin = same_origin letter.origin is.origin; event = is.event }

  same_timer : (timer : Timer) → IsTimer state timer → IsTimer (stripped state) timer
  same_timer timer is = record { order = is.order; owner = is.owner; target = is.target; id = is.id; event = is.event; no_init = is.no_init }

  pub valid_stripped : IsValidOffice definitions state → IsValidOffice definitions (stripped state)
  valid_stripped is = record {
    numbers = record { actor = is.numbers.actor; letter = is.numbers.letter; timer = is.numbers.timer };
    limits = record {
      actors = is.limits.actors;
      letters = is.limits.letters;
      timers = is.limits.timers;
      moment = is.limits.moment;
      callers = omega arith;
      replies = omega arith;
      entries = omega arith;
    };
    actors = λ k d within. same_actor (get_or state.actors k d) (is.actors k d within);
    actors_rise = is.actors_rise;
    letters = λ k d within. same_letter _ (is.letters k d within);
    letters_once = is.letters_once;
    timers = λ k d within. same_timer (get_or state.timers k d) (is.timers k d within);
    timers_rise = is.timers_rise;
    timer_ids = is.timer_ids;
    names = is.names;
    names_once = is.names_once;
    callers = λ k d within. absurd (omega arith);
    callers_once = λ i j d before within. absurd (omega arith);
  }

-- an office that has neither
pub stripped_same : (state : OfficeState) → state.callers ≡ [] → state.entries ≡ 0 → stripped state ≡ state
stripped_same state callers entries =
    ap (λ (kept : List Caller). record state { callers = kept; entries = 0 }) (sym callers) ∙ ap (λ (n : ℕ). record state { entries = n }) (sym entries)

-- ---- parts leave both as they are

record KeepsBooks (old : OfficeState) (new : OfficeState) : Type 0 where
  pub callers : new.callers ≡ old.callers
  pub entries : new.entries ≡ old.entries

keeps_stop : (parent : ℕ) (id : List ℕ) (state : OfficeState) → KeepsBooks state (after_stop parent id state)
unfolding removed
keeps_stop parent id state = cases (child_named state parent id)
  where
    cases : (child : Option ℕ) → KeepsBooks state (option_map_or (λ (child : ℕ). with_actor (removed child state) parent (without_kid id)) child state)
    cases None = record { callers = refl; entries = refl }
    cases (Some child) = record { callers = refl; entries = refl }

keeps_end : (end : ActorRecord → ActorRecord) (number : ℕ) (state : OfficeState) → KeepsBooks state (after_end end number state)
unfolding after_end
keeps_end end number state = record { callers = refl; entries = refl }

keeps_part : (state : OfficeState) (p : Part) → KeepsBooks state (put_part state p)
keeps_part state (part.TakeHead actor) = record { callers = refl; entries = refl }
keeps_part state (part.Own actor own) = record { callers = refl; entries = refl }
keeps_part state (part.Mail origin receiver event) = record { callers = refl; entries = refl }
keeps_part state (part.Schedule timer) = record { callers = refl; entries = refl }
keeps_part state (part.Cancel owner id) = record { callers = refl; entries = refl }
keeps_part state (part.Make newcomer) = record { callers = refl; entries = refl }
keeps_part state (part.Join parent id child) = record { callers = refl; entries = refl }
keeps_part state (part.Stop parent id subtree) = keeps_stop parent id state
keeps_part state (part.Done actor output subtree) = keeps_end _ actor state
keeps_part state (part.Fail actor error subtree) = keeps_end _ actor state
keeps_part state (part.Advance moment) = record { callers = refl; entries = refl }

keeps_parts : (parts : List Part) (state : OfficeState) → KeepsBooks state (put state parts)
keeps_parts [] state = record { callers = refl; entries = refl }
keeps_parts (first ∷ parts) state =
    let one = keeps_part state first in
    let rest = keeps_parts parts (put_part state first) in
    record { callers = rest.callers ∙ one.callers; entries = rest.entries ∙ one.entries }

pub put_callers : (parts : List Part) (state : OfficeState) → state.callers ≡ [] → (put state parts).callers ≡ []
put_callers parts state none = (keeps_parts parts state).callers ∙ none

pub put_entries : (parts : List Part) (state : OfficeState) → state.entries ≡ 0 → (put state parts).entries ≡ 0
put_entries parts state none = (keeps_parts parts state).entries ∙ none
