-- The empty office is valid, and legal entries keep an office valid.
use Rattle.std.proofs.Common.{◌≡◌, ℕ, ◌<◌, true, List, [], ◌∷◌, refl, subst, arith}
use Rattle.std.specs.Prelude.{Option, None, Some, slice_get}
use Rattle.std.specs.Option.{option_map, option_map_or}
use Rattle.office_types.specs.declared.entry.Entry.{Entry}
use Rattle.office_types.specs.declared.entry.Entry.TheVariants.{Decided, Step}
use Rattle.office_types.specs.declared.limits.TheConstants.{MAX_ENTRIES}
use Rattle.office_types.specs.declared.office.ActorRecord.{ActorRecord}
use Rattle.office_types.specs.declared.office.Letter.{Letter}
use Rattle.office_types.specs.declared.office.OfficeState.{OfficeState}
use Rattle.office_types.specs.declared.outcome.Outcome.{Outcome}
use Rattle.office_types.specs.declared.outcome.Own.{Own}
use Rattle.office_types.specs.Decisions.{decided}
use Rattle.office_types.specs.Definitions.{AreLinked, OfficeDefinitions}
use Rattle.office_types.specs.Entries.{AreLegal, IsAllowedMacrostep, Macrostep, after, after_entry, head_of, next_outcome}
use Rattle.office_types.specs.Laws.{EmptyOfficeIsValid, EntriesKeepValidity}
use Rattle.office_types.specs.Observation.{own_of}
use Rattle.office_types.specs.Outcomes.{IsAllowedOutcome}
use Rattle.office_types.specs.Records.{is_ready, actor_record}
use Rattle.office_types.specs.Step.{took}
use Rattle.office_types.specs.ValidOffice.{IsValidOffice}
use Rattle.office_types.proofs.ValidityListLemmas.{each_look}
use Rattle.office_types.proofs.ValidityTreeLemmas.{chained, mapped, number_of}
use Rattle.office_types.proofs.ValidityPartLemmas.{FitsLetter, Mail}
use Rattle.office_types.proofs.ValidityLemmas.{HasKind, SoundOffice, sound_from}
use Rattle.office_types.proofs.ValidityDecisionLemmas.{decisions_keep_validity}
use Rattle.office_types.proofs.ValidityStepLemmas.{get_each}
use Rattle.office_types.proofs.ValidityTookLemmas.{machine_of, steps_keep_validity}

pub empty_office_is_valid : EmptyOfficeIsValid
empty_office_is_valid definitions = record {
  numbers = record {
    actor = record { numbered = omega arith; limit = omega arith };
    letter = record { numbered = omega arith; limit = omega arith };
    timer = record { numbered = omega arith; limit = omega arith };
  };
  limits = record { actors = omega arith; letters = omega arith; timers = omega arith; moment = omega arith; callers = omega arith; replies = omega arith; entries = omega arith };
  actors = λ k d within. absurd (omega arith);
  actors_rise = λ k within. absurd (omega arith);
  letters = λ k d within. absurd (omega arith);
  letters_once = λ i j d before within. absurd (omega arith);
  timers = λ k d within. absurd (omega arith);
  timers_rise = λ k within. absurd (omega arith);
  timer_ids = λ i j d before within. absurd (omega arith);
  names = refl;
  names_once = λ i j d before within. absurd (omega arith);
  callers = λ k d within. absurd (omega arith);
  callers_once = λ i j d before within. absurd (omega arith);
}

module _ (definitions : OfficeDefinitions) (macrostep : Macrostep) (linked : AreLinked definitions) (allows : IsAllowedMacrostep definitions macrostep) where
  stepped : (state : OfficeState) (n : ℕ) → IsValidOffice definitions state → is_ready state n ≡ true → state.entries < MAX_ENTRIES → IsValidOffice definitions (after_entry definitions macrostep state (Step n))
  stepped state n valid ready room = by_outcome (next_outcome macrostep state n) refl where
    by_outcome : (o : Option Outcome) → next_outcome macrostep state n ≡ o → IsValidOffice definitions (option_map_or (λ (outcome : Outcome). took definitions n outcome state) o state)
    by_outcome None is = valid
    by_outcome (Some outcome) is =
        let sound : SoundOffice (HasKind definitions) state.callers state = sound_from definitions state valid room in
        let own = chained (λ (o : Own). option_map (λ (letter : Letter). macrostep o letter.event) (head_of state n)) (own_of state n) outcome is in
        let letter = mapped (λ (l : Letter). macrostep own.0 l.event) (head_of state n) outcome own.2 in
        let owner = chained (λ (a : ActorRecord). a.own) (actor_record state n) own.0 own.1 in
        let head = chained (λ (a : ActorRecord). slice_get a.mailbox 0) (actor_record state n) letter.0 letter.1 in
        let machine = machine_of definitions owner.0 own.0 owner.2 (each_look number_of (HasKind definitions) state.actors sound.kinds n owner.0 owner.1) in
        let fits : FitsLetter state.next_actor state.next_letter letter.0 =
        get_each (FitsLetter state.next_actor state.next_letter) head.0.mailbox 0 letter.0 (each_look number_of (Mail state.next_actor state.next_letter) state.actors sound.parts.mail n head.0 head.1) head.2 in
        steps_keep_validity definitions state n own.0 outcome linked valid ready own.1 (subst (IsAllowedOutcome definitions own.0) letter.2 (allows own.0 letter.0.event machine.0 machine.1 fits.2)) room

  entries_valid : (entries : List Entry) (state : OfficeState) → IsValidOffice definitions state → AreLegal definitions macrostep state entries → IsValidOffice definitions (after definitions macrostep state entries)
  entries_valid [] state valid legal = valid
  entries_valid (Decided request ∷ entries) state valid legal =
      entries_valid entries (decided definitions state request).after (decisions_keep_validity definitions state request valid legal.0.0) legal.1
  entries_valid (Step n ∷ entries) state valid legal = entries_valid entries (after_entry definitions macrostep state (Step n)) (stepped state n valid legal.0.0 legal.0.1) legal.1

pub entries_keep_validity : EntriesKeepValidity
entries_keep_validity definitions macrostep state entries linked allows valid legal = entries_valid definitions macrostep linked allows entries state valid legal
