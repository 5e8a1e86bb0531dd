-- No letter is lost: it waits until it is taken, or until its actor ends or is removed.
use Rattle.std.proofs.Common.{◌≡◌, ℕ, ◌+◌, ◌<◌, Bool, true, false, ◌&&◌, List, [], ◌∷◌, ◌++◌, drop, refl, sym, ap, subst, ◌∙◌, inl, inr, arith}
use Rattle.std.specs.Prelude.{◌⊎◌, Contains, Option, None, Some, is_some, nat_eq, if◌then◌else◌, option_to_list}
use Rattle.std.specs.Option.{option_map, option_map_or}
use Rattle.std.proofs.lemmas.Bool.{eqb-true, eqb-false}
use Rattle.office_types.specs.declared.entry.Entry.{Entry}
use Rattle.office_types.specs.declared.entry.Entry.TheVariants.{Decided, Step}
use Rattle.office_types.specs.declared.office.ActorRecord.{ActorRecord}
use Rattle.office_types.specs.declared.office.Letter.{Letter}
use Rattle.office_types.specs.declared.office.OfficeState.{OfficeState}
use Rattle.office_types.specs.declared.outcome.Outcome.{Outcome}
use Rattle.office_types.specs.Definitions.{OfficeDefinitions}
use Rattle.office_types.specs.Entries.{AreLegal, Macrostep, after, after_entry}
use Rattle.office_types.specs.Laws.{NoLetterIsLost, TakenLetter, letters_taken, mailbox_of, taken_letter}
use Rattle.office_types.specs.Mailboxes.{without_head}
use Rattle.office_types.specs.Records.{is_active, is_active_machine, is_active_status, actor_record}
use Rattle.office_types.specs.Step.{took}
use Rattle.office_types.proofs.ChangeLemmas.{IsKeptBesideTaking, decision_keeps, entries_keep, rest_keeps}
use Rattle.office_types.proofs.LetterOrderLemmas.{IsOther, found_has, holder, others_differ}
use Rattle.office_types.proofs.NumberLemmas.{InOrder, Single, order_from, order_kept}
use Rattle.office_types.proofs.RecordLemmas.{Among, Everywhere, IsOfMailboxes, all_map, all_weaker, among_at, among_more, contains_among, everywhere_kept}
use Rattle.office_types.proofs.TakenLetterLemmas.{HasHead, has_head}

among_behind : {X : Type 0} (xs ys : List X) (x : X) → Among ys x → Among (xs ++ ys) x
among_behind [] ys x among = among
among_behind (y ∷ xs) ys x among = inr (among_behind xs ys x among)

active_holder : (o : Option ActorRecord) → option_map_or (λ (actor : ActorRecord). is_active actor && is_some actor.own) o false ≡ true → (found : ActorRecord) × (o ≡ Some found) × (is_active found ≡ true)
active_holder None active = absurd cc
active_holder (Some found) active = (found, refl, by_test (is_active found) active) where
  by_test : (test : Bool) → (test && is_some found.own) ≡ true → test ≡ true
  by_test true both = refl
  by_test false both = absurd cc

abbrev taken_by : ℕ → Letter → TakenLetter
taken_by number letter = record { actor = number; letter = letter }

module _ (number : ℕ) (letter : Letter) where
  -- while the actor is active the letter waits for it
  abbrev Waits : ActorRecord → Type 0
  Waits actor = actor.number ≡ number → is_active actor ≡ true → Among actor.mailbox letter

  waits_is_of_mailboxes : IsOfMailboxes Waits 0 (number + 1)
  waits_is_of_mailboxes = record {
    same = λ actor other same status mailbox waits is active.
        subst (λ (letters : List Letter). Among letters letter) (sym mailbox) (waits (sym same ∙ is) (ap is_active_status (sym status) ∙ active));
    ended = λ actor over empty is active. absurd cc;
    fresh = λ actor later empty is active. absurd (omega arith);
    more = λ actor other later waits is active. among_more actor.mailbox letter other (waits is active);
  }

  abbrev Kept : OfficeState → Type 0
  Kept = Everywhere Waits 0 (number + 1)

  waits_kept : IsKeptBesideTaking Kept
  waits_kept = everywhere_kept Waits 0 (number + 1) waits_is_of_mailboxes

  -- a step of another actor leaves the letter
  other_taken : (stepped : ℕ) (state : OfficeState) → nat_eq stepped number ≡ false → Kept state → Kept (without_head state stepped)
  other_taken stepped state apart kept = (all_map Waits Waits _ (λ actor waits. by_test actor waits (nat_eq actor.number stepped) refl) state.actors kept.0, kept.1, kept.2) where
    by_test : (actor : ActorRecord) → Waits actor → (test : Bool) → nat_eq actor.number stepped ≡ test → Waits (if test then record actor { mailbox = drop 1 actor.mailbox } else actor)
    by_test actor waits true same = λ is active. absurd (eqb-false stepped number apart (sym (eqb-true actor.number stepped same) ∙ is))
    by_test actor waits false other = waits

  -- so does one of its own actor that takes another letter
  behind_head : (macrostep : Macrostep) (stepped : ℕ) (state : OfficeState) → stepped ≡ number → InOrder state → (head : HasHead macrostep (actor_record state stepped)) → Among head.others letter → Kept state → Kept (without_head state stepped)
  behind_head macrostep stepped state own order head among kept = (
    all_map (λ (actor : ActorRecord). (actor ≡ head.found) ⊎ IsOther stepped head.found actor) Waits _ (λ actor case. by_case actor case (nat_eq actor.number stepped) refl) state.actors
        (others_differ stepped state.actors order.1 head.found head.is),
    kept.1,
    kept.2,
  ) where
    single : Single state.next_actor state.next_letter head.found × (head.found.number ≡ stepped)
    single = found_has (Single state.next_actor state.next_letter) stepped state.actors order.0 head.found head.is

    by_case : (actor : ActorRecord) → (actor ≡ head.found) ⊎ IsOther stepped head.found actor → (test : Bool) → nat_eq actor.number stepped ≡ test → Waits (if test then record actor { mailbox = drop 1 actor.mailbox } else actor)
    by_case actor (inl same) true is = λ e active. subst (λ (letters : List Letter). Among (drop 1 letters) letter) (sym (ap (λ (a : ActorRecord). a.mailbox) same ∙ head.mailbox)) among
    by_case actor (inl same) false is = absurd (eqb-false actor.number stepped is (ap (λ (a : ActorRecord). a.number) same ∙ single.1))
    by_case actor (inr other) true is = λ e active. absurd (other.0 (e ∙ sym own))
    by_case actor (inr other) false is = λ e active. absurd (other.0 (e ∙ sym own))

  module _ (definitions : OfficeDefinitions) (macrostep : Macrostep) where
    -- what becomes of the letter
    abbrev Fate : OfficeState → List Entry → Type 0
    Fate state entries = Kept (after definitions macrostep state entries) ⊎ Among (letters_taken definitions macrostep state entries) (taken_by number letter)

    step_fate : (stepped : ℕ) (state : OfficeState) (entries : List Entry) → InOrder state → Kept state → HasHead macrostep (actor_record state stepped)
        → (Kept (after_entry definitions macrostep state (Step stepped)) → Fate (after_entry definitions macrostep state (Step stepped)) entries) → Fate state (Step stepped ∷ entries)
    step_fate stepped state entries order kept head rest = by_number (nat_eq stepped number) refl where
      onwards : Kept (without_head state stepped) → Fate state (Step stepped ∷ entries)
      onwards left = by_rest (rest (subst (λ (o : Option Outcome). Kept (option_map_or (λ (outcome : Outcome). took definitions stepped outcome state) o state)) (sym head.next)
          (rest_keeps Kept waits_kept definitions stepped head.outcome state left))) where
            by_rest : Fate (after_entry definitions macrostep state (Step stepped)) entries → Fate state (Step stepped ∷ entries)
            by_rest (inl kept') = inl kept'
            by_rest (inr among) = inr (among_behind (option_to_list (taken_letter state (Step stepped))) (letters_taken definitions macrostep (after_entry definitions macrostep state (Step stepped)) entries) (taken_by number letter) among)

      by_head : stepped ≡ number → Among (head.letter ∷ head.others) letter → Fate state (Step stepped ∷ entries)
      by_head own (inl is) =
          inr (subst (λ (o : Option Letter). Among (option_to_list (option_map {U = TakenLetter} (λ (l : Letter). record { actor = stepped; letter = l }) o) ++ letters_taken definitions macrostep (after_entry definitions macrostep state (Step stepped)) entries) (taken_by number letter))
          (sym head.head) (inl (ap (λ (k : ℕ). taken_by k head.letter) own ∙ ap (taken_by number) is)))
      by_head own (inr among) = onwards (behind_head macrostep stepped state own order head among kept)

      by_number : (test : Bool) → nat_eq stepped number ≡ test → Fate state (Step stepped ∷ entries)
      by_number true is =
          let own : stepped ≡ number = eqb-true stepped number is in
          let found = found_has Waits stepped state.actors kept.0 head.found head.is in
          by_head own (subst (λ (letters : List Letter). Among letters letter) head.mailbox (found.0 (found.1 ∙ own) head.active))
      by_number false is = onwards (other_taken stepped state is kept)

    fate : (entries : List Entry) (state : OfficeState) → InOrder state → AreLegal definitions macrostep state entries → Kept state → Fate state entries
    fate [] state order legal kept = inl kept
    fate (Decided request ∷ entries) state order legal kept =
        fate entries (after_entry definitions macrostep state (Decided request)) (entries_keep InOrder order_kept definitions macrostep (Decided request ∷ []) state order) legal.1
        (decision_keeps Kept waits_kept definitions state request kept)
    fate (Step stepped ∷ entries) state order legal kept =
        step_fate stepped state entries order kept (has_head macrostep (actor_record state stepped) legal.0.0)
        (λ kept'. fate entries (after_entry definitions macrostep state (Step stepped)) (entries_keep InOrder order_kept definitions macrostep (Step stepped ∷ []) state order) legal.1 kept')

  -- a letter that waits is kept at first
  kept_first : (state : OfficeState) → InOrder state → Among (mailbox_of state number) letter → Kept state
  kept_first state order among =
      let held = holder (actor_record state number) letter among in
      let single = found_has (Single state.next_actor state.next_letter) number state.actors order.0 held.0 held.1 in (
        all_weaker (λ (actor : ActorRecord). (actor ≡ held.0) ⊎ IsOther number held.0 actor) Waits (by_case held.0 held.2) state.actors (others_differ number state.actors order.1 held.0 held.1),
        omega arith,
        (let given : held.0.number < state.next_actor = single.0.0 in let own : held.0.number ≡ number = single.1 in omega arith),
      ) where
        by_case : (found : ActorRecord) → Among found.mailbox letter → (actor : ActorRecord) → (actor ≡ found) ⊎ IsOther number found actor → Waits actor
        by_case found among' actor (inl same) = λ is active. subst (λ (a : ActorRecord). Among a.mailbox letter) (sym same) among'
        by_case found among' actor (inr other) = λ is active. absurd (other.0 is)

  -- and waits at last, if the actor is active
  kept_last : (state : OfficeState) → is_active_machine state number ≡ true → Kept state → Among (mailbox_of state number) letter
  kept_last state active kept =
      let held = active_holder (actor_record state number) active in
      let found = found_has Waits number state.actors kept.0 held.0 held.1 in
      subst (λ (o : Option ActorRecord). Among (option_map_or (λ (actor : ActorRecord). actor.mailbox) o []) letter) (sym held.1) (found.0 found.1 held.2)

pub no_letter_is_lost : NoLetterIsLost
no_letter_is_lost definitions macrostep state entries number letter order legal waits active =
    by_fate (fate number letter definitions macrostep entries state (order_from state order) legal
    (kept_first number letter state (order_from state order) (among_at (mailbox_of state number) letter waits.0 waits.1 waits.2))) where
      by_fate : Fate number letter definitions macrostep state entries
          → Contains (mailbox_of (after definitions macrostep state entries) number) letter ⊎ Contains (letters_taken definitions macrostep state entries) (taken_by number letter)
      by_fate (inl kept) = inl (contains_among (mailbox_of (after definitions macrostep state entries) number) letter (kept_last number letter (after definitions macrostep state entries) active kept))
      by_fate (inr among) = inr (contains_among (letters_taken definitions macrostep state entries) (taken_by number letter) among)
