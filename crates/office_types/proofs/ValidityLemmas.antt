-- A valid office as counts, a tree, what it has besides, and kinds of actors; both ways.
use Rattle.std.proofs.Common.{◌≡◌, ◌≢◌, ℕ, ◌+◌, ◌<◌, ◌≤◌, Bool, true, false, cond, List, [], ◌∷◌, length, refl, sym, ap, subst, ◌∙◌, arith}
use Rattle.std.specs.Prelude.{Option, None, Some, sum_by, count_by, nat_eq, IfSome, All, AllPairs}
use Rattle.std.specs.List.{AllByRecursion}
use Rattle.std.proofs.lemmas.Bool.{eqb-true, eqb-false, eq-eqb, ne_eqb}
use Rattle.std.proofs.lemmas.List.Elements.{All-from_recursion, recursion_from_All}
use Rattle.std.proofs.lemmas.List.Sums.{sum_by-cons, sum_by-append}
use Rattle.office_types.specs.declared.limits.TheConstants.{MAX_ACTIVE_ACTORS, MAX_CALLERS, MAX_ENTRIES, MAX_LETTERS, MAX_MOMENT, MAX_REPLIES, MAX_TIMERS}
use Rattle.office_types.specs.declared.office.ActorRecord.{ActorRecord}
use Rattle.office_types.specs.declared.office.Caller.{Caller}
use Rattle.office_types.specs.declared.office.Letter.{Letter}
use Rattle.office_types.specs.declared.office.OfficeState.{OfficeState}
use Rattle.office_types.specs.declared.office.Origin.{Origin}
use Rattle.office_types.specs.declared.office.Origin.TheVariants as origin
use Rattle.office_types.specs.declared.office.Timer.{Timer}
use Rattle.office_types.specs.Definitions.{OfficeDefinitions}
use Rattle.office_types.specs.Mailboxes.{waiting_letters}
use Rattle.office_types.specs.Records.{active_actors}
use Rattle.office_types.specs.Step.{with_entry}
use Rattle.office_types.specs.ValidOffice.{AreOfOneId, HasParent, IsActor, IsCaller, IsChildOf, IsGiven, IsLetter, IsNextNumber, IsOfOneKind, IsOrigin, IsTimer, IsValidOffice, letters_of}
use Rattle.office_types.proofs.ValidityListLemmas.{EachPair, all_from_pairs, each_flat_map, each_look, each_mono, flat_map_each, increasing_from_rises, look_each, look_number, none_counted, count_none, pairs_from, rises_from}
use Rattle.office_types.proofs.ValidityTreeLemmas.{ChildIn, ActorTree, number_of, parent_in, record_in, within, within_is}
use Rattle.office_types.proofs.ValidityPartLemmas.{FitsLetter, FitsOrigin, FitsTimer, PartRules, RecordRules}

-- ---- what is counted

pub record CountRules (callers : List Caller) (state : OfficeState) : Type 0 where
  pub actor : IsNextNumber state.next_actor
  pub letter : IsNextNumber state.next_letter
  pub timer : IsNextNumber state.next_timer
  pub active : active_actors state ≤ MAX_ACTIVE_ACTORS
  pub waiting : waiting_letters state ≤ MAX_LETTERS
  pub standing : length state.timers ≤ MAX_TIMERS
  pub moment : state.moment ≤ MAX_MOMENT
  pub entries : state.entries < MAX_ENTRIES
  pub same_callers : state.callers ≡ callers

-- an office whose actors are of such kinds, with room for an entry
pub record SoundOffice (K : ActorRecord → Type 0) (callers : List Caller) (state : OfficeState) : Type 0 where
  pub counts : CountRules callers state
  pub tree : ActorTree state.next_actor state.actors
  pub parts : PartRules state.next_actor state.next_letter state.next_timer state.actors state.timers state.names
  pub kinds : AllByRecursion K state.actors

-- the kinds of a valid office
abbrev pub HasKind : OfficeDefinitions → ActorRecord → Type 0
HasKind definitions actor = IsOfOneKind definitions actor actor.own actor.item

-- the rules of callers
pub record CallerRules (callers : List Caller) : Type 0 where
  pub count : length callers ≤ MAX_CALLERS
  pub replies : sum_by (λ (caller : Caller). length caller.replies) callers ≤ MAX_REPLIES
  pub each : All IsCaller callers
  pub once : AllPairs (λ (a b : Caller). a.name ≢ b.name) callers

-- ---- letters once

count_flat : (p : Letter → Bool) (actors : List ActorRecord) → count_by p (letters_of actors) ≡ sum_by (λ (a : ActorRecord). count_by p a.mailbox) actors
count_flat p [] = refl
count_flat p (actor ∷ actors) =
    omega (arith, sum_by-cons (λ (a : ActorRecord). count_by p a.mailbox) actor actors, sum_by-append (λ (l : Letter). cond (p l) 1 0) actor.mailbox (letters_of actors), count_flat p actors)

counted_once : (letters : List Letter) → EachPair (λ (a b : Letter). a.number ≢ b.number) letters → (m : ℕ) → count_by (λ (l : Letter). nat_eq l.number m) letters ≤ 1
counted_once [] differ m = omega arith
counted_once (letter ∷ letters) differ m = by_test (counted_once letters differ.1 m) (sum_by-cons (λ (l : Letter). cond (nat_eq l.number m) 1 0) letter letters) (nat_eq letter.number m) refl where
  by_test : count_by (λ (l : Letter). nat_eq l.number m) letters ≤ 1
      → count_by (λ (l : Letter). nat_eq l.number m) (letter ∷ letters) ≡ cond (nat_eq letter.number m) 1 0 + count_by (λ (l : Letter). nat_eq l.number m) letters
      → (b : Bool) → nat_eq letter.number m ≡ b → count_by (λ (l : Letter). nat_eq l.number m) (letter ∷ letters) ≤ 1
  by_test rest whole true is =
      let same : letter.number ≡ m = eqb-true letter.number m is in
      omega (
        arith,
        ap {B = ℕ} (λ (b : Bool). cond b 1 0) is,
        count_none (λ (l : Letter). nat_eq l.number m) letters
            (each_mono (λ (l : Letter). letter.number ≢ l.number) (λ (l : Letter). nat_eq l.number m ≡ false) letters (λ l differs. ne_eqb l.number m (λ e. differs (same ∙ sym e))) differ.0),
      )
  by_test rest whole false is = omega (arith, ap {B = ℕ} (λ (b : Bool). cond b 1 0) is)

once_counted : (letters : List Letter) → ((m : ℕ) → count_by (λ (l : Letter). nat_eq l.number m) letters ≤ 1) → EachPair (λ (a b : Letter). a.number ≢ b.number) letters
once_counted [] counted = tt
once_counted (letter ∷ letters) counted = (
  each_mono (λ (l : Letter). nat_eq l.number letter.number ≡ false) (λ (l : Letter). letter.number ≢ l.number) letters (λ l differs e. eqb-false l.number letter.number differs (sym e))
      (none_counted (λ (l : Letter). nat_eq l.number letter.number) letters
      (omega (arith, counted letter.number, sum_by-cons (λ (l : Letter). cond (nat_eq l.number letter.number) 1 0) letter letters, ap {B = ℕ} (λ (b : Bool). cond b 1 0) (eq-eqb letter.number letter.number refl)))),
  once_counted letters (λ m. omega (arith, counted m, sum_by-cons (λ (l : Letter). cond (nat_eq l.number m) 1 0) letter letters)),
)

-- ---- from a valid office

at_some : {X : Type 0} (P : X → Type 0) (o : Option X) (x : X) → IfSome o P → o ≡ Some x → P x
at_some P None x is e = absurd (cc)
at_some P (Some y) x is e = let same : y ≡ x = cc in subst P same is

some_from : {X : Type 0} (P : X → Type 0) (o : Option X) → ((x : X) → o ≡ Some x → P x) → IfSome o P
some_from P None is = tt
some_from P (Some x) is = is x refl

fits_origin : (state : OfficeState) (from : Origin) → IsOrigin state from → FitsOrigin state.next_actor from
fits_origin state (origin.Caller name) is = tt
fits_origin state (origin.Actor number) is = is

is_origin : (state : OfficeState) (from : Origin) → FitsOrigin state.next_actor from → IsOrigin state from
is_origin state (origin.Caller name) is = tt
is_origin state (origin.Actor number) is = is

module _ (definitions : OfficeDefinitions) (state : OfficeState) where
  stands_from : (a : ActorRecord) → IsActor definitions state a → RecordRules a
  stands_from a is = record {
    ended = is.ended;
    system = is.system;
    output = is.output;
    error = is.error;
    values = is.values;
    mailbox = rises_from (λ (letter : Letter). letter.number) a.mailbox is.mailbox;
  }

  child_from : (a : ActorRecord) (p : ℕ) → IsChildOf state a p → ChildIn state.actors a p
  child_from a p is = record { above = is.parent; seen = is.record'; smaller = is.smaller; listed = is.listed; active = is.active }

  tree_from : AllByRecursion (IsActor definitions state) state.actors → IsValidOffice definitions state → ActorTree state.next_actor state.actors
  tree_from each valid = record {
    rise = rises_from number_of state.actors valid.actors_rise;
    given = each_mono (IsActor definitions state) (λ (a : ActorRecord). IsGiven state.next_actor a.number) state.actors (λ a is. is.number) each;
    parents = λ n a p seen parent. child_from a p (at_some (IsChildOf state a) a.parent p ((each_look number_of (IsActor definitions state) state.actors each n a seen).parent) parent);
    kids = λ n a seen. (
        let same : a.number ≡ n = look_number number_of state.actors n a seen in
        subst (λ (m : ℕ). AllByRecursion (λ (kid : List ℕ × ℕ). parent_in state.actors kid.1 ≡ Some m) a.kids) same
        (recursion_from_All (λ (kid : List ℕ × ℕ). HasParent state a.number kid.1) a.kids ((each_look number_of (IsActor definitions state) state.actors each n a seen).kids)));
    levels = λ n a seen. (
        let same : a.number ≡ n = look_number number_of state.actors n a seen in
        ap (within state.actors 16) (sym same) ∙ sym (within_is state 16 a.number) ∙ (each_look number_of (IsActor definitions state) state.actors each n a seen).levels);
  }

  timer_from : (timer : Timer) → IsTimer state timer → FitsTimer state.next_actor state.next_timer state.actors timer
  timer_from timer is = record { order = is.order; owner = is.owner; target = is.target; id = is.id; event = is.event; no_init = is.no_init }

  parts_from : AllByRecursion (IsActor definitions state) state.actors → IsValidOffice definitions state → PartRules state.next_actor state.next_letter state.next_timer state.actors state.timers state.names
  parts_from each valid = record {
    stands = each_mono (IsActor definitions state) RecordRules state.actors stands_from each;
    mail = flat_map_each (FitsLetter state.next_actor state.next_letter) (λ (a : ActorRecord). a.mailbox) state.actors
        (each_mono (IsLetter state) (FitsLetter state.next_actor state.next_letter) (letters_of state.actors) (λ letter is. (is.number, fits_origin state letter.origin is.origin, is.event)) (recursion_from_All (IsLetter state) (letters_of state.actors) valid.letters));
    once = λ m. omega (arith, count_flat (λ (l : Letter). nat_eq l.number m) state.actors, counted_once (letters_of state.actors) (pairs_from (λ (a b : Letter). a.number ≢ b.number) (letters_of state.actors) valid.letters_once) m);
    timers_fit = each_mono (IsTimer state) (FitsTimer state.next_actor state.next_timer state.actors) state.timers timer_from (recursion_from_All (IsTimer state) state.timers valid.timers);
    timers_rise = rises_from (λ (timer : Timer). timer.order) state.timers valid.timers_rise;
    timer_ids = pairs_from (λ (a b : Timer). AreOfOneId a b → ⊥) state.timers valid.timer_ids;
    names_same = valid.names;
    names_once = pairs_from (λ (a b : List ℕ × ℕ). a.0 ≢ b.0) state.names valid.names_once;
  }

  pub sound_from : IsValidOffice definitions state → state.entries < MAX_ENTRIES → SoundOffice (HasKind definitions) state.callers state
  sound_from valid room =
      let each = recursion_from_All (IsActor definitions state) state.actors valid.actors in
      record {
        counts = record {
          actor = valid.numbers.actor;
          letter = valid.numbers.letter;
          timer = valid.numbers.timer;
          active = valid.limits.actors;
          waiting = valid.limits.letters;
          standing = valid.limits.timers;
          moment = valid.limits.moment;
          entries = room;
          same_callers = refl;
        };
        tree = tree_from each valid;
        parts = parts_from each valid;
        kinds = each_mono (IsActor definitions state) (HasKind definitions) state.actors (λ a is. is.kind) each;
      }

  pub caller_rules : IsValidOffice definitions state → CallerRules state.callers
  caller_rules valid = record { count = valid.limits.callers; replies = valid.limits.replies; each = valid.callers; once = valid.callers_once }

  -- ---- to a valid office, one entry later

  module _ (callers before : List Caller) (rules : CallerRules callers) (sound : SoundOffice (HasKind definitions) before state) where
    abbrev later : OfficeState
    later = with_entry (record state { callers = callers })

    child_to : (a : ActorRecord) (p : ℕ) → ChildIn state.actors a p → IsChildOf later a p
    child_to a p is = record { parent = is.above; record' = is.seen; smaller = is.smaller; listed = is.listed; active = is.active }

    actor_to : (n : ℕ) (a : ActorRecord) → record_in state.actors n ≡ Some a → IsActor definitions later a
    actor_to n a seen =
        let same : a.number ≡ n = look_number number_of state.actors n a seen in
        let stands : RecordRules a = each_look number_of RecordRules state.actors sound.parts.stands n a seen in
        record {
          number = each_look number_of (λ (z : ActorRecord). IsGiven state.next_actor z.number) state.actors sound.tree.given n a seen;
          kind = each_look number_of (HasKind definitions) state.actors sound.kinds n a seen;
          parent = some_from (IsChildOf later a) a.parent (λ p is. child_to a p (sound.tree.parents n a p seen is));
          kids = All-from_recursion (λ (kid : List ℕ × ℕ). HasParent later a.number kid.1) a.kids
              (subst (λ (m : ℕ). AllByRecursion (λ (kid : List ℕ × ℕ). parent_in state.actors kid.1 ≡ Some m) a.kids) (sym same) (sound.tree.kids n a seen));
          levels = within_is later 16 a.number ∙ ap (within state.actors 16) same ∙ sound.tree.levels n a seen;
          ended = stands.ended;
          system = stands.system;
          output = stands.output;
          error = stands.error;
          values = stands.values;
          mailbox = increasing_from_rises (λ (letter : Letter). letter.number) a.mailbox stands.mailbox;
        }

    letter_to : (letter : Letter) → FitsLetter state.next_actor state.next_letter letter → IsLetter later letter
    letter_to letter fits = record { number = fits.0; origin = is_origin later letter.origin fits.1; event = fits.2 }

    timer_to : (timer : Timer) → FitsTimer state.next_actor state.next_timer state.actors timer → IsTimer later timer
    timer_to timer is = record { order = is.order; owner = is.owner; target = is.target; id = is.id; event = is.event; no_init = is.no_init }

    pub valid_from : IsValidOffice definitions later
    valid_from = record {
      numbers = record { actor = sound.counts.actor; letter = sound.counts.letter; timer = sound.counts.timer };
      limits = record {
        actors = sound.counts.active;
        letters = sound.counts.waiting;
        timers = sound.counts.standing;
        moment = sound.counts.moment;
        callers = rules.count;
        replies = rules.replies;
        entries = (let room : state.entries < MAX_ENTRIES = sound.counts.entries in omega arith);
      };
      actors = All-from_recursion (IsActor definitions later) state.actors (look_each number_of (IsActor definitions later) state.actors sound.tree.rise actor_to);
      actors_rise = increasing_from_rises number_of state.actors sound.tree.rise;
      letters = All-from_recursion (IsLetter later) (letters_of state.actors)
          (each_mono (FitsLetter state.next_actor state.next_letter) (IsLetter later) (letters_of state.actors) letter_to (each_flat_map (FitsLetter state.next_actor state.next_letter) (λ (a : ActorRecord). a.mailbox) state.actors sound.parts.mail));
      letters_once = all_from_pairs (λ (a b : Letter). a.number ≢ b.number) (letters_of state.actors)
          (once_counted (letters_of state.actors) (λ m. omega (arith, count_flat (λ (l : Letter). nat_eq l.number m) state.actors, sound.parts.once m)));
      timers = All-from_recursion (IsTimer later) state.timers (each_mono (FitsTimer state.next_actor state.next_timer state.actors) (IsTimer later) state.timers timer_to sound.parts.timers_fit);
      timers_rise = increasing_from_rises (λ (timer : Timer). timer.order) state.timers sound.parts.timers_rise;
      timer_ids = all_from_pairs (λ (a b : Timer). AreOfOneId a b → ⊥) state.timers sound.parts.timer_ids;
      names = sound.parts.names_same;
      names_once = all_from_pairs (λ (a b : List ℕ × ℕ). a.0 ≢ b.0) state.names sound.parts.names_once;
      callers = rules.each;
      callers_once = rules.once;
    }
