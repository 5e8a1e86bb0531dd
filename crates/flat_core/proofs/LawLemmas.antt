-- What a run does to an actor's letters and to its state.
use Rattle.std.proofs.Common.{◌≡◌, ℕ, ◌+◌, ◌<◌, ◌≤◌, Bool, true, false, cond, List, [], ◌∷◌, ◌++◌, take, Option, None, Some, refl, sym, ap, ◌∙◌, eqb, ltb, append_assoc, arith}
use Rattle.std.proofs.lemmas.Bool.Decides.{nat_tests}
use Rattle.std.proofs.lemmas.List.{append-nil, take-append-drop}
use Rattle.std.proofs.lemmas.List.Sums.{fold-append}
use Rattle.std.specs.Prelude.{slice_get, fold, option_and_then, IfSome, IsSome}
use Rattle.std.specs.Option.{option_map_or}
use Rattle.std.specs.List.{list_any}
use Rattle.std.specs.Str.{bytes_eq}
use Rattle.flat_core.specs.declared.flat.FlatMachine.{FlatMachine}
use Rattle.flat_core.specs.declared.request.Ask.{Ask}
use Rattle.flat_core.specs.declared.request.Ask.TheVariants.{Start, Send}
use Rattle.flat_core.specs.declared.office.Event.TheVariants.{Init, Sent}
use Rattle.flat_core.specs.Office.{Letter, Actor, Office, empty_office, is_given, actor_of, machine_of, start_decision, next_state, actor_state_after, actor_after_step, took}
use Rattle.flat_core.specs.Runs.{Entry, decision, turn, after_entry, after, along, mailbox, letter_told, sent_to, sent_along, taken_by, Route}
use Rattle.flat_core.specs.Laws.{RiseFrom, among}
use Rattle.flat_core.proofs.QueueLemmas.{by_test}
use Rattle.flat_core.proofs.RunLemmas.{Change, stays, begins, gets, steps, letters_of, send_answer, change}

-- ---- no letter is lost

conserved : (machines : List FlatMachine) (before after : Option Actor) (sent taken : List Letter) → Change machines before after sent taken → letters_of before ++ sent ≡ taken ++ letters_of after
conserved machines before after sent taken (stays now none none') = rw (now, none, none') (append-nil (letters_of before))
conserved machines before after sent taken (begins machine letter there was now one none) = rw (was, now, one, none) refl
conserved machines before after sent taken (gets actor letter was now one none) = rw (was, now, one, none) refl
conserved machines before after sent taken (steps actor was now none first) = rw (was, now, none, first) (append-nil actor.letters ∙ sym (take-append-drop 1 actor.letters))

pub letters-conserved : (machines : List FlatMachine) (number : ℕ) (office : Office) (entries : List Entry) →
    mailbox office number ++ along machines (sent_to machines number) office entries ≡ along machines (taken_by number) office entries ++ mailbox (after machines office entries) number
letters-conserved machines number office [] = append-nil (mailbox office number)
letters-conserved machines number office (entry ∷ entries) =
    let next = after_entry machines office entry in
    let sent = sent_to machines number office entry in
    let taken = taken_by number office entry in
    let more = along machines (sent_to machines number) next entries in
    sym (append_assoc (mailbox office number) sent more)
    ∙ ap (λ letters. letters ++ more) (conserved machines (actor_of office number) (actor_of next number) sent taken (change machines number office entry))
    ∙ append_assoc taken (mailbox next number) more
    ∙ ap (λ letters. taken ++ letters) (letters-conserved machines number next entries)
    ∙ sym (append_assoc taken (along machines (taken_by number) next entries) (mailbox (after machines next entries) number))

-- ---- the state

abbrev pub state_of : Option Actor → Option ℕ
state_of actor = option_and_then (λ a. a.state) actor

abbrev pub moved_by : FlatMachine → Option ℕ → Letter → Option ℕ
moved_by machine state letter = next_state machine state letter.event

-- the actor, if there is one, runs this machine
abbrev pub Runs : ℕ → Option Actor → Type 0
Runs machine actor = IfSome actor (λ a. a.machine ≡ machine)

ran : (machines : List FlatMachine) (before after : Option Actor) (sent taken : List Letter) (machine : ℕ) → Change machines before after sent taken → Runs machine after → Runs machine before
ran machines before after sent taken machine (stays now none none') runs = rw now at runs
ran machines before after sent taken machine (begins m letter there was now one none) runs = rw was tt
ran machines before after sent taken machine (gets actor letter was now one none) runs = rw was (rw now at runs)
ran machines before after sent taken machine (steps actor was now none first) runs = rw was (rw now at runs)

ran-run : (machines : List FlatMachine) (number : ℕ) (office : Office) (entries : List Entry) (machine : ℕ) → Runs machine (actor_of (after machines office entries) number) → Runs machine (actor_of office number)
ran-run machines number office [] machine runs = runs
ran-run machines number office (entry ∷ entries) machine runs =
    let next = after_entry machines office entry in
    ran machines (actor_of office number) (actor_of next number) (sent_to machines number office entry) (taken_by number office entry) machine
    (change machines number office entry) (ran-run machines number next entries machine runs)

-- a step transitions by the head letter
actor_after_step-actor_state_after : (machines : List FlatMachine) (actor : Actor) (machine : FlatMachine) → slice_get machines actor.machine ≡ Some machine → (actor_after_step machines actor).state ≡ fold (moved_by machine) actor.state (take 1 actor.letters)
actor_after_step-actor_state_after machines actor machine there = by_letters actor.letters
  where
    by_letters : (letters : List Letter) → option_map_or (λ letter. actor_state_after machines actor letter.event) (slice_get letters 0) actor.state ≡ fold (moved_by machine) actor.state (take 1 letters)
    by_letters [] = refl
    by_letters (letter ∷ letters) = rw there refl

transitions : (machines : List FlatMachine) (before after : Option Actor) (sent taken : List Letter) (place : ℕ) (machine : FlatMachine) → slice_get machines place ≡ Some machine →
    Change machines before after sent taken → Runs place before → state_of after ≡ fold (moved_by machine) (state_of before) taken
transitions machines before after sent taken place machine there (stays now none none') runs = rw (now, none') refl
transitions machines before after sent taken place machine there (begins m letter there' was now one none) runs = rw (was, now, none) refl
transitions machines before after sent taken place machine there (gets actor letter was now one none) runs = rw (was, now, none) refl
transitions machines before after sent taken place machine there (steps actor was now none first) runs =
    let own : actor.machine ≡ place = rw was at runs in
    rw (was, now, first) (actor_after_step-actor_state_after machines actor machine (rw own there))

pub state-transitions : (machines : List FlatMachine) (number : ℕ) (office : Office) (entries : List Entry) (place : ℕ) (machine : FlatMachine) → slice_get machines place ≡ Some machine →
    Runs place (actor_of (after machines office entries) number) →
    state_of (actor_of (after machines office entries) number) ≡ fold (moved_by machine) (state_of (actor_of office number)) (along machines (taken_by number) office entries)
state-transitions machines number office [] place machine there runs = refl
state-transitions machines number office (entry ∷ entries) place machine there runs =
    let next = after_entry machines office entry in
    let taken = taken_by number office entry in
    let more = along machines (taken_by number) next entries in
    state-transitions machines number next entries place machine there runs
    ∙ ap (λ state. fold (moved_by machine) state more)
    (transitions machines (actor_of office number) (actor_of next number) (sent_to machines number office entry) taken place machine there
    (change machines number office entry) (ran-run machines number office (entry ∷ entries) place runs))
    ∙ sym (fold-append (moved_by machine) (state_of (actor_of office number)) taken more)

-- the actor, if there is one, has a machine
abbrev pub HasMachine : List FlatMachine → Option Actor → Type 0
HasMachine machines actor = IfSome actor (λ a. IsSome (slice_get machines a.machine))

keeps_machine : (machines : List FlatMachine) (before after : Option Actor) (sent taken : List Letter) → Change machines before after sent taken → HasMachine machines before → HasMachine machines after
keeps_machine machines before after sent taken (stays now none none') has = rw now has
keeps_machine machines before after sent taken (begins m letter there was now one none) has = rw now there
keeps_machine machines before after sent taken (gets actor letter was now one none) has = rw now (rw was at has)
keeps_machine machines before after sent taken (steps actor was now none first) has = rw now (rw was at has)

pub has_machine : (machines : List FlatMachine) (number : ℕ) (office : Office) (entries : List Entry) → HasMachine machines (actor_of office number) → HasMachine machines (actor_of (after machines office entries) number)
has_machine machines number office [] has = has
has_machine machines number office (entry ∷ entries) has =
    let next = after_entry machines office entry in
    has_machine machines number next entries
    (keeps_machine machines (actor_of office number) (actor_of next number) (sent_to machines number office entry) (taken_by number office entry) (change machines number office entry) has)

-- ---- the order of numbers

-- an entry sends no letter, or one with the next number
pub data Numbered (next next' : ℕ) (sent : List Letter) : Type 0 where
  unsent : sent ≡ [] → next ≤ next' → Numbered next next' sent
  next_sent : (letter : Letter) → sent ≡ letter ∷ [] → letter.number ≡ next → next' ≡ next + 1 → Numbered next next' sent

pub rise-from_less : (less least : ℕ) (letters : List Letter) → less ≤ least → RiseFrom least letters → RiseFrom less letters
rise-from_less less least [] lower rise = tt
rise-from_less less least (letter ∷ letters) lower rise = (omega (arith, rise.0), rise.1)

numbered-rise : (next next' : ℕ) (sent more : List Letter) → Numbered next next' sent → RiseFrom next' more → RiseFrom next (sent ++ more)
numbered-rise next next' sent more (unsent none on) rise = rw none (rise-from_less next next' more on rise)
numbered-rise next next' sent more (next_sent letter one numbered step) rise = rw one (omega arith, rise-from_less (letter.number + 1) next' more (omega arith) rise)

-- letters that are numbered entry by entry rise
pub rise-run : (machines : List FlatMachine) (letters : Office → Entry → List Letter) → ((office : Office) (entry : Entry) → Numbered office.next_letter (after_entry machines office entry).next_letter (letters office entry)) →
    (office : Office) (entries : List Entry) → RiseFrom office.next_letter (along machines letters office entries)
rise-run machines letters numbered office [] = tt
rise-run machines letters numbered office (entry ∷ entries) =
    let next = after_entry machines office entry in
    numbered-rise office.next_letter next.next_letter (letters office entry) (along machines letters next entries) (numbered office entry) (rise-run machines letters numbered next entries)

-- one letter or none, by a test
one_or_none : (next : ℕ) (letter : Letter) (test : Bool) → letter.number ≡ next → Numbered next (next + 1) (cond test (letter ∷ []) [])
one_or_none next letter true numbered = next_sent letter refl numbered refl
one_or_none next letter false numbered = unsent refl (omega arith)

numbered-ask : (machines : List FlatMachine) (number : ℕ) (office : Office) (caller : List ℕ) (n : ℕ) (ask : Ask) →
    Numbered office.next_letter (after_entry machines office (decision (record { caller = caller; number = n; ask = ask }))).next_letter (sent_to machines number office (decision (record { caller = caller; number = n; ask = ask })))
numbered-ask machines number office caller n (Start id) = by_machine (machine_of machines id)
  where
    by_machine : (found : Option ℕ) → Numbered office.next_letter (start_decision office found).after.next_letter (letter_told number office (Start id) (start_decision office found).reply)
    by_machine None = unsent refl (omega arith)
    by_machine (Some machine) = one_or_none office.next_letter (record { number = office.next_letter; event = Init }) _ refl
numbered-ask machines number office caller n (Send to event) = by_given (is_given office to)
  where
    by_given : (given : Bool) → Numbered office.next_letter (send_answer office to event given).after.next_letter (letter_told number office (Send to event) (send_answer office to event given).reply)
    by_given false = unsent refl (omega arith)
    by_given true = one_or_none office.next_letter (record { number = office.next_letter; event = Sent event }) _ refl

pub numbered : (machines : List FlatMachine) (number : ℕ) (office : Office) (entry : Entry) → Numbered office.next_letter (after_entry machines office entry).next_letter (sent_to machines number office entry)
numbered machines number office (decision request) = numbered-ask machines number office request.caller request.number request.ask
numbered machines number office (turn other) = by_given (is_given office other)
  where
    by_given : (given : Bool) → Numbered office.next_letter (cond given (took machines office other) office).next_letter []
    by_given true = unsent refl (omega arith)
    by_given false = unsent refl (omega arith)

-- no actor is there at the start
pub no_actor : (number : ℕ) → actor_of empty_office number ≡ None
no_actor number = by_test (ltb 0 number) (λ e. rw e refl) (λ e. rw e refl)

-- ---- the letters of one caller

-- an entry's own letters are all that it has, or none
pub data Part (all own : List Letter) : Type 0 where
  whole : own ≡ all → Part all own
  nothing : own ≡ [] → Part all own

not_among : (number least : ℕ) (letters : List Letter) → number < least → RiseFrom least letters → list_any (λ other. eqb other.number number) letters ≡ false
not_among number least [] below rise = refl
not_among number least (letter ∷ letters) below rise =
    let other : eqb letter.number number ≡ false = grind (arith, nat_tests, rise.0) in
    rw other (not_among number (letter.number + 1) letters (omega (arith, rise.0)) rise.1)

-- a chosen letter with a lesser number than all others chooses none of them
among-lesser : (letter : Letter) (chosen : List Letter) (least : ℕ) (letters : List Letter) → letter.number < least → RiseFrom least letters → among (letter ∷ chosen) letters ≡ among chosen letters
among-lesser letter chosen least [] below rise = refl
among-lesser letter chosen least (first ∷ letters) below rise =
    let other : eqb letter.number first.number ≡ false = grind (arith, nat_tests, rise.0) in
    rw other
    (ap (λ more. cond (list_any (λ other. eqb other.number first.number) chosen) (first ∷ more) more)
    (among-lesser letter chosen (first.number + 1) letters (omega (arith, rise.0)) rise.1))

same_number : (number : ℕ) → eqb number number ≡ true
same_number number = grind (arith, nat_tests)

among-entry : (next next' : ℕ) (all own all_more own_more : List Letter) → Numbered next next' all → Part all own → RiseFrom next' all_more → RiseFrom next' own_more → among own_more all_more ≡ own_more →
    among (own ++ own_more) (all ++ all_more) ≡ own ++ own_more
among-entry next next' all own all_more own_more (unsent none on) (whole same) all_rise own_rise more = rw (same, none) more
among-entry next next' all own all_more own_more (unsent none on) (nothing without) all_rise own_rise more = rw (without, none) more
among-entry next next' all own all_more own_more (next_sent letter one numbered step) (whole same) all_rise own_rise more =
    rw (same, one, same_number letter.number) (ap (λ letters. letter ∷ letters) (among-lesser letter own_more next' all_more (omega arith) all_rise ∙ more))
among-entry next next' all own all_more own_more (next_sent letter one numbered step) (nothing without) all_rise own_rise more =
    rw (without, one, not_among letter.number next' own_more (omega arith) own_rise) more

part-from : (machines : List FlatMachine) (route : Route) (office : Office) (entry : Entry) → Part (sent_to machines route.actor office entry) (sent_along machines route office entry)
part-from machines route office (decision request) = by_test (bytes_eq request.caller route.caller) (λ e. whole (rw e refl)) (λ e. nothing (rw e refl))
part-from machines route office (turn other) = nothing refl

pub numbered-from : (machines : List FlatMachine) (route : Route) (office : Office) (entry : Entry) → Numbered office.next_letter (after_entry machines office entry).next_letter (sent_along machines route office entry)
numbered-from machines route office entry = by_part (part-from machines route office entry) (numbered machines route.actor office entry)
  where
    by_part : {all own : List Letter} {next next' : ℕ} → Part all own → Numbered next next' all → Numbered next next' own
    by_part (whole same) sent = rw same sent
    by_part (nothing without) (unsent none on) = unsent without on
    by_part (nothing without) (next_sent letter one numbered step) = unsent without (omega arith)

-- of all letters sent to an actor those with the numbers of a caller's are the caller's
pub among-sent : (machines : List FlatMachine) (route : Route) (office : Office) (entries : List Entry) →
    among (along machines (sent_along machines route) office entries) (along machines (sent_to machines route.actor) office entries) ≡ along machines (sent_along machines route) office entries
among-sent machines route office [] = refl
among-sent machines route office (entry ∷ entries) =
    let next = after_entry machines office entry in
    among-entry office.next_letter next.next_letter (sent_to machines route.actor office entry) (sent_along machines route office entry)
    (along machines (sent_to machines route.actor) next entries) (along machines (sent_along machines route) next entries)
    (numbered machines route.actor office entry) (part-from machines route office entry)
    (rise-run machines (sent_to machines route.actor) (numbered machines route.actor) next entries)
    (rise-run machines (sent_along machines route) (numbered-from machines route) next entries)
    (among-sent machines route next entries)
