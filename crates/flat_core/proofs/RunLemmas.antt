-- What an entry of a run does to one actor.
use Rattle.std.proofs.Common.{◌≡◌, ◌≢◌, ℕ, zero, suc, ◌+◌, ◌-◌, ◌<◌, ◌≤◌, Bool, true, false, cond, List, [], ◌∷◌, ◌++◌, length, take, Option, None, Some, refl, ap, ◌∙◌, eqb, ltb, leb, arith}
use Rattle.std.proofs.lemmas.Bool.{false≢true}
use Rattle.std.proofs.lemmas.Bool.Decides.{nat_tests}
use Rattle.std.proofs.lemmas.List.Quantifiers.{position-Some}
use Rattle.std.specs.Prelude.{slice_get, option_map, IsSome}
use Rattle.std.specs.Option.{option_map_or}
use Rattle.std.specs.Str.{bytes_eq}
use Rattle.flat_core.specs.declared.flat.FlatMachine.{FlatMachine}
use Rattle.flat_core.specs.declared.request.Ask.{Ask}
use Rattle.flat_core.specs.declared.request.Ask.TheVariants.{Start, Send}
use Rattle.flat_core.specs.declared.request.Word.TheVariants as word
use Rattle.flat_core.specs.declared.office.Event.TheVariants.{Init, Sent}
use Rattle.flat_core.specs.declared.request.TheConstants.{STATUS_ACCEPTED, STATUS_NOT_FOUND}
use Rattle.flat_core.specs.Office.{Letter, Actor, Office, changed_at, is_given, actor_of, with_letter, machine_of, Decision, reply_with, start_decision, actor_after_step, took}
use Rattle.flat_core.specs.Runs.{Entry, decision, turn, after_entry, letter_told, sent_to, taken_by}
use Rattle.flat_core.proofs.QueueLemmas.{by_test, none_some, with_one_more, get-within}

-- ---- the actor of a number after a change

get-pushed : {X : Type 0} (xs : List X) (x : X) → slice_get (xs ++ x ∷ []) (length xs) ≡ Some x
get-pushed [] x = refl
get-pushed (y ∷ xs) x = get-pushed xs x

get-push_other : {X : Type 0} (xs : List X) (x : X) (k : ℕ) → k ≢ length xs → slice_get (xs ++ x ∷ []) k ≡ slice_get xs k
get-push_other [] x zero other = absurd (other refl)
get-push_other [] x (suc k) other = refl
get-push_other (y ∷ xs) x zero other = refl
get-push_other (y ∷ xs) x (suc k) other = get-push_other xs x k (λ e. other (ap suc e))

get-past : {X : Type 0} (xs : List X) (k : ℕ) → length xs ≤ k → slice_get xs k ≡ None
get-past [] k past = refl
get-past (x ∷ xs) zero past = absurd (omega arith)
get-past (x ∷ xs) (suc k) past = get-past xs k (omega arith)

get-changed_at : {X : Type 0} (xs : List X) (change : X → X) (k : ℕ) → slice_get (changed_at k change xs) k ≡ option_map change (slice_get xs k)
get-changed_at [] change k = refl
get-changed_at (x ∷ xs) change zero = refl
get-changed_at (x ∷ xs) change (suc k) = get-changed_at xs change k

get-changed_at_other : {X : Type 0} (xs : List X) (change : X → X) (k j : ℕ) → j ≢ k → slice_get (changed_at k change xs) j ≡ slice_get xs j
get-changed_at_other [] change k j other = refl
get-changed_at_other (x ∷ xs) change zero zero other = absurd (other refl)
get-changed_at_other (x ∷ xs) change zero (suc j) other = refl
get-changed_at_other (x ∷ xs) change (suc k) zero other = refl
get-changed_at_other (x ∷ xs) change (suc k) (suc j) other = get-changed_at_other xs change k j (λ e. other (ap suc e))

-- the actor of a number, in a list of actors
abbrev pub actor_in : List Actor → ℕ → Option Actor
actor_in actors number = cond (ltb 0 number) (slice_get actors (number - 1)) None

actor_in-pushed : (actors : List Actor) (actor : Actor) → actor_in (actors ++ actor ∷ []) (length actors + 1) ≡ Some actor
actor_in-pushed actors actor =
    let given : ltb 0 (length actors + 1) ≡ true = grind (arith, nat_tests) in
    let place : length actors + 1 - 1 ≡ length actors = omega arith in
    rw (given, place) (get-pushed actors actor)

actor_in-past : (actors : List Actor) → actor_in actors (length actors + 1) ≡ None
actor_in-past actors =
    let given : ltb 0 (length actors + 1) ≡ true = grind (arith, nat_tests) in
    rw given (get-past actors (length actors + 1 - 1) (omega arith))

actor_in-push_other : (actors : List Actor) (actor : Actor) (number : ℕ) → number ≢ length actors + 1 → actor_in (actors ++ actor ∷ []) number ≡ actor_in actors number
actor_in-push_other actors actor number other = by_test (ltb 0 number)
    (λ e. let positive : 0 < number = grind (arith, nat_tests) in rw e (get-push_other actors actor (number - 1) (λ same. other (omega arith))))
    (λ e. rw e refl)

actor_in-changed : (actors : List Actor) (change : Actor → Actor) (number : ℕ) → 0 < number → actor_in (changed_at (number - 1) change actors) number ≡ option_map change (actor_in actors number)
actor_in-changed actors change number positive =
    let given : ltb 0 number ≡ true = grind (arith, nat_tests) in
    rw given (get-changed_at actors change (number - 1))

actor_in-changed_other : (actors : List Actor) (change : Actor → Actor) (number other : ℕ) → 0 < number → other ≢ number → actor_in (changed_at (number - 1) change actors) other ≡ actor_in actors other
actor_in-changed_other actors change number other positive differs = by_test (ltb 0 other)
    (λ e. let positive' : 0 < other = grind (arith, nat_tests) in rw e (get-changed_at_other actors change (number - 1) (other - 1) (λ same. differs (omega arith))))
    (λ e. rw e refl)

-- ---- what an entry does to one actor

-- the actor before and after an entry, and the letters that the entry sends to it and makes it take
pub data Change (machines : List FlatMachine) (before after : Option Actor) (sent taken : List Letter) : Type 0 where
  stays : after ≡ before → sent ≡ [] → taken ≡ [] → Change machines before after sent taken
  begins : (machine : ℕ) (letter : Letter) → IsSome (slice_get machines machine) → before ≡ None →
      after ≡ Some (record { machine = machine; state = None; letters = letter ∷ [] }) → sent ≡ letter ∷ [] → taken ≡ [] → Change machines before after sent taken
  gets : (actor : Actor) (letter : Letter) → before ≡ Some actor → after ≡ Some (with_one_more letter actor) → sent ≡ letter ∷ [] → taken ≡ [] → Change machines before after sent taken
  steps : (actor : Actor) → before ≡ Some actor → after ≡ Some (actor_after_step machines actor) → sent ≡ [] → taken ≡ take 1 actor.letters → Change machines before after sent taken

-- the letters of an actor that may be there
abbrev pub letters_of : Option Actor → List Letter
letters_of actor = option_map_or (λ a. a.letters) actor []

abbrev pub ChangeBy : List FlatMachine → ℕ → Office → Entry → Type 0
ChangeBy machines number office entry =
    Change machines (actor_of office number) (actor_of (after_entry machines office entry) number) (sent_to machines number office entry) (taken_by number office entry)

-- a machine that is found by its id is there
machine_of-some : (machines : List FlatMachine) (id : List ℕ) (place : ℕ) → machine_of machines id ≡ Some place → IsSome (slice_get machines place)
machine_of-some [] id place found = absurd (none_some found)
machine_of-some (machine ∷ machines) id place found =
    get-within (machine ∷ machines) place (position-Some (λ m. bytes_eq m.id id) (machine ∷ machines) place machine found).0

-- an item that is there
pub item_of : {X : Type 0} (found : Option X) → IsSome found → (x : X) × (found ≡ Some x)
item_of (Some x) there = (x, refl)
item_of None there = absurd (false≢true there)

given-place : (office : Office) (number : ℕ) → is_given office number ≡ true → (0 < number) × (number ≤ length office.actors)
given-place office number given = grind (arith, nat_tests)

-- a number that is given is that of an actor
given-actor : (office : Office) (number : ℕ) → is_given office number ≡ true → (actor : Actor) × (actor_of office number ≡ Some actor)
given-actor office number given =
    let place = given-place office number given in
    let positive : ltb 0 number ≡ true = grind (arith, nat_tests, place.0) in
    item_of (actor_of office number) (rw positive (get-within office.actors (number - 1) (omega (arith, place.0, place.1))))

not_given-none : (office : Office) (number : ℕ) → is_given office number ≡ false → actor_of office number ≡ None
not_given-none office number not_given = by_test (ltb 0 number)
    (λ e.
    let past : leb number (length office.actors) ≡ false = rw e at not_given in
    rw e (get-past office.actors (number - 1) (grind (arith, nat_tests))))
    (λ e. rw e refl)

change-start : (machines : List FlatMachine) (number : ℕ) (office : Office) (caller : List ℕ) (n : ℕ) (id : List ℕ) → ChangeBy machines number office (decision (record { caller = caller; number = n; ask = Start id }))
change-start machines number office caller n id = by_machine (machine_of machines id) refl
  where
    by_machine : (found : Option ℕ) → machine_of machines id ≡ found →
        Change machines (actor_of office number) (actor_of (start_decision office found).after number) (letter_told number office (Start id) (start_decision office found).reply) []
    by_machine None at = stays refl refl refl
    by_machine (Some machine) at = by_test (eqb (length office.actors + 1) number)
        (λ e. let own : length office.actors + 1 ≡ number = grind (arith, nat_tests) in
        begins machine (record { number = office.next_letter; event = Init }) (machine_of-some machines id machine at)
        (rw (← own) (actor_in-past office.actors)) (rw (← own) (actor_in-pushed office.actors _)) (rw e refl) refl)
        (λ e. let other : number ≢ length office.actors + 1 = grind (arith, nat_tests) in
        stays (actor_in-push_other office.actors _ number other) (rw e refl) refl)

-- what a send is answered where the actor is there, and where it isn't
abbrev pub send_answer : Office → ℕ → List ℕ → Bool → Decision
send_answer office to event given = cond given
    (record { reply = reply_with STATUS_ACCEPTED word.Letter office.next_letter; after = with_letter office to event })
    (record { reply = reply_with STATUS_NOT_FOUND word.Actor to; after = office })

change-send : (machines : List FlatMachine) (number : ℕ) (office : Office) (caller : List ℕ) (n to : ℕ) (event : List ℕ) → ChangeBy machines number office (decision (record { caller = caller; number = n; ask = Send to event }))
change-send machines number office caller n to event = by_given (is_given office to) refl
  where
    by_given : (given : Bool) → is_given office to ≡ given →
        Change machines (actor_of office number) (actor_of (send_answer office to event given).after number) (letter_told number office (Send to event) (send_answer office to event given).reply) []
    by_given false not_given = stays refl refl refl
    by_given true given =
        let positive = (given-place office to given).0 in
        let letter : Letter = record { number = office.next_letter; event = Sent event } in
        by_test (eqb to number)
        (λ e.
        let own : to ≡ number = grind (arith, nat_tests) in
        let there = given-actor office to given in
        gets there.0 letter (rw (← own) there.1)
        (rw (← own) (actor_in-changed office.actors (with_one_more letter) to positive ∙ ap (option_map (with_one_more letter)) there.1))
        (rw e refl) refl)
        (λ e.
        let other : number ≢ to = grind (arith, nat_tests) in
        stays (actor_in-changed_other office.actors (with_one_more letter) to number positive other) (rw e refl) refl)

change-turn : (machines : List FlatMachine) (number : ℕ) (office : Office) (other : ℕ) → ChangeBy machines number office (turn other)
change-turn machines number office other = by_given (is_given office other) refl
  where
    by_given : (given : Bool) → is_given office other ≡ given →
        Change machines (actor_of office number) (actor_of (cond given (took machines office other) office) number) [] (taken_by number office (turn other))
    by_given true given =
        let positive = (given-place office other given).0 in
        by_test (eqb other number)
        (λ e.
        let own : other ≡ number = grind (arith, nat_tests) in
        let there = given-actor office other given in
        let here : actor_of office number ≡ Some there.0 = rw (← own) there.1 in
        steps there.0 here
        (rw (← own) (actor_in-changed office.actors (actor_after_step machines) other positive ∙ ap (option_map (actor_after_step machines)) there.1))
        refl (rw e (ap (λ found. take 1 (letters_of found)) here)))
        (λ e.
        let differs : number ≢ other = grind (arith, nat_tests) in
        stays (actor_in-changed_other office.actors (actor_after_step machines) other number positive differs) refl (rw e refl))
    by_given false not_given = by_test (eqb other number)
        (λ e.
        let own : other ≡ number = grind (arith, nat_tests) in
        let none : actor_of office number ≡ None = rw (← own) (not_given-none office other not_given) in
        stays refl refl (rw e (ap (λ found. take 1 (letters_of found)) none)))
        (λ e. stays refl refl (rw e refl))

pub change : (machines : List FlatMachine) (number : ℕ) (office : Office) (entry : Entry) → ChangeBy machines number office entry
change machines number office (decision request) = by_ask request.ask
  where
    by_ask : (ask : Ask) → ChangeBy machines number office (decision (record { caller = request.caller; number = request.number; ask = ask }))
    by_ask (Start id) = change-start machines number office request.caller request.number id
    by_ask (Send to event) = change-send machines number office request.caller request.number to event
change machines number office (turn other) = change-turn machines number office other
