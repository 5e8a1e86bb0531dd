-- A step of a claimed actor: its head letter is found in the queue, and the actor transitions by its event.
use Rattle.std.proofs.Common.{◌≡◌, ◌≢◌, ℕ, ◌+◌, ◌-◌, ◌<◌, ◌≤◌, true, List, length, drop, Option, None, Some, refl, sym, ap, ◌∙◌, ltb, arith}
use Rattle.std.proofs.lemmas.Bool.Decides.{nat_tests}
use Rattle.std.specs.Prelude.{slice_get, option_map, option_and_then, unwrap_or, find, IfSome, IsTrue}
use Rattle.std.specs.Option.{option_map_or}
use Rattle.flat_core.specs.declared.flat.FlatMachine.{FlatMachine}
use Rattle.flat_core.specs.declared.office.FlatActor.{FlatActor}
use Rattle.flat_core.specs.declared.office.QueuedLetter.{QueuedLetter}
use Rattle.flat_core.specs.declared.office.Event.{Event}
use Rattle.flat_core.specs.Office.{Actor, Office, is_given, next_state, actor_state_after, actor_after_step, with_step, took}
use Rattle.flat_core.specs.Plan.{head_at}
use Rattle.flat_core.specs.View.{letters_for, actors_from, state_behind, IsQueue}
use Rattle.flat_core.proofs.QueueLemmas.{is_for, letter_of, seen, in_state, read_office, none_some, slice_get-actors_from, letters_for-find, found-given, head_at-find, given-test, changed_at-same}

-- the claimed letter is at the head
pub head_at-found : (flat_actors : List FlatActor) (letters : List QueuedLetter) (next actor : ℕ) (w : QueuedLetter) → IsQueue (length flat_actors) 1 next letters → Some w ≡ find (is_for actor) letters →
    head_at (read_office flat_actors letters next) actor ≡ Some w.number
head_at-found flat_actors letters next actor w queue found = head_at-find flat_actors letters next actor queue ∙ ap (option_map (λ w. w.number)) (sym found)

-- no letter waits for the actor
pub gone-none : (flat_actors : List FlatActor) (letters : List QueuedLetter) (next actor claimed : ℕ) → IsQueue (length flat_actors) 1 next letters → None ≡ find (is_for actor) letters →
    (0 ≡ unwrap_or (head_at (read_office flat_actors letters next) actor) 0) × (head_at (read_office flat_actors letters next) actor ≢ Some claimed)
gone-none flat_actors letters next actor claimed queue none =
    let head : head_at (read_office flat_actors letters next) actor ≡ None = head_at-find flat_actors letters next actor queue ∙ ap (option_map (λ w. w.number)) (sym none) in
    (ap (λ found. unwrap_or found 0) (sym head), λ claim. none_some (sym head ∙ claim))

-- another letter than the claimed one is at the head
pub gone-other : (flat_actors : List FlatActor) (letters : List QueuedLetter) (next actor claimed : ℕ) (w : QueuedLetter) → IsQueue (length flat_actors) 1 next letters → Some w ≡ find (is_for actor) letters → w.number ≢ claimed →
    (w.number ≡ unwrap_or (head_at (read_office flat_actors letters next) actor) 0) × (head_at (read_office flat_actors letters next) actor ≢ Some claimed)
gone-other flat_actors letters next actor claimed w queue found other =
    let head : head_at (read_office flat_actors letters next) actor ≡ Some w.number = head_at-found flat_actors letters next actor w queue found in
    (ap (λ found. unwrap_or found 0) (sym head), λ claim. other (same (sym head ∙ claim)))
  where
    same : {a b : ℕ} → Some a ≡ Some b → a ≡ b
    same e = cc

found-within : (flat_actors : List FlatActor) (letters : List QueuedLetter) (next actor : ℕ) (w : QueuedLetter) → IsQueue (length flat_actors) 1 next letters → Some w ≡ find (is_for actor) letters → (0 < actor) × (actor ≤ length flat_actors)
found-within flat_actors letters next actor w queue found = rw (← found) at (found-given actor (length flat_actors) 1 next letters queue)

-- an actor for which a letter waits is there
pub found-is_given : (flat_actors : List FlatActor) (letters : List QueuedLetter) (next actor : ℕ) (w : QueuedLetter) → IsQueue (length flat_actors) 1 next letters → Some w ≡ find (is_for actor) letters →
    IsTrue (is_given (read_office flat_actors letters next) actor)
found-is_given flat_actors letters next actor w queue found =
    let within = found-within flat_actors letters next actor w queue found in
    sym (given-test flat_actors letters next actor within.0) ∙ grind (arith, nat_tests)

actor_state_after-and_then : (machines : List FlatMachine) (letters : List QueuedLetter) (actor : ℕ) (flat_actor : FlatActor) (event : Event) →
    option_and_then (λ machine. next_state machine flat_actor.state event) (slice_get machines flat_actor.machine) ≡ actor_state_after machines (seen letters actor flat_actor) event
actor_state_after-and_then machines letters actor flat_actor event = elim (slice_get machines flat_actor.machine) as
    (λ machine. option_and_then (λ machine. next_state machine flat_actor.state event) machine ≡ option_map_or (λ machine. next_state machine flat_actor.state event) machine None)
    [ None ↦ refl | Some machine ↦ refl ]

-- the step that is computed from the flat_actor is the step of the actor
pub step-took : (machines : List FlatMachine) (flat_actors : List FlatActor) (letters : List QueuedLetter) (next actor : ℕ) (state : Option ℕ) (w : QueuedLetter) → IsQueue (length flat_actors) 1 next letters → Some w ≡ find (is_for actor) letters →
    state ≡ state_behind machines flat_actors actor w.event → with_step (read_office flat_actors letters next) actor state ≡ took machines (read_office flat_actors letters next) actor
step-took machines flat_actors letters next actor state w queue found reached =
    let within = found-within flat_actors letters next actor w queue found in
    let place : 1 + (actor - 1) ≡ actor = omega (arith, within.0) in
    let given : ltb 0 actor ≡ true = grind (arith, nat_tests, within.0) in
    let reached' : state ≡ option_and_then (λ flat_actor. option_and_then (λ machine. next_state machine flat_actor.state w.event) (slice_get machines flat_actor.machine)) (slice_get flat_actors (actor - 1)) = rw given at reached in
    let with_actors : List Actor → Office = λ actors. record { actors = actors; next_letter = next } in
    ap with_actors (changed_at-same (in_state state) (actor_after_step machines) (actors_from 1 flat_actors letters) (actor - 1)
    (rw (slice_get-actors_from 1 flat_actors letters (actor - 1), place) (same (slice_get flat_actors (actor - 1)) reached')))
  where
    head : slice_get (letters_for actor letters) 0 ≡ Some (letter_of w)
    head = letters_for-find actor letters ∙ ap (option_map letter_of) (sym found)

    same : (flat_actor : Option FlatActor) → state ≡ option_and_then (λ flat_actor. option_and_then (λ machine. next_state machine flat_actor.state w.event) (slice_get machines flat_actor.machine)) flat_actor →
        IfSome (option_map (seen letters actor) flat_actor) (λ a. in_state state a ≡ actor_after_step machines a)
    same None reached = tt
    same (Some flat_actor) reached =
        let at_head = ap (λ letter. option_map_or (λ l. actor_state_after machines (seen letters actor flat_actor) l.event) letter flat_actor.state) head in
        ap (λ s. record { machine = flat_actor.machine; state = s; letters = drop 1 (letters_for actor letters) }) (reached ∙ actor_state_after-and_then machines letters actor flat_actor w.event ∙ sym at_head)
