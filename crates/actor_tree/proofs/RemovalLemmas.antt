-- Actors that are removed or stopped one after the other are as those that the office's rules remove and end at once.
use Rattle.std.proofs.Common.{◌≡◌, ℕ, Bool, true, false, cond, ◌||◌, List, [], ◌∷◌, ◌++◌, filter, fold, map, nat_eq, not, None, Option, Some, refl, sym, ap, ◌∙◌}
use Rattle.std.specs.Option.{is_some, option_map_or}
use Rattle.office_types.specs.declared.office.ActorRecord.{ActorRecord}
use Rattle.office_types.specs.declared.office.OfficeState.{OfficeState}
use Rattle.office_types.specs.declared.office.Status.TheVariants as status
use Rattle.office_types.specs.declared.office.Timer.{Timer}
use Rattle.office_types.specs.Ends.{after_end, ended_record, has_parent_among, is_among, record_after_end, removed, stopped_record, subtree_of, without_belongings}
use Rattle.office_types.specs.Effects.{after_stop, child_named, without_kid}
use Rattle.office_types.specs.Records.{is_active, with_actor}
use Rattle.office_types.specs.SystemNames.{without_holder}
use Rattle.office_types.specs.Timers.{without_owner}
use Rattle.actor_tree.specs.declared.ending.Ending.{Ending}
use Rattle.actor_tree.specs.declared.ending.Ending.TheVariants as ending
use Rattle.actor_tree.specs.Removal.{ended_by, with_end, with_stopped, without_actor, without_actors}
use Rattle.actor_tree.proofs.ChangedLemmas.{changed}
use Rattle.actor_tree.proofs.EndLemmas.{end_inactive}
use Rattle.actor_tree.proofs.SubtreeLemmas.{all_below}

-- ---- lists

pub filter_all : {X : Type 0} (xs : List X) → filter (λ (x : X). true) xs ≡ xs
filter_all [] = refl
filter_all {X} (x ∷ xs) = ap (λ (l : List X). x ∷ l) (filter_all xs)

map_same : {X : Type 0} (f : X → X) → ((x : X) → f x ≡ x) → (xs : List X) → map f xs ≡ xs
map_same f same [] = refl
map_same {X} f same (x ∷ xs) = ap (λ (y : X). y ∷ map f xs) (same x) ∙ ap (λ (l : List X). x ∷ l) (map_same f same xs)

map_map : {X : Type 0} (f g h : X → X) → ((x : X) → f (g x) ≡ h x) → (xs : List X) → map f (map g xs) ≡ map h xs
map_map f g h same [] = refl
map_map {X} f g h same (x ∷ xs) = ap (λ (y : X). y ∷ map f (map g xs)) (same x) ∙ ap (λ (l : List X). h x ∷ l) (map_map f g h same xs)

filter_filter : {X : Type 0} (p q r : X → Bool) → ((x : X) → (b : Bool) → q x ≡ b → r x ≡ cond b (p x) false) → (xs : List X) → filter p (filter q xs) ≡ filter r xs
filter_filter p q r same [] = refl
filter_filter {X} p q r same (x ∷ xs) = by_test (filter_filter p q r same xs) (q x) refl (p x) refl
  where
    by_test : filter p (filter q xs) ≡ filter r xs → (b : Bool) → q x ≡ b → (d : Bool) → p x ≡ d → filter p (cond b (x ∷ filter q xs) (filter q xs)) ≡ cond (r x) (x ∷ filter r xs) (filter r xs)
    by_test rest true is true also = rw (also, same x true is, also) (ap (λ (l : List X). x ∷ l) rest)
    by_test rest true is false also = rw (also, same x true is, also) rest
    by_test rest false is d also = rw (same x false is) rest

-- ---- removed

pub all_removed : (numbers : List ℕ) (state : OfficeState) → without_actors state numbers ≡ record (without_belongings numbers state) { actors = filter (λ (actor : ActorRecord). not (is_among numbers actor.number)) state.actors }
all_removed [] state = ap (λ (actors : List ActorRecord). record state { actors = actors }) (sym (filter_all state.actors))
all_removed (number ∷ numbers) state =
    all_removed numbers (without_actor state number)
    ∙ ap (λ (actors : List ActorRecord). record (without_belongings (number ∷ numbers) state) { actors = actors })
    (filter_filter (λ (actor : ActorRecord). not (is_among numbers actor.number)) (λ (actor : ActorRecord). not (nat_eq actor.number number)) (λ (actor : ActorRecord). not (is_among (number ∷ numbers) actor.number))
    (λ actor b is. by_number actor (nat_eq actor.number number) b is) state.actors)
  where
    by_number : (actor : ActorRecord) (d b : Bool) → not d ≡ b → not (d || is_among numbers actor.number) ≡ cond b (not (is_among numbers actor.number)) false
    by_number actor true true is = absurd (cc)
    by_number actor true false is = refl
    by_number actor false true is = refl
    by_number actor false false is = absurd (cc)

pub subtree_removed : (number : ℕ) (state : OfficeState) → without_actors state (subtree_of state number) ≡ removed number state
unfolding removed
subtree_removed number state = all_removed (subtree_of state number) state

-- ---- stopped

abbrev stopped_among : List ℕ → ActorRecord → ActorRecord
stopped_among numbers actor = cond (is_among numbers actor.number) (stopped_record actor) actor

-- who has ended isn't stopped
stays_ended : (actor : ActorRecord) → is_active actor ≡ false → stopped_record actor ≡ actor
stays_ended actor is = ap (λ (b : Bool). cond b (ended_record status.Stopped actor) actor) is

-- nor is who ended now
ended_stays : (e : Ending) (numbers : List ℕ) (actor : ActorRecord) → stopped_among numbers (ended_by e actor) ≡ ended_by e actor
ended_stays e numbers actor = by_test (is_among numbers (ended_by e actor).number)
  where
    by_test : (b : Bool) → cond b (stopped_record (ended_by e actor)) (ended_by e actor) ≡ ended_by e actor
    by_test true = stays_ended (ended_by e actor) (end_inactive e actor)
    by_test false = refl

pub all_stopped : (numbers : List ℕ) (state : OfficeState) → with_stopped state numbers ≡ record (without_belongings numbers state) { actors = map (stopped_among numbers) state.actors }
all_stopped [] state = ap (λ (actors : List ActorRecord). record state { actors = actors }) (sym (map_same (stopped_among []) (λ actor. refl) state.actors))
all_stopped (number ∷ numbers) state =
    all_stopped numbers (with_end ending.Stopped state number)
    ∙ ap (λ (actors : List ActorRecord). record (without_belongings (number ∷ numbers) state) { actors = actors })
    (map_map (stopped_among numbers) (changed number (ended_by ending.Stopped)) (stopped_among (number ∷ numbers)) (λ actor. by_number actor (nat_eq actor.number number)) state.actors)
  where
    by_number : (actor : ActorRecord) (b : Bool) → stopped_among numbers (cond b (ended_by ending.Stopped actor) actor) ≡ cond (b || is_among numbers actor.number) (stopped_record actor) actor
    by_number actor true = ended_stays ending.Stopped numbers actor
    by_number actor false = refl

-- an actor is the first of its subtree
first_stays : (actors : List ActorRecord) (n : ℕ) (found : List ℕ) → (rest : List ℕ) × (all_below actors (n ∷ found) ≡ n ∷ rest)
first_stays [] n found = (found, refl)
first_stays (actor ∷ actors) n found = by_parent (first_stays actors n) (has_parent_among (n ∷ found) actor)
  where
    by_parent : ((others : List ℕ) → (rest : List ℕ) × (all_below actors (n ∷ others) ≡ n ∷ rest)) → (b : Bool) → (rest : List ℕ) × (all_below actors (cond b (n ∷ (found ++ actor.number ∷ [])) (n ∷ found)) ≡ n ∷ rest)
    by_parent rest true = rest (found ++ actor.number ∷ [])
    by_parent rest false = rest found

pub subtree_first : (state : OfficeState) (number : ℕ) → (rest : List ℕ) × (subtree_of state number ≡ number ∷ rest)
unfolding subtree_of
subtree_first state number = first_stays state.actors number []

filter_twice : {X : Type 0} (p : X → Bool) (xs : List X) → filter p (filter p xs) ≡ filter p xs
filter_twice p xs = filter_filter p p p (λ x b is. by_test (p x) b is) xs
  where
    by_test : (d b : Bool) → d ≡ b → d ≡ cond b d false
    by_test true true is = refl
    by_test false true is = refl
    by_test true false is = is
    by_test false false is = refl

-- to let go of what the first has once or twice is the same
belongings_twice : (number : ℕ) (rest : List ℕ) (state : OfficeState) (actors : List ActorRecord)
    → record (without_belongings (number ∷ rest) (record state { timers = without_owner number state.timers; names = without_holder state.names number })) { actors = actors }
    ≡ record (without_belongings (number ∷ rest) state) { actors = actors }
belongings_twice number rest state actors =
    ap (λ (timers : List Timer). record state { actors = actors; timers = fold (λ (timers : List Timer) (n : ℕ). without_owner n timers) timers rest; names = fold without_holder (without_holder (without_holder state.names number) number) rest })
    (filter_twice (λ (timer : Timer). not (nat_eq timer.owner number)) state.timers)
    ∙ ap (λ (names : List (List ℕ × ℕ)). record state { actors = actors; timers = fold (λ (timers : List Timer) (n : ℕ). without_owner n timers) (without_owner number state.timers) rest; names = fold without_holder names rest })
    (filter_twice (λ (pair : List ℕ × ℕ). not (nat_eq pair.1 number)) state.names)

pub subtree_ended : (e : Ending) (number : ℕ) (state : OfficeState) → with_stopped (with_end e state number) (subtree_of state number) ≡ after_end (ended_by e) number state
unfolding after_end
subtree_ended e number state =
    let numbers : List ℕ = subtree_of state number in
    let rest = subtree_first state number in
    all_stopped numbers (with_end e state number)
    ∙ ap (λ (actors : List ActorRecord). record (without_belongings numbers (with_end e state number)) { actors = actors })
    (map_map (stopped_among numbers) (changed number (ended_by e)) (record_after_end numbers number (ended_by e)) (λ actor. by_number numbers actor (nat_eq actor.number number)) state.actors)
    ∙ belongings numbers rest.0 rest.1 (map (record_after_end numbers number (ended_by e)) state.actors)
  where
    by_number : (numbers : List ℕ) (actor : ActorRecord) (b : Bool) → stopped_among numbers (cond b (ended_by e actor) actor) ≡ cond b (ended_by e actor) (cond (is_among numbers actor.number) (stopped_record actor) actor)
    by_number numbers actor true = ended_stays e numbers actor
    by_number numbers actor false = refl

    belongings : (numbers rest : List ℕ) → numbers ≡ number ∷ rest → (actors : List ActorRecord)
        → record (without_belongings numbers (with_end e state number)) { actors = actors } ≡ record (without_belongings numbers state) { actors = actors }
    belongings numbers rest same actors = rw same (belongings_twice number rest state actors)

-- ---- a child

pub stop_nobody : (state : OfficeState) (parent : ℕ) (id : List ℕ) → is_some (child_named state parent id) ≡ false → state ≡ after_stop parent id state
stop_nobody state parent id none = by_child (child_named state parent id) none
  where
    by_child : (child : Option ℕ) → is_some child ≡ false → state ≡ option_map_or (λ (child : ℕ). with_actor (removed child state) parent (without_kid id)) child state
    by_child None is = refl
    by_child (Some child) is = absurd (cc)

pub stop_one : (state : OfficeState) (parent : ℕ) (id : List ℕ) → is_some (child_named state parent id) ≡ true
    → with_actor (without_actors state (option_map_or (subtree_of state) (child_named state parent id) [])) parent (without_kid id) ≡ after_stop parent id state
stop_one state parent id some = by_child (child_named state parent id) some
  where
    by_child : (child : Option ℕ) → is_some child ≡ true
        → with_actor (without_actors state (option_map_or (subtree_of state) child [])) parent (without_kid id) ≡ option_map_or (λ (child : ℕ). with_actor (removed child state) parent (without_kid id)) child state
    by_child None is = absurd (cc)
    by_child (Some child) is = ap (λ (other : OfficeState). with_actor other parent (without_kid id)) (subtree_removed child state)

-- ---- numbers that are given

removed_next : (child : ℕ) (state : OfficeState) → (removed child state).next_actor ≡ state.next_actor
unfolding removed
removed_next child state = refl

pub next_after_stop : (parent : ℕ) (id : List ℕ) (state : OfficeState) → (after_stop parent id state).next_actor ≡ state.next_actor
next_after_stop parent id state = by_child (child_named state parent id)
  where
    by_child : (child : Option ℕ) → (option_map_or (λ (child : ℕ). with_actor (removed child state) parent (without_kid id)) child state).next_actor ≡ state.next_actor
    by_child None = refl
    by_child (Some child) = removed_next child state

pub next_after_end : (change : ActorRecord → ActorRecord) (number : ℕ) (state : OfficeState) → (after_end change number state).next_actor ≡ state.next_actor
unfolding after_end
next_after_end change number state = refl
