-- What the queue of letters does to the actors that are read from it.
use Rattle.std.proofs.Common.{◌≡◌, ◌≢◌, ℕ, zero, suc, ◌+◌, ◌-◌, ◌<◌, ◌≤◌, Bool, true, false, not, cond, List, [], ◌∷◌, ◌++◌, length, drop, get_or, Option, None, Some, refl, sym, ap, ◌∙◌, eqb, ltb, arith}
use Rattle.std.proofs.lemmas.Bool.{false≢true}
use Rattle.std.proofs.lemmas.List.{length_push}
use Rattle.std.proofs.Math.ListN.{length-set}
use Rattle.std.proofs.lemmas.Bool.Decides.{nat_tests}
use Rattle.std.specs.Prelude.{slice_get, slice_set, nat_eq, nat_le, option_map, option_and_then, find, position, IfSome, IsSome, IsTrue}
use Rattle.std.specs.Option.{option_map_or}
use Rattle.std.specs.List.{position_or_len, remove}
use Rattle.flat_core.specs.declared.flat.FlatMachine.{FlatMachine}
use Rattle.flat_core.specs.declared.office.FlatActor.{FlatActor}
use Rattle.flat_core.specs.declared.office.QueuedLetter.{QueuedLetter}
use Rattle.flat_core.specs.declared.office.Claim.{Claim}
use Rattle.flat_core.specs.Office.{Letter, Actor, Office, changed_at, is_given, actor_of, head_of, earlier_claim, least_head, first_ready, Shown, never, shown_state, value_of}
use Rattle.flat_core.specs.Plan.{head_at}
use Rattle.flat_core.specs.View.{letters_for, actors_from, without_first, IsQueue}

abbrev pub is_for : ℕ → QueuedLetter → Bool
is_for actor letter = nat_eq letter.actor actor

abbrev pub letter_of : QueuedLetter → Letter
letter_of w = record { number = w.number; event = w.event }

-- an actor as it is read from its flat_actor and the queue
abbrev pub seen : List QueuedLetter → ℕ → FlatActor → Actor
seen letters number flat_actor = record { machine = flat_actor.machine; state = flat_actor.state; letters = letters_for number letters }

-- an actor with one more letter
abbrev pub with_one_more : Letter → Actor → Actor
with_one_more letter actor = record { machine = actor.machine; state = actor.state; letters = actor.letters ++ letter ∷ [] }

-- an actor in this state, with its head letter taken
abbrev pub in_state : Option ℕ → Actor → Actor
in_state state actor = record { machine = actor.machine; state = state; letters = drop 1 actor.letters }

abbrev pub flat_actor_in : Option ℕ → FlatActor → FlatActor
flat_actor_in state flat_actor = record { machine = flat_actor.machine; state = state }

-- by both values of a test
pub by_test : {P : Type 0} (b : Bool) → (b ≡ true → P) → (b ≡ false → P) → P
by_test true when otherwise = when refl
by_test false when otherwise = otherwise refl

equal_test : (a b : ℕ) → a ≡ b → eqb a b ≡ true
equal_test a b e = grind (arith, nat_tests)

other_test : (a b : ℕ) → a ≢ b → eqb a b ≡ false
other_test a b e = grind (arith, nat_tests)

pub length-actors_from : (n : ℕ) (flat_actors : List FlatActor) (letters : List QueuedLetter) → length (actors_from n flat_actors letters) ≡ length flat_actors
length-actors_from n [] letters = refl
length-actors_from n (flat_actor ∷ flat_actors) letters = ap suc (length-actors_from (n + 1) flat_actors letters)

pub slice_get-actors_from : (n : ℕ) (flat_actors : List FlatActor) (letters : List QueuedLetter) (k : ℕ) → slice_get (actors_from n flat_actors letters) k ≡ option_map (seen letters (n + k)) (slice_get flat_actors k)
slice_get-actors_from n [] letters k = refl
slice_get-actors_from n (flat_actor ∷ flat_actors) letters zero = ap (λ m. Some (seen letters m flat_actor)) (omega arith)
slice_get-actors_from n (flat_actor ∷ flat_actors) letters (suc k) =
    slice_get-actors_from (n + 1) flat_actors letters k ∙ ap (λ m. option_map (seen letters m) (slice_get flat_actors k)) (omega arith)

-- ---- the queue without a letter

pub without_first-remove : (actor : ℕ) (letters : List QueuedLetter) → position_or_len (is_for actor) letters < length letters → remove letters (position_or_len (is_for actor) letters) ≡ without_first actor letters
without_first-remove actor [] = λ h. absurd (omega arith)
without_first-remove actor (letter ∷ letters) = elim (nat_eq letter.actor actor) as
    (λ b. cond (not b) (1 + position_or_len (is_for actor) letters) 0 < suc (length letters) →
    remove (letter ∷ letters) (cond (not b) (1 + position_or_len (is_for actor) letters) 0) ≡ cond b letters (letter ∷ without_first actor letters)) [
      | true ↦ λ h. refl
      | false ↦ λ h.
          let next : 1 + position_or_len (is_for actor) letters ≡ suc (position_or_len (is_for actor) letters) = omega arith in
          rw next (ap (λ ls. letter ∷ ls) (without_first-remove actor letters (omega arith)))
    ]

pub without_first-same : (actor : ℕ) (letters : List QueuedLetter) → length letters ≤ position_or_len (is_for actor) letters → letters ≡ without_first actor letters
without_first-same actor [] = λ h. refl
without_first-same actor (letter ∷ letters) = elim (nat_eq letter.actor actor) as
    (λ b. suc (length letters) ≤ cond (not b) (1 + position_or_len (is_for actor) letters) 0 → (letter ∷ letters) ≡ cond b letters (letter ∷ without_first actor letters))
    [ true ↦ λ h. absurd (omega arith) | false ↦ λ h. ap (λ ls. letter ∷ ls) (without_first-same actor letters (omega arith)) ]

-- what is left when the first letter of an actor is taken from its place
pub remove-without_first : (actor : ℕ) (letters : List QueuedLetter) (place : ℕ) → position (is_for actor) letters ≡ Some place → remove letters place ≡ without_first actor letters
remove-without_first actor letters place found = by_test (ltb (position_or_len (is_for actor) letters) (length letters))
    (λ e.
    let found' : Some (position_or_len (is_for actor) letters) ≡ Some place = rw e at found in
    let same : position_or_len (is_for actor) letters ≡ place = cc in
    rw (← same) (without_first-remove actor letters (grind (arith, nat_tests))))
    (λ e. let found' : None ≡ Some place = rw e at found in absurd (cc))

pub place-within : (actor : ℕ) (letters : List QueuedLetter) (place : ℕ) → position (is_for actor) letters ≡ Some place → place < length letters
place-within actor letters place found = by_test (ltb (position_or_len (is_for actor) letters) (length letters))
    (λ e.
    let found' : Some (position_or_len (is_for actor) letters) ≡ Some place = rw e at found in
    let same : position_or_len (is_for actor) letters ≡ place = cc in
    rw (← same) (grind (arith, nat_tests)))
    (λ e. let found' : None ≡ Some place = rw e at found in absurd (cc))

pub without_first-none : (actor : ℕ) (letters : List QueuedLetter) → position (is_for actor) letters ≡ None → letters ≡ without_first actor letters
without_first-none actor letters none = by_test (ltb (position_or_len (is_for actor) letters) (length letters))
    (λ e. let none' : Some (position_or_len (is_for actor) letters) ≡ None = rw e at none in absurd (cc))
    (λ e. without_first-same actor letters (grind (arith, nat_tests)))

letters_for-without-own : (n : ℕ) (letters : List QueuedLetter) → letters_for n (without_first n letters) ≡ drop 1 (letters_for n letters)
letters_for-without-own n [] = refl
letters_for-without-own n (letter ∷ letters) =
    by_test (eqb letter.actor n) (λ e. simp e refl) (λ e. simp e (letters_for-without-own n letters))

letters_for-without-other : (n actor : ℕ) (letters : List QueuedLetter) → n ≢ actor → letters_for n (without_first actor letters) ≡ letters_for n letters
letters_for-without-other n actor [] other = refl
letters_for-without-other n actor (letter ∷ letters) other = by_test (eqb letter.actor actor)
    (λ e. let apart : eqb letter.actor n ≡ false = grind (arith, nat_tests) in simp (e, apart) refl)
    (λ e. simp e (ap (λ ls. cond (eqb letter.actor n) (letter_of letter ∷ ls) ls) (letters_for-without-other n actor letters other)))

-- ---- one more letter at the end

letters_for-push-own : (n : ℕ) (letters : List QueuedLetter) (w : QueuedLetter) → w.actor ≡ n → letters_for n (letters ++ w ∷ []) ≡ letters_for n letters ++ letter_of w ∷ []
letters_for-push-own n [] w own = rw (equal_test w.actor n own) refl
letters_for-push-own n (letter ∷ letters) w own = elim (eqb letter.actor n) as
    (λ b. cond b (letter_of letter ∷ letters_for n (letters ++ w ∷ [])) (letters_for n (letters ++ w ∷ [])) ≡ cond b (letter_of letter ∷ letters_for n letters) (letters_for n letters) ++ letter_of w ∷ [])
    [ true ↦ ap (λ ls. letter_of letter ∷ ls) (letters_for-push-own n letters w own) | false ↦ letters_for-push-own n letters w own ]

letters_for-push-other : (n : ℕ) (letters : List QueuedLetter) (w : QueuedLetter) → w.actor ≢ n → letters_for n (letters ++ w ∷ []) ≡ letters_for n letters
letters_for-push-other n [] w other = rw (other_test w.actor n other) refl
letters_for-push-other n (letter ∷ letters) w other =
    ap (λ ls. cond (eqb letter.actor n) (letter_of letter ∷ ls) ls) (letters_for-push-other n letters w other)

-- no letter waits for an actor that there isn't
pub letters_for-none : (n actors least next : ℕ) (letters : List QueuedLetter) → actors < n → IsQueue actors least next letters → letters_for n letters ≡ []
letters_for-none n actors least next [] past queue = refl
letters_for-none n actors least next (letter ∷ letters) past queue =
    let other : letter.actor ≢ n = omega (arith, queue.2) in
    rw (other_test letter.actor n other) (letters_for-none n actors (letter.number + 1) next letters past queue.3)

actors_from-push-past : (n : ℕ) (flat_actors : List FlatActor) (letters : List QueuedLetter) (w : QueuedLetter) → w.actor < n → actors_from n flat_actors (letters ++ w ∷ []) ≡ actors_from n flat_actors letters
actors_from-push-past n [] letters w past = refl
actors_from-push-past n (flat_actor ∷ flat_actors) letters w past =
    let other : w.actor ≢ n = omega arith in
    ap (λ ls. record { machine = flat_actor.machine; state = flat_actor.state; letters = ls } ∷ actors_from (n + 1) flat_actors (letters ++ w ∷ [])) (letters_for-push-other n letters w other)
    ∙ ap (λ more. seen letters n flat_actor ∷ more) (actors_from-push-past (n + 1) flat_actors letters w (omega arith))

pub actors_from-new : (n : ℕ) (flat_actors : List FlatActor) (letters : List QueuedLetter) (flat_actor : FlatActor) (w : QueuedLetter) → w.actor ≡ n + length flat_actors → letters_for w.actor letters ≡ [] →
    actors_from n (flat_actors ++ flat_actor ∷ []) (letters ++ w ∷ []) ≡ actors_from n flat_actors letters ++ record { machine = flat_actor.machine; state = flat_actor.state; letters = letter_of w ∷ [] } ∷ []
actors_from-new n [] letters flat_actor w last none =
    let same : w.actor ≡ n = omega arith in
    ap (λ ls. record { machine = flat_actor.machine; state = flat_actor.state; letters = ls } ∷ [])
    (letters_for-push-own n letters w same ∙ ap (λ ls. ls ++ letter_of w ∷ []) (ap (λ m. letters_for m letters) (sym same) ∙ none))
actors_from-new n (first ∷ flat_actors) letters flat_actor w last none =
    let other : w.actor ≢ n = omega arith in
    ap (λ ls. record { machine = first.machine; state = first.state; letters = ls } ∷ actors_from (n + 1) (flat_actors ++ flat_actor ∷ []) (letters ++ w ∷ [])) (letters_for-push-other n letters w other)
    ∙ ap (λ more. seen letters n first ∷ more) (actors_from-new (n + 1) flat_actors letters flat_actor w (omega arith) none)

pub actors_from-post : (n : ℕ) (flat_actors : List FlatActor) (letters : List QueuedLetter) (w : QueuedLetter) (k : ℕ) → w.actor ≡ n + k → k < length flat_actors →
    actors_from n flat_actors (letters ++ w ∷ []) ≡ changed_at k (with_one_more (letter_of w)) (actors_from n flat_actors letters)
actors_from-post n [] letters w k own within = absurd (omega arith)
actors_from-post n (flat_actor ∷ flat_actors) letters w zero own within =
    let same : w.actor ≡ n = omega arith in
    ap (λ ls. record { machine = flat_actor.machine; state = flat_actor.state; letters = ls } ∷ actors_from (n + 1) flat_actors (letters ++ w ∷ [])) (letters_for-push-own n letters w same)
    ∙ ap (λ more. with_one_more (letter_of w) (seen letters n flat_actor) ∷ more) (actors_from-push-past (n + 1) flat_actors letters w (omega arith))
actors_from-post n (flat_actor ∷ flat_actors) letters w (suc k) own within =
    let other : w.actor ≢ n = omega arith in
    ap (λ ls. record { machine = flat_actor.machine; state = flat_actor.state; letters = ls } ∷ actors_from (n + 1) flat_actors (letters ++ w ∷ [])) (letters_for-push-other n letters w other)
    ∙ ap (λ more. seen letters n flat_actor ∷ more) (actors_from-post (n + 1) flat_actors letters w k (omega arith) (omega arith))

-- ---- a step

actors_from-without-past : (n actor : ℕ) (flat_actors : List FlatActor) (letters : List QueuedLetter) → actor < n → actors_from n flat_actors (without_first actor letters) ≡ actors_from n flat_actors letters
actors_from-without-past n actor [] letters past = refl
actors_from-without-past n actor (flat_actor ∷ flat_actors) letters past =
    let other : n ≢ actor = omega arith in
    ap (λ ls. record { machine = flat_actor.machine; state = flat_actor.state; letters = ls } ∷ actors_from (n + 1) flat_actors (without_first actor letters)) (letters_for-without-other n actor letters other)
    ∙ ap (λ more. seen letters n flat_actor ∷ more) (actors_from-without-past (n + 1) actor flat_actors letters (omega arith))

pub actors_from-step : (n : ℕ) (flat_actors : List FlatActor) (letters : List QueuedLetter) (state : Option ℕ) (actor k : ℕ) → actor ≡ n + k → k < length flat_actors →
    actors_from n (changed_at k (flat_actor_in state) flat_actors) (without_first actor letters) ≡ changed_at k (in_state state) (actors_from n flat_actors letters)
actors_from-step n [] letters state actor k own within = absurd (omega arith)
actors_from-step n (flat_actor ∷ flat_actors) letters state actor zero own within =
    let same : actor ≡ n = omega arith in
    ap (λ ls. record { machine = flat_actor.machine; state = state; letters = ls } ∷ actors_from (n + 1) flat_actors (without_first actor letters))
    (ap (λ m. letters_for n (without_first m letters)) same ∙ letters_for-without-own n letters)
    ∙ ap (λ more. in_state state (seen letters n flat_actor) ∷ more) (actors_from-without-past (n + 1) actor flat_actors letters (omega arith))
actors_from-step n (flat_actor ∷ flat_actors) letters state actor (suc k) own within =
    let other : n ≢ actor = omega arith in
    ap (λ ls. record { machine = flat_actor.machine; state = flat_actor.state; letters = ls } ∷ actors_from (n + 1) (changed_at k (flat_actor_in state) flat_actors) (without_first actor letters)) (letters_for-without-other n actor letters other)
    ∙ ap (λ more. seen letters n flat_actor ∷ more) (actors_from-step (n + 1) flat_actors letters state actor k (omega arith) (omega arith))

-- a write at a place is a change there
pub set-changed_at : {X : Type 0} (change : X → X) (xs : List X) (k : ℕ) (x : X) → k < length xs → x ≡ get_or xs k x → slice_set xs k (change x) ≡ changed_at k change xs
set-changed_at change [] k x within at = absurd (omega arith)
set-changed_at change (y ∷ xs) zero x within at = ap (λ z. change z ∷ xs) at
set-changed_at change (y ∷ xs) (suc k) x within at = ap (λ zs. y ∷ zs) (set-changed_at change xs k x (omega arith) at)

-- changes that agree on the item at the place
pub changed_at-same : {X : Type 0} (f g : X → X) (xs : List X) (k : ℕ) → IfSome (slice_get xs k) (λ x. f x ≡ g x) → changed_at k f xs ≡ changed_at k g xs
changed_at-same f g [] k same = refl
changed_at-same f g (x ∷ xs) zero same = ap (λ y. y ∷ xs) same
changed_at-same f g (x ∷ xs) (suc k) same = ap (λ ys. x ∷ ys) (changed_at-same f g xs k same)

-- ---- the order of the queue

pub queue-push : (actors least next next' : ℕ) (letters : List QueuedLetter) (w : QueuedLetter) → IsQueue actors least next letters → next ≤ w.number → w.number < next' → 0 < w.actor → w.actor ≤ actors →
    IsQueue actors least next' (letters ++ w ∷ [])
queue-push actors least next next' [] w queue from below given there = (omega arith, given, there, omega arith)
queue-push actors least next next' (letter ∷ letters) w queue from below given there =
    (queue.0, queue.1, queue.2, queue-push actors (letter.number + 1) next next' letters w queue.3 from below given there)

pub queue-more_actors : (actors more least next : ℕ) (letters : List QueuedLetter) → actors ≤ more → IsQueue actors least next letters → IsQueue more least next letters
queue-more_actors actors more least next [] wider queue = queue
queue-more_actors actors more least next (letter ∷ letters) wider queue =
    (queue.0, queue.1, omega (arith, queue.2), queue-more_actors actors more (letter.number + 1) next letters wider queue.3)

queue-from_less : (actors less least next : ℕ) (letters : List QueuedLetter) → less ≤ least → IsQueue actors least next letters → IsQueue actors less next letters
queue-from_less actors less least next [] lower queue = omega (arith, queue)
queue-from_less actors less least next (letter ∷ letters) lower queue = (omega (arith, queue.0), queue.1, queue.2, queue.3)

pub queue-without : (actors least next actor : ℕ) (letters : List QueuedLetter) → IsQueue actors least next letters → IsQueue actors least next (without_first actor letters)
queue-without actors least next actor [] queue = queue
queue-without actors least next actor (letter ∷ letters) queue = by_test (eqb letter.actor actor)
    (λ e. simp e (queue-from_less actors least (letter.number + 1) next letters (omega (arith, queue.0)) queue.3))
    (λ e. simp e (queue.0, queue.1, queue.2, queue-without actors (letter.number + 1) next actor letters queue.3))

-- ---- the head letter of an actor

-- the first letter in the queue for an actor is the head of its mailbox
pub letters_for-find : (n : ℕ) (letters : List QueuedLetter) → slice_get (letters_for n letters) 0 ≡ option_map letter_of (find (is_for n) letters)
letters_for-find n [] = refl
letters_for-find n (letter ∷ letters) = by_test (eqb letter.actor n) (λ e. simp e refl) (λ e. simp e (letters_for-find n letters))

-- a letter that is found is for that actor, which is there
pub found-given : (n actors least next : ℕ) (letters : List QueuedLetter) → IsQueue actors least next letters → IfSome (find (is_for n) letters) (λ letter. (0 < n) × (n ≤ actors))
found-given n actors least next [] queue = tt
found-given n actors least next (letter ∷ letters) queue = by_test (eqb letter.actor n)
    (λ e. simp e (let same : letter.actor ≡ n = grind (arith, nat_tests) in (omega (arith, queue.1), omega (arith, queue.2))))
    (λ e. simp e (found-given n actors (letter.number + 1) next letters queue.3))

-- the letters of an actor have no lesser number than the queue
letters_for-from : (n actors least next : ℕ) (letters : List QueuedLetter) → IsQueue actors least next letters → IfSome (slice_get (letters_for n letters) 0) (λ letter. least ≤ letter.number)
letters_for-from n actors least next [] queue = tt
letters_for-from n actors least next (letter ∷ letters) queue = by_test (eqb letter.actor n)
    (λ e. simp e queue.0)
    (λ e. simp e (from_less (slice_get (letters_for n letters) 0) least (letter.number + 1) (omega (arith, queue.0)) (letters_for-from n actors (letter.number + 1) next letters queue.3)))
  where
    from_less : (head : Option Letter) (less least : ℕ) → less ≤ least → IfSome head (λ letter. least ≤ letter.number) → IfSome head (λ letter. less ≤ letter.number)
    from_less None less least lower from = tt
    from_less (Some letter) less least lower from = omega (arith, from)

-- ---- the next actor

earlier_claim-first : (claim : Claim) (other : Option Claim) → IfSome other (λ o. claim.letter < o.letter) → earlier_claim (Some claim) other ≡ Some claim
earlier_claim-first claim None later = refl
earlier_claim-first claim (Some other) later = let e : ltb other.letter claim.letter ≡ false = grind (arith, nat_tests, later) in rw e refl

earlier_claim-second : (claim : Option Claim) (other : Claim) → IfSome claim (λ c. other.letter < c.letter) → earlier_claim claim (Some other) ≡ Some other
earlier_claim-second None other later = refl
earlier_claim-second (Some claim) other later = let e : ltb other.letter claim.letter ≡ true = grind (arith, nat_tests, later) in rw e refl

pub least_head-none : (n : ℕ) (flat_actors : List FlatActor) → least_head n (actors_from n flat_actors []) ≡ None
least_head-none n [] = refl
least_head-none n (flat_actor ∷ flat_actors) = least_head-none (n + 1) flat_actors

-- the claim of an actor by its head letter, if it has one
abbrev pub claim_of : List QueuedLetter → ℕ → FlatActor → Option Claim
claim_of letters n flat_actor = option_map (λ letter. record { actor = n; letter = letter }) (head_of (seen letters n flat_actor))

-- another actor than the first letter's has no lesser head
claim_of-later : (n actors next : ℕ) (flat_actor : FlatActor) (w : QueuedLetter) (letters : List QueuedLetter) → w.actor ≢ n → IsQueue actors (w.number + 1) next letters → IfSome (claim_of (w ∷ letters) n flat_actor) (λ claim. w.number < claim.letter)
claim_of-later n actors next flat_actor w letters other queue =
    rw (other_test w.actor n other) (read (slice_get (letters_for n letters) 0) (letters_for-from n actors (w.number + 1) next letters queue))
  where
    read : (head : Option Letter) → IfSome head (λ letter. w.number + 1 ≤ letter.number) →
        IfSome (option_map (λ letter. let claim : Claim = record { actor = n; letter = letter } in claim) (option_map (λ letter. letter.number) head)) (λ claim. w.number < claim.letter)
    read None from = tt
    read (Some letter) from = omega (arith, from)

earlier_claim-later : (bound : ℕ) (a b : Option Claim) → IfSome a (λ claim. bound < claim.letter) → IfSome b (λ claim. bound < claim.letter) → IfSome (earlier_claim a b) (λ claim. bound < claim.letter)
earlier_claim-later bound None b below below' = below'
earlier_claim-later bound (Some a) None below below' = below
earlier_claim-later bound (Some a) (Some b) below below' = by_test (ltb b.letter a.letter) (λ e. rw e below') (λ e. rw e below)

least_head-later : (n actors next : ℕ) (flat_actors : List FlatActor) (w : QueuedLetter) (letters : List QueuedLetter) → w.actor < n → IsQueue actors (w.number + 1) next letters →
    IfSome (least_head n (actors_from n flat_actors (w ∷ letters))) (λ claim. w.number < claim.letter)
least_head-later n actors next [] w letters past queue = tt
least_head-later n actors next (flat_actor ∷ flat_actors) w letters past queue = earlier_claim-later w.number (claim_of (w ∷ letters) n flat_actor) _
    (claim_of-later n actors next flat_actor w letters (omega arith) queue)
    (least_head-later (n + 1) actors next flat_actors w letters (omega arith) queue)

-- the first letter of the queue is the least head
pub least_head-first : (n actors next : ℕ) (flat_actors : List FlatActor) (w : QueuedLetter) (letters : List QueuedLetter) (k : ℕ) → w.actor ≡ n + k → k < length flat_actors → IsQueue actors (w.number + 1) next letters →
    least_head n (actors_from n flat_actors (w ∷ letters)) ≡ Some (record { actor = w.actor; letter = w.number })
least_head-first n actors next [] w letters k own within queue = absurd (omega arith)
least_head-first n actors next (flat_actor ∷ flat_actors) w letters zero own within queue =
    let same : w.actor ≡ n = omega arith in
    let claim : Claim = record { actor = n; letter = w.number } in
    rw (equal_test w.actor n same)
    (earlier_claim-first claim (least_head (n + 1) (actors_from (n + 1) flat_actors (w ∷ letters))) (least_head-later (n + 1) actors next flat_actors w letters (omega arith) queue)
    ∙ ap (λ m. Some (record { actor = m; letter = w.number })) (sym same))
least_head-first n actors next (flat_actor ∷ flat_actors) w letters (suc k) own within queue =
    let other : w.actor ≢ n = omega arith in
    ap (earlier_claim (claim_of (w ∷ letters) n flat_actor)) (least_head-first (n + 1) actors next flat_actors w letters k (omega arith) (omega arith) queue)
    ∙ earlier_claim-second (claim_of (w ∷ letters) n flat_actor) (record { actor = w.actor; letter = w.number }) (claim_of-later n actors next flat_actor w letters other queue)

-- ---- the three changes of an office, on the parts that are kept

pub queue-begin : (flat_actors : List FlatActor) (letters : List QueuedLetter) (flat_actor : FlatActor) (w : QueuedLetter) (next : ℕ) → w.number ≡ next → w.actor ≡ length flat_actors + 1 → IsQueue (length flat_actors) 1 next letters →
    IsQueue (length (flat_actors ++ flat_actor ∷ [])) 1 (next + 1) (letters ++ w ∷ [])
queue-begin flat_actors letters flat_actor w next numbered last queue =
    let long : length (flat_actors ++ flat_actor ∷ []) ≡ length flat_actors + 1 = length_push flat_actors flat_actor in
    rw long (queue-push (length flat_actors + 1) 1 next (next + 1) letters w (queue-more_actors (length flat_actors) (length flat_actors + 1) 1 next letters (omega arith) queue) (omega arith) (omega arith) (omega arith) (omega arith))

pub actors-begin : (flat_actors : List FlatActor) (letters : List QueuedLetter) (flat_actor : FlatActor) (w : QueuedLetter) (next : ℕ) → w.actor ≡ length flat_actors + 1 → IsQueue (length flat_actors) 1 next letters →
    actors_from 1 (flat_actors ++ flat_actor ∷ []) (letters ++ w ∷ []) ≡ actors_from 1 flat_actors letters ++ record { machine = flat_actor.machine; state = flat_actor.state; letters = letter_of w ∷ [] } ∷ []
actors-begin flat_actors letters flat_actor w next last queue =
    actors_from-new 1 flat_actors letters flat_actor w (omega arith) (letters_for-none w.actor (length flat_actors) 1 next letters (omega arith) queue)

-- a number that is given is the place of a flat_actor, from 1
pub given-within : (flat_actors : List FlatActor) (letters : List QueuedLetter) (next actor : ℕ) → IsTrue (is_given (record { actors = actors_from 1 flat_actors letters; next_letter = next }) actor) → (0 < actor) × (actor ≤ length flat_actors)
given-within flat_actors letters next actor given = grind (arith, nat_tests, length-actors_from 1 flat_actors letters)

pub queue-post : (flat_actors : List FlatActor) (letters : List QueuedLetter) (w : QueuedLetter) (next : ℕ) → w.number ≡ next → 0 < w.actor → w.actor ≤ length flat_actors → IsQueue (length flat_actors) 1 next letters →
    IsQueue (length flat_actors) 1 (next + 1) (letters ++ w ∷ [])
queue-post flat_actors letters w next numbered given there queue = queue-push (length flat_actors) 1 next (next + 1) letters w queue (omega arith) (omega arith) given there

pub queue-step : (flat_actors : List FlatActor) (letters : List QueuedLetter) (flat_actor : FlatActor) (next actor k : ℕ) → IsQueue (length flat_actors) 1 next letters → IsQueue (length (slice_set flat_actors k flat_actor)) 1 next (without_first actor letters)
queue-step flat_actors letters flat_actor next actor k queue =
    rw (length-set {A = FlatActor}) (queue-without (length flat_actors) 1 next actor letters queue)

pub actors-step : (flat_actors : List FlatActor) (letters : List QueuedLetter) (flat_actor : FlatActor) (state : Option ℕ) (actor : ℕ) → 0 < actor → actor ≤ length flat_actors → flat_actor ≡ get_or flat_actors (actor - 1) flat_actor →
    actors_from 1 (slice_set flat_actors (actor - 1) (flat_actor_in state flat_actor)) (without_first actor letters) ≡ changed_at (actor - 1) (in_state state) (actors_from 1 flat_actors letters)
actors-step flat_actors letters flat_actor state actor given there at =
    ap (λ more. actors_from 1 more (without_first actor letters)) (set-changed_at (flat_actor_in state) flat_actors (actor - 1) flat_actor (omega arith) at)
    ∙ actors_from-step 1 flat_actors letters state actor (actor - 1) (omega arith) (omega arith)

-- ---- what is read of an office through its flat_actors and its queue

abbrev pub read_office : List FlatActor → List QueuedLetter → ℕ → Office
read_office flat_actors letters next = record { actors = actors_from 1 flat_actors letters; next_letter = next }

-- the actor of a number is read from the flat_actor of that number
pub actor_of-flat_actor : (flat_actors : List FlatActor) (letters : List QueuedLetter) (next actor : ℕ) →
    actor_of (read_office flat_actors letters next) actor ≡ option_map (seen letters actor) (cond (ltb 0 actor) (slice_get flat_actors (actor - 1)) None)
actor_of-flat_actor flat_actors letters next actor = by_test (ltb 0 actor)
    (λ e. rw e (slice_get-actors_from 1 flat_actors letters (actor - 1) ∙ ap (λ m. option_map (seen letters m) (slice_get flat_actors (actor - 1))) (let positive : 0 < actor = grind (arith, nat_tests) in omega arith)))
    (λ e. rw e refl)

-- nothing is no item
pub none_some : {X : Type 0} {x : X} → None ≡ Some x → ⊥
none_some e = cc

-- what is shown of an actor, if there is one
abbrev shown_of : List FlatMachine → Option Actor → Shown
shown_of machines actor = option_map_or (λ a. shown_state (slice_get machines a.machine) a.state) actor never

-- there is an item at a place below the length
pub get-within : {X : Type 0} (xs : List X) (k : ℕ) → k < length xs → IsSome (slice_get xs k)
get-within [] k within = absurd (omega arith)
get-within (x ∷ xs) zero within = refl
get-within (x ∷ xs) (suc k) within = get-within xs k (omega arith)

-- the head letter of an actor is the first one for it in the queue
pub head_at-find : (flat_actors : List FlatActor) (letters : List QueuedLetter) (next actor : ℕ) → IsQueue (length flat_actors) 1 next letters → head_at (read_office flat_actors letters next) actor ≡ option_map (λ w. w.number) (find (is_for actor) letters)
head_at-find flat_actors letters next actor queue =
    ap (option_and_then head_of) (actor_of-flat_actor flat_actors letters next actor)
    ∙ head (cond (ltb 0 actor) (slice_get flat_actors (actor - 1)) None) (find (is_for actor) letters) (letters_for-find actor letters) (seated (find (is_for actor) letters) (found-given actor (length flat_actors) 1 next letters queue))
  where
    seated : (found : Option QueuedLetter) → IfSome found (λ letter. (0 < actor) × (actor ≤ length flat_actors)) → IfSome found (λ letter. IsSome (cond (ltb 0 actor) (slice_get flat_actors (actor - 1)) None))
    seated None given = tt
    seated (Some w) given = let e : ltb 0 actor ≡ true = grind (arith, nat_tests, given.0) in rw e (get-within flat_actors (actor - 1) (omega (arith, given.0, given.1)))

    head : (flat_actor : Option FlatActor) (found : Option QueuedLetter) → slice_get (letters_for actor letters) 0 ≡ option_map letter_of found → IfSome found (λ letter. IsSome flat_actor) →
        option_and_then head_of (option_map (seen letters actor) flat_actor) ≡ option_map (λ w. w.number) found
    head None None first there = refl
    head None (Some w) first there = absurd (false≢true there)
    head (Some flat_actor) None first there = ap (option_map (λ letter. letter.number)) first
    head (Some flat_actor) (Some w) first there = ap (option_map (λ letter. letter.number)) first

pub first_ready-none : (flat_actors : List FlatActor) (letters : List QueuedLetter) (next : ℕ) → None ≡ slice_get letters 0 → None ≡ first_ready (read_office flat_actors letters next)
first_ready-none flat_actors [] next empty = sym (least_head-none 1 flat_actors)
first_ready-none flat_actors (w ∷ letters) next empty = absurd (none_some empty)

pub first_ready-some : (flat_actors : List FlatActor) (letters : List QueuedLetter) (next : ℕ) (w : QueuedLetter) → Some w ≡ slice_get letters 0 → IsQueue (length flat_actors) 1 next letters →
    Some (record { actor = w.actor; letter = w.number }) ≡ first_ready (read_office flat_actors letters next)
first_ready-some flat_actors [] next w at queue = absurd (none_some (sym at))
first_ready-some flat_actors (first ∷ letters) next w at queue =
    let same : w ≡ first = cc in
    ap (λ (x : QueuedLetter). let claim : Claim = record { actor = x.actor; letter = x.number } in Some claim) same
    ∙ sym (least_head-first 1 (length flat_actors) next flat_actors first letters (first.actor - 1) (omega (arith, queue.1)) (omega (arith, queue.1, queue.2)) queue.3)

-- ---- what is shown of an actor

pub value_of-none : (machines : List FlatMachine) (flat_actors : List FlatActor) (letters : List QueuedLetter) (next actor : ℕ) → None ≡ cond (ltb 0 actor) (slice_get flat_actors (actor - 1)) None → never ≡ value_of machines (read_office flat_actors letters next) actor
value_of-none machines flat_actors letters next actor none =
    ap (λ flat_actor. shown_of machines (option_map (seen letters actor) flat_actor)) none ∙ ap (shown_of machines) (sym (actor_of-flat_actor flat_actors letters next actor))

pub value_of-some : (machines : List FlatMachine) (flat_actors : List FlatActor) (letters : List QueuedLetter) (next actor : ℕ) (flat_actor : FlatActor) → Some flat_actor ≡ cond (ltb 0 actor) (slice_get flat_actors (actor - 1)) None →
    shown_state (slice_get machines flat_actor.machine) flat_actor.state ≡ value_of machines (read_office flat_actors letters next) actor
value_of-some machines flat_actors letters next actor flat_actor there =
    ap (λ flat_actor. shown_of machines (option_map (seen letters actor) flat_actor)) there ∙ ap (shown_of machines) (sym (actor_of-flat_actor flat_actors letters next actor))

-- a number is given where it is the place of a flat_actor, from 1
pub given-test : (flat_actors : List FlatActor) (letters : List QueuedLetter) (next actor : ℕ) → 0 < actor → nat_le actor (length flat_actors) ≡ is_given (read_office flat_actors letters next) actor
given-test flat_actors letters next actor positive =
    let e : ltb 0 actor ≡ true = grind (arith, nat_tests) in
    rw e (ap (nat_le actor) (sym (length-actors_from 1 flat_actors letters)))
