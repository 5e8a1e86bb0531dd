-- The numbers of records and letters stay in order.
use Rattle.std.proofs.Common.{◌≡◌, ℕ, suc, zero, ◌+◌, ◌<◌, ◌≤◌, Bool, true, false, cond, not, List, [], ◌∷◌, ◌++◌, length, map, drop, refl, sym, subst, ◌∙◌, arith}
use Rattle.std.specs.Prelude.{◌≢◌, AllPairs, Some, filter, nat_eq, if◌then◌else◌}
use Rattle.std.specs.List.{AllByRecursion}
use Rattle.std.specs.List.Sorted.{IsStrictlyIncreasing}
use Rattle.std.proofs.lemmas.Bool.{eqb-true}
use Rattle.std.proofs.lemmas.List.Elements.{All-from_recursion, recursion_from_All}
use Rattle.std.proofs.lemmas.List.Kept.{AllPairs-from_increasing}
use Rattle.office_types.specs.declared.office.ActorRecord.{ActorRecord}
use Rattle.office_types.specs.declared.office.Letter.{Letter}
use Rattle.office_types.specs.declared.office.OfficeState.{OfficeState}
use Rattle.office_types.specs.declared.office.Status.TheVariants as status
use Rattle.office_types.specs.Effects.{fresh_record, with_kid, without_kid}
use Rattle.office_types.specs.Ends.{after_end, done_record, ended_record, error_record, is_among, record_after_end, removed, stopped_record, subtree_of}
use Rattle.office_types.specs.Entries.{after}
use Rattle.office_types.specs.Laws.{AreNumbersInOrder, NumbersAreInOrder}
use Rattle.office_types.specs.Mailboxes.{with_mail}
use Rattle.office_types.specs.Records.{is_active}
use Rattle.office_types.specs.ValidOffice.{letters_of}
use Rattle.office_types.proofs.ChangeLemmas.{IsKept, entries_keep}
use Rattle.office_types.proofs.LetterLemmas.{by_mailbox, of_mailboxes}
use Rattle.office_types.proofs.RecordLemmas.{all_both, all_drop, all_filter, all_join, all_map, all_split, all_weaker, one_more}

-- ---- each element and each later one

abbrev pub PairsByRecursion : {X : Type 0} → (X → X → Type 0) → List X → Type 0
PairsByRecursion R [] = Unit {0}
PairsByRecursion R (x ∷ xs) = AllByRecursion (R x) xs × PairsByRecursion R xs

pairs_drop : {X : Type 0} (R : X → X → Type 0) (k : ℕ) (xs : List X) → PairsByRecursion R xs → PairsByRecursion R (drop k xs)
pairs_drop R zero xs pairs = pairs
pairs_drop R (suc k) [] pairs = tt
pairs_drop R (suc k) (x ∷ xs) pairs = pairs_drop R k xs pairs.1

pairs_more : {X : Type 0} (R : X → X → Type 0) (xs : List X) (x : X) → PairsByRecursion R xs → AllByRecursion (λ y. R y x) xs → PairsByRecursion R (xs ++ x ∷ [])
pairs_more R [] x pairs all = (tt, tt)
pairs_more R (y ∷ xs) x pairs all = (one_more (R y) xs x pairs.0 all.0, pairs_more R xs x pairs.1 all.1)

pub pairs_map : {X Y : Type 0} (R : X → X → Type 0) (S : Y → Y → Type 0) (f : X → Y) → ((x y : X) → R x y → S (f x) (f y)) → (xs : List X) → PairsByRecursion R xs → PairsByRecursion S (map f xs)
pairs_map R S f each [] pairs = tt
pairs_map R S f each (x ∷ xs) pairs = (all_map (R x) (S (f x)) f (each x) xs pairs.0, pairs_map R S f each xs pairs.1)

pairs_filter : {X : Type 0} (R : X → X → Type 0) (test : X → Bool) (xs : List X) → PairsByRecursion R xs → PairsByRecursion R (filter test xs)
pairs_filter R test [] pairs = tt
pairs_filter {X} R test (x ∷ xs) pairs = by_test (pairs_filter R test xs pairs.1) (test x) where
  by_test : PairsByRecursion R (filter test xs) → (b : Bool) → PairsByRecursion R (cond b (x ∷ filter test xs) (filter test xs))
  by_test rest true = (all_filter (R x) test xs pairs.0, rest)
  by_test rest false = rest

pub pairs_weaker : {X : Type 0} (R S : X → X → Type 0) → ((x y : X) → R x y → S x y) → (xs : List X) → PairsByRecursion R xs → PairsByRecursion S xs
pairs_weaker R S weaker [] pairs = tt
pairs_weaker R S weaker (x ∷ xs) pairs = (all_weaker (R x) (S x) (weaker x) xs pairs.0, pairs_weaker R S weaker xs pairs.1)

pairs_from : {X : Type 0} (R : X → X → Type 0) (xs : List X) → AllPairs R xs → PairsByRecursion R xs
pairs_from R [] pairs = tt
pairs_from R (x ∷ xs) pairs = (
  recursion_from_All (R x) xs (λ k d within. pairs 0 (suc k) d (omega arith) (omega arith)),
  pairs_from R xs (λ i j d less within. pairs (suc i) (suc j) d (omega arith) (omega arith)),
)

pub pairs_at : {X : Type 0} (R : X → X → Type 0) (xs : List X) → PairsByRecursion R xs → AllPairs R xs
pairs_at R [] pairs i j d less within = absurd (omega arith)
pairs_at R (x ∷ xs) pairs i zero d less within = absurd (omega arith)
pairs_at R (x ∷ xs) pairs zero (suc j) d less within = All-from_recursion (R x) xs pairs.0 j d (omega arith)
pairs_at R (x ∷ xs) pairs (suc i) (suc j) d less within = pairs_at R xs pairs.1 i j d (omega arith) (omega arith)

-- ---- mailboxes

-- the numbers of letters rise
abbrev pub Rise : List Letter → Type 0
Rise letters = PairsByRecursion (λ (l m : Letter). l.number < m.number) letters

-- no letter of the one list has the number of one of the other
abbrev pub Differ : List Letter → List Letter → Type 0
Differ letters others = AllByRecursion (λ (l : Letter). AllByRecursion (λ (m : Letter). l.number ≢ m.number) others) letters

-- a record and a later one
abbrev pub Before : ActorRecord → ActorRecord → Type 0
Before actor later = (actor.number < later.number) × Differ actor.mailbox later.mailbox

-- a record by itself
abbrev pub Single : ℕ → ℕ → ActorRecord → Type 0
Single next_actor next_letter actor = (actor.number < next_actor) × Rise actor.mailbox × AllByRecursion (λ (l : Letter). l.number < next_letter) actor.mailbox

-- all numbers are in order
abbrev pub InOrder : OfficeState → Type 0
InOrder state = AllByRecursion (Single state.next_actor state.next_letter) state.actors × PairsByRecursion Before state.actors

-- the record has letters fewer, from the front
abbrev Shrunk : ActorRecord → ActorRecord → Type 0
Shrunk actor other = (k : ℕ) × (other.number ≡ actor.number) × (other.mailbox ≡ drop k actor.mailbox)

drop_all : (letters : List Letter) → [] ≡ drop (length letters) letters
drop_all [] = refl
drop_all (l ∷ letters) = drop_all letters

differ_drop : (k j : ℕ) (letters others : List Letter) → Differ letters others → Differ (drop k letters) (drop j others)
differ_drop k j letters others differ =
    all_drop (λ (l : Letter). AllByRecursion (λ (m : Letter). l.number ≢ m.number) (drop j others)) k letters
    (all_weaker (λ (l : Letter). AllByRecursion (λ (m : Letter). l.number ≢ m.number) others) (λ (l : Letter). AllByRecursion (λ (m : Letter). l.number ≢ m.number) (drop j others))
    (λ l all. all_drop (λ (m : Letter). l.number ≢ m.number) j others all) letters differ)

single_shrinks : (a n : ℕ) (actor other : ActorRecord) → Shrunk actor other → Single a n actor → Single a n other
single_shrinks a n actor other shrunk is = (
  subst (λ (k : ℕ). k < a) (sym shrunk.1) is.0,
  subst Rise (sym shrunk.2) (pairs_drop (λ (l m : Letter). l.number < m.number) shrunk.0 actor.mailbox is.1),
  subst (λ (letters : List Letter). AllByRecursion (λ (l : Letter). l.number < n) letters) (sym shrunk.2) (all_drop (λ (l : Letter). l.number < n) shrunk.0 actor.mailbox is.2),
)

before_shrinks : (a a' b b' : ActorRecord) → Shrunk a a' → Shrunk b b' → Before a b → Before a' b'
before_shrinks a a' b b' one other is = (
  (let first : a'.number ≡ a.number = one.1 in let second : b'.number ≡ b.number = other.1 in omega arith),
  subst (λ (letters : List Letter). Differ letters b'.mailbox) (sym one.2)
      (subst (λ (letters : List Letter). Differ (drop one.0 a.mailbox) letters) (sym other.2) (differ_drop one.0 other.0 a.mailbox b.mailbox is.1)),
)

-- each record keeps its number, and has letters fewer or none
order_shrinks : (f : ActorRecord → ActorRecord) → ((actor : ActorRecord) → Shrunk actor (f actor)) → (a n : ℕ) (actors : List ActorRecord)
    → AllByRecursion (Single a n) actors × PairsByRecursion Before actors → AllByRecursion (Single a n) (map f actors) × PairsByRecursion Before (map f actors)
order_shrinks f shrinks a n actors is = (
  all_map (Single a n) (Single a n) f (λ actor single. single_shrinks a n actor (f actor) (shrinks actor) single) actors is.0,
  pairs_map Before Before f (λ actor later before. before_shrinks actor (f actor) later (f later) (shrinks actor) (shrinks later) before) actors is.1,
)

if_shrunk : (test : Bool) (actor one other : ActorRecord) → Shrunk actor one → Shrunk actor other → Shrunk actor (if test then one else other)
if_shrunk true actor one other is is' = is
if_shrunk false actor one other is is' = is'

at_number_shrinks : (number : ℕ) (change : ActorRecord → ActorRecord) → ((actor : ActorRecord) → Shrunk actor (change actor)) → (a n : ℕ) (actors : List ActorRecord)
    → AllByRecursion (Single a n) actors × PairsByRecursion Before actors
    → AllByRecursion (Single a n) (map (λ (actor : ActorRecord). if nat_eq actor.number number then change actor else actor) actors)
    × PairsByRecursion Before (map (λ (actor : ActorRecord). if nat_eq actor.number number then change actor else actor) actors)
at_number_shrinks number change shrinks a n actors is =
    order_shrinks (λ (actor : ActorRecord). if nat_eq actor.number number then change actor else actor)
    (λ actor. if_shrunk (nat_eq actor.number number) actor (change actor) actor (shrinks actor) (0, refl, refl)) a n actors is

emptied : (actor other : ActorRecord) → other.number ≡ actor.number → other.mailbox ≡ [] → Shrunk actor other
emptied actor other same empty = (length actor.mailbox, same, empty ∙ drop_all actor.mailbox)

end_shrinks : (subtree : List ℕ) (number : ℕ) (end : ActorRecord → ActorRecord) → ((actor : ActorRecord) → Shrunk actor (end actor)) → (actor : ActorRecord) → Shrunk actor (record_after_end subtree number end actor)
end_shrinks subtree number end ends actor =
    if_shrunk (nat_eq actor.number number) actor (end actor) _ (ends actor)
    (if_shrunk (is_among subtree actor.number) actor (stopped_record actor) actor
    (if_shrunk (is_active actor) actor (ended_record status.Stopped actor) actor (emptied actor (ended_record status.Stopped actor) refl refl) (0, refl, refl))
    (0, refl, refl))

-- ---- a letter more

differ_more : (n : ℕ) (letter : Letter) (letters others : List Letter) → letter.number ≡ n → AllByRecursion (λ (l : Letter). l.number < n) letters → Differ letters others → Differ letters (others ++ letter ∷ [])
differ_more n letter [] others is below differ = tt
differ_more n letter (l ∷ letters) others is below differ = (
  one_more (λ (m : Letter). l.number ≢ m.number) others letter differ.0 (λ same. let less : l.number < n = below.0 in absurd (omega arith)),
  differ_more n letter letters others is below.1 differ.1,
)

more_differ : (n : ℕ) (letter : Letter) (letters others : List Letter) → letter.number ≡ n → AllByRecursion (λ (l : Letter). l.number < n) others → Differ letters others → Differ (letters ++ letter ∷ []) others
more_differ n letter letters others is below differ =
    one_more (λ (l : Letter). AllByRecursion (λ (m : Letter). l.number ≢ m.number) others) letters letter differ
    (all_weaker (λ (l : Letter). l.number < n) (λ (m : Letter). letter.number ≢ m.number) (λ m less same. absurd (omega arith)) others below)

module _ (number next_actor : ℕ) (letter : Letter) where
  single_gets : (actor : ActorRecord) → Single next_actor letter.number actor → Single next_actor (letter.number + 1) (if nat_eq actor.number number then with_mail letter actor else actor)
  single_gets actor is = by_test (nat_eq actor.number number) where
    below : AllByRecursion (λ (l : Letter). l.number < letter.number + 1) actor.mailbox
    below = all_weaker (λ (l : Letter). l.number < letter.number) (λ (l : Letter). l.number < letter.number + 1) (λ l less. omega arith) actor.mailbox is.2

    by_test : (test : Bool) → Single next_actor (letter.number + 1) (if test then with_mail letter actor else actor)
    by_test true = (
      is.0,
      pairs_more (λ (l m : Letter). l.number < m.number) actor.mailbox letter is.1 is.2,
      one_more (λ (l : Letter). l.number < letter.number + 1) actor.mailbox letter below (omega arith),
    )
    by_test false = (is.0, is.1, below)

  before_gets : (actor later : ActorRecord) → Before actor later → Single next_actor letter.number actor → Single next_actor letter.number later
      → Before (if nat_eq actor.number number then with_mail letter actor else actor) (if nat_eq later.number number then with_mail letter later else later)
  before_gets actor later before one other = by_tests (nat_eq actor.number number) refl (nat_eq later.number number) refl where
    by_tests : (test : Bool) → nat_eq actor.number number ≡ test → (test' : Bool) → nat_eq later.number number ≡ test' → Before (if test then with_mail letter actor else actor) (if test' then with_mail letter later else later)
    by_tests true is true is' =
        let first : actor.number ≡ number = eqb-true actor.number number is in let second : later.number ≡ number = eqb-true later.number number is' in
        let less : actor.number < later.number = before.0 in absurd (omega arith)
    by_tests true is false is' = (before.0, more_differ letter.number letter actor.mailbox later.mailbox refl other.2 before.1)
    by_tests false is true is' = (before.0, differ_more letter.number letter actor.mailbox later.mailbox refl one.2 before.1)
    by_tests false is false is' = before

  pairs_get : (actors : List ActorRecord) → AllByRecursion (Single next_actor letter.number) actors → PairsByRecursion Before actors
      → PairsByRecursion Before (map (λ (actor : ActorRecord). if nat_eq actor.number number then with_mail letter actor else actor) actors)
  pairs_get [] single pairs = tt
  pairs_get (actor ∷ actors) single pairs = (
    all_map (λ (later : ActorRecord). Before actor later × Single next_actor letter.number later)
        (λ (later : ActorRecord). Before (if nat_eq actor.number number then with_mail letter actor else actor) later)
        (λ (later : ActorRecord). if nat_eq later.number number then with_mail letter later else later)
        (λ later both. before_gets actor later both.0 single.0 both.1) actors
        (all_both (Before actor) (Single next_actor letter.number) actors pairs.0 single.1),
    pairs_get actors single.1 pairs.1,
  )

-- ---- a record more

single_grows : (a a' n n' : ℕ) → a ≤ a' → n ≤ n' → (actor : ActorRecord) → Single a n actor → Single a' n' actor
single_grows a a' n n' more more' actor is = (
  (let less : actor.number < a = is.0 in omega arith),
  is.1,
  all_weaker (λ (l : Letter). l.number < n) (λ (l : Letter). l.number < n') (λ l less. omega arith) actor.mailbox is.2,
)

differ_none : (letters : List Letter) → Differ letters []
differ_none [] = tt
differ_none (l ∷ letters) = (tt, differ_none letters)

pub order_kept : IsKept InOrder
unfolding removed after_end
order_kept = record {
  letter = λ state from number event is.
      let letter : Letter = record { number = state.next_letter; origin = from; event = event } in (
        all_map (Single state.next_actor state.next_letter) (Single state.next_actor (state.next_letter + 1)) (λ (actor : ActorRecord). if nat_eq actor.number number then with_mail letter actor else actor)
            (single_gets number state.next_actor letter) state.actors is.0,
        pairs_get number state.next_actor letter state.actors is.0 is.1,
      );
  timers = λ state timers next is. is;
  own = λ state number own is. at_number_shrinks number (λ (actor : ActorRecord). record actor { own = Some own }) (λ actor. (0, refl, refl)) state.next_actor state.next_letter state.actors is;
  head = λ state number is. at_number_shrinks number (λ (actor : ActorRecord). record actor { mailbox = drop 1 actor.mailbox }) (λ actor. (1, refl, refl)) state.next_actor state.next_letter state.actors is;
  born = λ state parent system own item is.
      let actor : ActorRecord = fresh_record state.next_actor parent system own item in (
        one_more (Single (state.next_actor + 1) state.next_letter) state.actors actor
            (all_weaker (Single state.next_actor state.next_letter) (Single (state.next_actor + 1) state.next_letter)
            (single_grows state.next_actor (state.next_actor + 1) state.next_letter state.next_letter (omega arith) (omega arith)) state.actors is.0)
            (omega arith, tt, tt),
        pairs_more Before state.actors actor is.1
            (all_weaker (Single state.next_actor state.next_letter) (λ (earlier : ActorRecord). Before earlier actor) (λ earlier single. (single.0, differ_none earlier.mailbox)) state.actors is.0),
      );
  kid = λ state number id child is. at_number_shrinks number (with_kid id child) (λ actor. (0, refl, refl)) state.next_actor state.next_letter state.actors is;
  no_kid = λ state number id is. at_number_shrinks number (without_kid id) (λ actor. (0, refl, refl)) state.next_actor state.next_letter state.actors is;
  gone = λ state number is. (
    all_filter (Single state.next_actor state.next_letter) (λ (actor : ActorRecord). not (is_among (subtree_of state number) actor.number)) state.actors is.0,
    pairs_filter Before (λ (actor : ActorRecord). not (is_among (subtree_of state number) actor.number)) state.actors is.1,
  );
  done = λ state number output is.
      order_shrinks (record_after_end (subtree_of state number) number (done_record output))
      (end_shrinks (subtree_of state number) number (done_record output) (λ actor. emptied actor (done_record output actor) refl refl)) state.next_actor state.next_letter state.actors is;
  failed = λ state number error is.
      order_shrinks (record_after_end (subtree_of state number) number (error_record error))
      (end_shrinks (subtree_of state number) number (error_record error) (λ actor. emptied actor (error_record error actor) refl refl)) state.next_actor state.next_letter state.actors is;
  entry = λ state is. is;
  moment = λ state moment timers is. is;
  callers = λ state callers is. is;
}

-- ---- as the law says it

once_apart : (letters : List Letter) (actors : List ActorRecord) → AllByRecursion (λ (l : Letter). AllByRecursion (λ (m : Letter). l.number ≢ m.number) (letters_of actors)) letters
    → AllByRecursion (λ (actor : ActorRecord). Differ letters actor.mailbox) actors
once_apart letters [] all = tt
once_apart letters (actor ∷ actors) all = (
  all_weaker (λ (l : Letter). AllByRecursion (λ (m : Letter). l.number ≢ m.number) (actor.mailbox ++ letters_of actors)) (λ (l : Letter). AllByRecursion (λ (m : Letter). l.number ≢ m.number) actor.mailbox)
      (λ l both. (all_split (λ (m : Letter). l.number ≢ m.number) actor.mailbox (letters_of actors) both).0) letters all,
  once_apart letters actors (all_weaker (λ (l : Letter). AllByRecursion (λ (m : Letter). l.number ≢ m.number) (actor.mailbox ++ letters_of actors))
      (λ (l : Letter). AllByRecursion (λ (m : Letter). l.number ≢ m.number) (letters_of actors))
      (λ l both. (all_split (λ (m : Letter). l.number ≢ m.number) actor.mailbox (letters_of actors) both).1) letters all),
)

apart_once : (letters : List Letter) (actors : List ActorRecord) → AllByRecursion (λ (actor : ActorRecord). Differ letters actor.mailbox) actors
    → AllByRecursion (λ (l : Letter). AllByRecursion (λ (m : Letter). l.number ≢ m.number) (letters_of actors)) letters
apart_once [] actors all = tt
apart_once (l ∷ letters) actors all = (
  of_mailboxes (λ (m : Letter). l.number ≢ m.number) actors
      (all_weaker (λ (actor : ActorRecord). Differ (l ∷ letters) actor.mailbox) (λ (actor : ActorRecord). AllByRecursion (λ (m : Letter). l.number ≢ m.number) actor.mailbox) (λ actor both. both.0) actors all),
  apart_once letters actors (all_weaker (λ (actor : ActorRecord). Differ (l ∷ letters) actor.mailbox) (λ (actor : ActorRecord). Differ letters actor.mailbox) (λ actor both. both.1) actors all),
)

pairs_split : {X : Type 0} (R : X → X → Type 0) (xs ys : List X) → PairsByRecursion R (xs ++ ys) → AllByRecursion (λ x. AllByRecursion (R x) ys) xs × PairsByRecursion R ys
pairs_split R [] ys pairs = (tt, pairs)
pairs_split R (x ∷ xs) ys pairs = let rest = pairs_split R xs ys pairs.1 in (((all_split (R x) xs ys pairs.0).1, rest.0), rest.1)

pairs_join : {X : Type 0} (R : X → X → Type 0) (xs ys : List X) → PairsByRecursion R xs → AllByRecursion (λ x. AllByRecursion (R x) ys) xs → PairsByRecursion R ys → PairsByRecursion R (xs ++ ys)
pairs_join R [] ys one both other = other
pairs_join R (x ∷ xs) ys one both other = (all_join (R x) xs ys one.0 both.0, pairs_join R xs ys one.1 both.1 other)

before_from : (actors : List ActorRecord) → PairsByRecursion (λ (a b : ActorRecord). a.number < b.number) actors → PairsByRecursion (λ (a b : Letter). a.number ≢ b.number) (letters_of actors) → PairsByRecursion Before actors
before_from [] rise once = tt
before_from (actor ∷ actors) rise once =
    let parts = pairs_split (λ (a b : Letter). a.number ≢ b.number) actor.mailbox (letters_of actors) once in
    (all_both (λ (later : ActorRecord). actor.number < later.number) (λ (later : ActorRecord). Differ actor.mailbox later.mailbox) actors rise.0 (once_apart actor.mailbox actors parts.0), before_from actors rise.1 parts.1)

before_once : (a n : ℕ) (actors : List ActorRecord) → AllByRecursion (Single a n) actors → PairsByRecursion Before actors → PairsByRecursion (λ (a b : Letter). a.number ≢ b.number) (letters_of actors)
before_once a n [] single pairs = tt
before_once a n (actor ∷ actors) single pairs =
    pairs_join (λ (a b : Letter). a.number ≢ b.number) actor.mailbox (letters_of actors)
    (pairs_weaker (λ (l m : Letter). l.number < m.number) (λ (l m : Letter). l.number ≢ m.number) (λ l m less same. absurd (omega arith)) actor.mailbox single.0.1)
    (apart_once actor.mailbox actors (all_weaker (Before actor) (λ (later : ActorRecord). Differ actor.mailbox later.mailbox) (λ later before. before.1) actors pairs.0))
    (before_once a n actors single.1 pairs.1)

-- numbers that rise, element by element
numbers_from : {X : Type 0} (number : X → ℕ) (xs : List X) → PairsByRecursion (λ (a b : ℕ). a < b) (map number xs) → PairsByRecursion (λ (a b : X). number a < number b) xs
numbers_from number [] pairs = tt
numbers_from {X} number (x ∷ xs) pairs = (each xs pairs.0, numbers_from number xs pairs.1) where
  each : (ys : List X) → AllByRecursion (λ b. number x < b) (map number ys) → AllByRecursion (λ y. number x < number y) ys
  each [] all = tt
  each (y ∷ ys) all = (all.0, each ys all.1)

rise_from : {X : Type 0} (number : X → ℕ) (xs : List X) → IsStrictlyIncreasing (map number xs) → PairsByRecursion (λ (a b : X). number a < number b) xs
rise_from number xs increasing = numbers_from number xs (pairs_from (λ (a b : ℕ). a < b) (map number xs) (AllPairs-from_increasing (map number xs) increasing))

rise_to : {X : Type 0} (number : X → ℕ) (xs : List X) → PairsByRecursion (λ (a b : X). number a < number b) xs → IsStrictlyIncreasing (map number xs)
rise_to number xs pairs k within =
    pairs_at (λ (a b : ℕ). a < b) (map number xs) (pairs_map (λ (a b : _). number a < number b) (λ (a b : ℕ). a < b) number (λ a b less. less) xs pairs) k (k + 1) 0 (omega arith) within

all_three : (a n : ℕ) (actors : List ActorRecord) → AllByRecursion (λ (actor : ActorRecord). actor.number < a) actors → AllByRecursion (λ (actor : ActorRecord). Rise actor.mailbox) actors
    → AllByRecursion (λ (actor : ActorRecord). AllByRecursion (λ (l : Letter). l.number < n) actor.mailbox) actors → AllByRecursion (Single a n) actors
all_three a n [] one two three = tt
all_three a n (actor ∷ actors) one two three = ((one.0, two.0, three.0), all_three a n actors one.1 two.1 three.1)

pub order_from : (state : OfficeState) → AreNumbersInOrder state → InOrder state
order_from state is = (
  all_three state.next_actor state.next_letter state.actors (recursion_from_All (λ (actor : ActorRecord). actor.number < state.next_actor) state.actors is.actors_given)
      (all_weaker (λ (actor : ActorRecord). IsStrictlyIncreasing (map (λ (l : Letter). l.number) actor.mailbox)) (λ (actor : ActorRecord). Rise actor.mailbox)
      (λ actor rise. rise_from (λ (l : Letter). l.number) actor.mailbox rise) state.actors
      (recursion_from_All (λ (actor : ActorRecord). IsStrictlyIncreasing (map (λ (l : Letter). l.number) actor.mailbox)) state.actors is.mailboxes_rise))
      (by_mailbox (λ (l : Letter). l.number < state.next_letter) state.actors (recursion_from_All (λ (l : Letter). l.number < state.next_letter) (letters_of state.actors) is.letters_given)),
  before_from state.actors (rise_from (λ (actor : ActorRecord). actor.number) state.actors is.actors_rise)
      (pairs_from (λ (a b : Letter). a.number ≢ b.number) (letters_of state.actors) is.letters_once),
)

order_to : (state : OfficeState) → InOrder state → AreNumbersInOrder state
order_to state is =
    let S = Single state.next_actor state.next_letter in
    record {
      actors_rise = rise_to (λ (actor : ActorRecord). actor.number) state.actors (pairs_weaker Before (λ (a b : ActorRecord). a.number < b.number) (λ a b before. before.0) state.actors is.1);
      actors_given = All-from_recursion (λ (actor : ActorRecord). actor.number < state.next_actor) state.actors
          (all_weaker S (λ (actor : ActorRecord). actor.number < state.next_actor) (λ actor single. single.0) state.actors is.0);
      letters_given = All-from_recursion (λ (l : Letter). l.number < state.next_letter) (letters_of state.actors)
          (of_mailboxes (λ (l : Letter). l.number < state.next_letter) state.actors
          (all_weaker S (λ (actor : ActorRecord). AllByRecursion (λ (l : Letter). l.number < state.next_letter) actor.mailbox) (λ actor single. single.2) state.actors is.0));
      letters_once = pairs_at (λ (a b : Letter). a.number ≢ b.number) (letters_of state.actors) (before_once state.next_actor state.next_letter state.actors is.0 is.1);
      mailboxes_rise = All-from_recursion (λ (actor : ActorRecord). IsStrictlyIncreasing (map (λ (l : Letter). l.number) actor.mailbox)) state.actors
          (all_weaker S (λ (actor : ActorRecord). IsStrictlyIncreasing (map (λ (l : Letter). l.number) actor.mailbox)) (λ actor single. rise_to (λ (l : Letter). l.number) actor.mailbox single.1) state.actors is.0);
    }

pub numbers_are_in_order : NumbersAreInOrder
numbers_are_in_order = record {
  empty = order_to _ (tt, tt);
  valid = λ definitions state valid. record {
    actors_rise = valid.actors_rise;
    actors_given = λ k d within. (valid.actors k d within).number.1;
    letters_given = λ k d within. (valid.letters k d within).number.1;
    letters_once = valid.letters_once;
    mailboxes_rise = λ k d within. (valid.actors k d within).mailbox;
  };
  later = λ definitions macrostep state entries is. order_to (after definitions macrostep state entries) (entries_keep InOrder order_kept definitions macrostep entries state (order_from state is));
}
