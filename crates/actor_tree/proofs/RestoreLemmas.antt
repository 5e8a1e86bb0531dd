-- Lists of an office in their order, as far as they were taken over.
use Rattle.std.proofs.Common.{◌≡◌, ◌≢◌, ℕ, zero, suc, ◌+◌, ◌<◌, ◌≤◌, Bool, true, false, cond, ◌&&◌, List, [], ◌∷◌, ◌++◌, bytes_eq, filter, length, map, nat_eq, not, take, None, Option, Some, IfSome, refl, sym, ap, ◌∙◌, subst, arith}
use Rattle.std.specs.Prelude.{AllPairs, slice_get, sum_by, option_to_list}
use Rattle.std.specs.List.{All, AllByRecursion, filter_map}
use Rattle.std.specs.declared.cmp.Ordering.TheVariants.{Less}
use Rattle.std.specs.List.Sorted.{IsStrictlyIncreasing, IsStrictlySortedBy}
use Rattle.std.specs.Ordering.{nat_cmp}
use Rattle.std.specs.Option.{option_map_or}
use Rattle.std.proofs.lemmas.Bool.{eqb-true}
use Rattle.std.proofs.lemmas.List.Elements.{All-from_recursion, recursion_from_All}
use Rattle.std.proofs.lemmas.List.Kept.{AllPairs-cons, AllPairs-from_increasing}
use Rattle.std.proofs.lemmas.List.Sums.{sum_by_push}
use Rattle.std.proofs.lemmas.Slice.Eq.{bytes_eq-Decides}
use Rattle.office_types.specs.declared.office.ActorRecord.{ActorRecord}
use Rattle.office_types.specs.declared.office.Item.{Item}
use Rattle.office_types.specs.declared.office.OfficeState.{OfficeState}
use Rattle.office_types.specs.declared.office.Timer.{Timer}
use Rattle.office_types.specs.declared.outcome.Own.{Own}
use Rattle.office_types.specs.Definitions.{OfficeDefinitions}
use Rattle.office_types.specs.Records.{is_active}
use Rattle.office_types.specs.SystemNames.{holder_of}
use Rattle.office_types.specs.Timers.{has_id, with_scheduled}
use Rattle.office_types.specs.WorkItems.{open_item}
use Rattle.office_types.specs.ValidOffice.{AreOfOneId, IsActor, IsOfOneKind, IsTimer, IsValidOffice, names_of}
use Rattle.office_books.specs.NumberedItems.{NumbersRise}
use Rattle.office_books.proofs.ItemLemmas.{less}
use Rattle.actor_tree.specs.declared.actor.Actor.{Actor}
use Rattle.actor_tree.specs.Actors.{records_of}
use Rattle.actor_tree.specs.declared.counts.Counts.{Counts}
use Rattle.actor_tree.specs.HeldOffice.{HasOwnItem, IsHeld, office_with}
use Rattle.actor_tree.proofs.PushLemmas.{all_so, some_item}

-- ---- earlier items

-- each item is so related to each later one
abbrev pub EachPair : {X : Type 0} → (X → X → Type 0) → List X → Type 0
EachPair R [] = Unit {0}
EachPair R (x ∷ xs) = AllByRecursion (R x) xs × EachPair R xs

pub pairs_of : {X : Type 0} (R : X → X → Type 0) (xs : List X) → AllPairs R xs → EachPair R xs
pairs_of R [] all = tt
pairs_of R (x ∷ xs) all =
    (recursion_from_All (R x) xs (λ k d within. all 0 (suc k) d (omega arith) (omega arith)), pairs_of R xs (λ i j d before within. all (suc i) (suc j) d (omega arith) (omega arith)))

of_map : {X : Type 0} (P : ℕ → Type 0) (f : X → ℕ) (xs : List X) → AllByRecursion P (map f xs) → AllByRecursion (λ x. P (f x)) xs
of_map P f [] all = tt
of_map P f (x ∷ xs) all = (all.0, of_map P f xs all.1)

pairs_of_map : {X : Type 0} (f : X → ℕ) (xs : List X) → EachPair (λ m n. m < n) (map f xs) → EachPair (λ x y. f x < f y) xs
pairs_of_map f [] pairs = tt
pairs_of_map f (x ∷ xs) pairs = (of_map (λ (n : ℕ). f x < n) f xs pairs.0, pairs_of_map f xs pairs.1)

-- items whose keys rise
pub keys_rise : {X : Type 0} (f : X → ℕ) (xs : List X) → IsStrictlyIncreasing (map f xs) → EachPair (λ x y. f x < f y) xs
keys_rise f xs rise = pairs_of_map f xs (pairs_of (λ m n. m < n) (map f xs) (AllPairs-from_increasing (map f xs) rise))

pub get_has : {X : Type 0} (P : X → Type 0) (xs : List X) (i : ℕ) (x : X) → AllByRecursion P xs → slice_get xs i ≡ Some x → P x
get_has P [] i x all is = absurd (cc)
get_has P (y ∷ xs) zero x all is = let same : y ≡ x = cc in subst P same all.0
get_has P (y ∷ xs) (suc i) x all is = get_has P xs i x all.1 is

-- an item is so related to those before it
pub earlier : {X : Type 0} (R : X → X → Type 0) (xs : List X) (i : ℕ) (x : X) → EachPair R xs → slice_get xs i ≡ Some x → AllByRecursion (λ y. R y x) (take i xs)
earlier R [] zero x pairs is = tt
earlier R [] (suc i) x pairs is = tt
earlier R (y ∷ xs) zero x pairs is = tt
earlier R (y ∷ xs) (suc i) x pairs is = (get_has (R y) xs i x pairs.0 is, earlier R xs i x pairs.1 is)

pub taken_have : {X : Type 0} (P : X → Type 0) (xs : List X) (i : ℕ) → AllByRecursion P xs → AllByRecursion P (take i xs)
taken_have P [] zero all = tt
taken_have P [] (suc i) all = tt
taken_have P (x ∷ xs) zero all = tt
taken_have P (x ∷ xs) (suc i) all = (all.0, taken_have P xs i all.1)

pub one_more : {X : Type 0} (xs : List X) (i : ℕ) (x : X) → slice_get xs i ≡ Some x → take (i + 1) xs ≡ take i xs ++ x ∷ []
one_more {X} xs i x is = let next : suc i ≡ i + 1 = omega arith in subst (λ (n : ℕ). take n xs ≡ take i xs ++ x ∷ []) next (more xs i is)
  where
    more : (xs : List X) (i : ℕ) → slice_get xs i ≡ Some x → take (suc i) xs ≡ take i xs ++ x ∷ []
    more [] i is = absurd (cc)
    more (y ∷ xs) zero is = let same : y ≡ x = cc in ap (λ (z : X). z ∷ []) same
    more (y ∷ xs) (suc i) is = ap (λ (l : List X). y ∷ l) (more xs i is)

-- ---- counts

filter_push : {X : Type 0} (p : X → Bool) (xs : List X) (x : X) → length (filter p (xs ++ x ∷ [])) ≡ length (filter p xs) + cond (p x) 1 0
filter_push p [] x = by_test (p x)
  where
    by_test : (b : Bool) → length (cond b (x ∷ []) []) ≡ 0 + cond b 1 0
    by_test true = omega arith
    by_test false = omega arith
filter_push p (y ∷ xs) x = by_test (filter_push p xs x) (p y)
  where
    by_test : length (filter p (xs ++ x ∷ [])) ≡ length (filter p xs) + cond (p x) 1 0 → (b : Bool)
        → length (cond b (y ∷ filter p (xs ++ x ∷ [])) (filter p (xs ++ x ∷ []))) ≡ length (cond b (y ∷ filter p xs) (filter p xs)) + cond (p x) 1 0
    by_test rest true = omega (arith, rest)
    by_test rest false = rest

pub count_more : {X : Type 0} (p : X → Bool) (xs : List X) (i : ℕ) (x : X) → slice_get xs i ≡ Some x → length (filter p (take (i + 1) xs)) ≡ length (filter p (take i xs)) + cond (p x) 1 0
count_more {X} p xs i x is = ap (λ (l : List X). length (filter p l)) (one_more xs i x is) ∙ filter_push p (take i xs) x

pub letters_more : (actors : List ActorRecord) (i : ℕ) (actor : ActorRecord) → slice_get actors i ≡ Some actor
    → sum_by (λ (actor : ActorRecord). length actor.mailbox) (take (i + 1) actors) ≡ sum_by (λ (actor : ActorRecord). length actor.mailbox) (take i actors) + length actor.mailbox
letters_more actors i actor is =
    ap (sum_by (λ (actor : ActorRecord). length actor.mailbox)) (one_more actors i actor is) ∙ sum_by_push (λ (actor : ActorRecord). length actor.mailbox) (take i actors) actor

pub fewer_taken : {X : Type 0} (p : X → Bool) (xs : List X) (i : ℕ) → length (filter p (take i xs)) ≤ length (filter p xs)
fewer_taken p [] zero = omega arith
fewer_taken p [] (suc i) = omega arith
fewer_taken p (x ∷ xs) zero = omega arith
fewer_taken p (x ∷ xs) (suc i) = by_test (fewer_taken p xs i) (p x)
  where
    by_test : length (filter p (take i xs)) ≤ length (filter p xs) → (b : Bool) → length (cond b (x ∷ filter p (take i xs)) (filter p (take i xs))) ≤ length (cond b (x ∷ filter p xs) (filter p xs))
    by_test rest true = omega (arith, rest)
    by_test rest false = rest

-- the open item of a record is newer than those of records before it
pub open_newest : (actor : ActorRecord) (o : Option Item) (items : List Item) → o ≡ open_item actor → HasOwnItem actor → AllByRecursion (λ (item : Item). item.actor < actor.number) items
    → IfSome o (λ (item : Item). All (λ (other : Item). other.actor < item.actor) items)
open_newest actor o items is own below =
    some_item actor.number o items (subst (λ (o : Option Item). IfSome o (λ (item : Item). item.actor ≡ actor.number)) (sym is) (by_active (is_active actor) actor.item own)) below
  where
    by_active : (b : Bool) (item : Option Item) → IfSome item (λ (item : Item). item.actor ≡ actor.number) → IfSome (cond b item None) (λ (item : Item). item.actor ≡ actor.number)
    by_active true item is = is
    by_active false item is = tt

-- ---- names

nobody : (name : List ℕ) (names : List (List ℕ × ℕ)) → AllByRecursion (λ (holder : List ℕ × ℕ). holder.0 ≢ name) names → holder_of name names ≡ None
nobody name [] all = refl
nobody name (holder ∷ names) all = by_test (nobody name names all.1) (bytes_eq name holder.0) refl
  where
    by_test : holder_of name names ≡ None → (b : Bool) → bytes_eq name holder.0 ≡ b → cond b (Some holder.1) (holder_of name names) ≡ None
    by_test rest true is = absurd (all.0 (sym ((bytes_eq-Decides _ _).0 is)))
    by_test rest false is = rest

pub name_new : (names : List (List ℕ × ℕ)) (i : ℕ) (holder : List ℕ × ℕ) → AllPairs (λ (a b : List ℕ × ℕ). a.0 ≢ b.0) names → slice_get names i ≡ Some holder → holder_of holder.0 (take i names) ≡ None
name_new names i holder once is = nobody holder.0 (take i names) (earlier (λ (a b : List ℕ × ℕ). a.0 ≢ b.0) names i holder (pairs_of (λ (a b : List ℕ × ℕ). a.0 ≢ b.0) names once) is)

-- ---- timers

none_of_id : (owner : ℕ) (id : List ℕ) (timer : Timer) (timers : List Timer) → timer.owner ≡ owner → timer.id ≡ Some id → AllByRecursion (λ (other : Timer). AreOfOneId other timer → ⊥) timers
    → filter (λ (other : Timer). not (has_id owner id other)) timers ≡ timers
none_of_id owner id timer [] own its all = refl
none_of_id owner id timer (other ∷ timers) own its all = by_test (none_of_id owner id timer timers own its all.1) (nat_eq other.owner owner) refl other.id refl
  where
    by_id : filter (λ (other : Timer). not (has_id owner id other)) timers ≡ timers → nat_eq other.owner owner ≡ true → (o : Option (List ℕ)) → other.id ≡ o → (b : Bool) → option_map_or (bytes_eq id) o false ≡ b
        → cond (not b) (other ∷ filter (λ (other : Timer). not (has_id owner id other)) timers) (filter (λ (other : Timer). not (has_id owner id other)) timers) ≡ other ∷ timers
    by_id rest same None of false is = ap (λ (l : List Timer). other ∷ l) rest
    by_id rest same None of true is = absurd (cc)
    by_id rest same (Some theirs) of false is = ap (λ (l : List Timer). other ∷ l) rest
    by_id rest same (Some theirs) of true is =
        let equal : id ≡ theirs = (bytes_eq-Decides _ _).0 is in
        absurd (all.0 (id, eqb-true other.owner owner same ∙ sym own, of ∙ ap Some (sym equal), its))

    by_test : filter (λ (other : Timer). not (has_id owner id other)) timers ≡ timers → (b : Bool) → nat_eq other.owner owner ≡ b → (o : Option (List ℕ)) → other.id ≡ o
        → cond (not (b && option_map_or (bytes_eq id) o false)) (other ∷ filter (λ (other : Timer). not (has_id owner id other)) timers) (filter (λ (other : Timer). not (has_id owner id other)) timers) ≡ other ∷ timers
    by_test rest false is o of = ap (λ (l : List Timer). other ∷ l) rest
    by_test rest true is o of = by_id rest is o of (option_map_or (bytes_eq id) o false) refl

pub timer_new : (timers : List Timer) (i : ℕ) (timer : Timer) → AllPairs (λ a b. AreOfOneId a b → ⊥) timers → slice_get timers i ≡ Some timer → with_scheduled (take i timers) timer ≡ take (i + 1) timers
timer_new timers i timer once is = ap (λ (l : List Timer). l ++ timer ∷ []) (by_id timer.id refl) ∙ sym (one_more timers i timer is)
  where
    before : AllByRecursion (λ (other : Timer). AreOfOneId other timer → ⊥) (take i timers)
    before = earlier (λ a b. AreOfOneId a b → ⊥) timers i timer (pairs_of (λ a b. AreOfOneId a b → ⊥) timers once) is

    by_id : (o : Option (List ℕ)) → timer.id ≡ o → option_map_or (λ (id : List ℕ). filter (λ (other : Timer). not (has_id timer.owner id other)) (take i timers)) o (take i timers) ≡ take i timers
    by_id None of = refl
    by_id (Some id) of = none_of_id timer.owner id timer (take i timers) refl of before

-- ---- a valid office

own_item : (definitions : OfficeDefinitions) (actor : ActorRecord) (own : Option Own) (item : Option Item) → IsOfOneKind definitions actor own item → IfSome item (λ (item : Item). item.actor ≡ actor.number)
own_item definitions actor own None is = tt
own_item definitions actor None (Some item) is = is.number
own_item definitions actor (Some own) (Some item) is = absurd is

pub valid_own : (definitions : OfficeDefinitions) (state : OfficeState) (actors : List ActorRecord) → AllByRecursion (IsActor definitions state) actors → AllByRecursion HasOwnItem actors
valid_own definitions state actors each = all_so (IsActor definitions state) HasOwnItem actors (λ actor is. own_item definitions actor actor.own actor.item is.kind) each

-- what numbers of records have, numbers of names have
pub names_have : (P : ℕ → Type 0) (actors : List ActorRecord) → AllByRecursion (λ (actor : ActorRecord). P actor.number) actors → AllByRecursion (λ (holder : List ℕ × ℕ). P holder.1) (names_of actors)
names_have P [] all = tt
names_have P (actor ∷ actors) all = by_name actor.system (names_have P actors all.1)
  where
    by_name : (o : Option (List ℕ)) → AllByRecursion (λ (holder : List ℕ × ℕ). P holder.1) (names_of actors)
        → AllByRecursion (λ (holder : List ℕ × ℕ). P holder.1) (map (λ (name : List ℕ). (name, actor.number)) (option_to_list o) ++ names_of actors)
    by_name None rest = rest
    by_name (Some name) rest = (all.0, rest)

pub names_rise : (actors : List ActorRecord) → EachPair (λ (a b : ActorRecord). a.number < b.number) actors → EachPair (λ (a b : List ℕ × ℕ). a.1 < b.1) (names_of actors)
names_rise [] pairs = tt
names_rise (actor ∷ actors) pairs = by_name actor.system (names_rise actors pairs.1) (names_have (λ (n : ℕ). actor.number < n) actors pairs.0)
  where
    by_name : (o : Option (List ℕ)) → EachPair (λ (a b : List ℕ × ℕ). a.1 < b.1) (names_of actors) → AllByRecursion (λ (holder : List ℕ × ℕ). actor.number < holder.1) (names_of actors)
        → EachPair (λ (a b : List ℕ × ℕ). a.1 < b.1) (map (λ (name : List ℕ). (name, actor.number)) (option_to_list o) ++ names_of actors)
    by_name None rest above = rest
    by_name (Some name) rest above = (above, rest)

map_pairs : {X : Type 0} (f : X → ℕ) (xs : List X) → EachPair (λ x y. f x < f y) xs → EachPair (λ m n. m < n) (map f xs)
map_pairs f [] pairs = tt
map_pairs {X} f (x ∷ xs) pairs = (to_map xs pairs.0, map_pairs f xs pairs.1)
  where
    to_map : (ys : List X) → AllByRecursion (λ y. f x < f y) ys → AllByRecursion (λ n. f x < n) (map f ys)
    to_map [] all = tt
    to_map (y ∷ ys) all = (all.0, to_map ys all.1)

all_pairs : {X : Type 0} (R : X → X → Type 0) (xs : List X) → EachPair R xs → AllPairs R xs
all_pairs R [] pairs = λ i j d before within. absurd (omega arith)
all_pairs R (x ∷ xs) pairs = AllPairs-cons R x xs (All-from_recursion (R x) xs pairs.0) (all_pairs R xs pairs.1)

pub increasing : {X : Type 0} (f : X → ℕ) (xs : List X) → EachPair (λ x y. f x < f y) xs → IsStrictlyIncreasing (map f xs)
increasing f xs pairs = λ k within. all_pairs (λ m n. m < n) (map f xs) (map_pairs f xs pairs) k (k + 1) 0 (omega arith) within

-- numbers of what is held, where those of its records rise
pub numbers_rise : (actors : List (ℕ × Actor)) → EachPair (λ (a b : ActorRecord). a.number < b.number) (records_of actors) → NumbersRise actors
unfolding IsStrictlySortedBy
numbers_rise [] pairs = tt
numbers_rise (first ∷ actors) pairs = (above actors pairs.0, numbers_rise actors pairs.1)
  where
    above : (actors : List (ℕ × Actor)) → AllByRecursion (λ (other : ActorRecord). first.0 < other.number) (records_of actors) → AllByRecursion (λ l. nat_cmp first.0 l ≡ Less) (map (λ (pair : ℕ × Actor). pair.0) actors)
    above [] all = tt
    above (other ∷ actors) all = (less first.0 other.0 all.0, above actors all.1)

pub valid_names : (definitions : OfficeDefinitions) (state : OfficeState) → IsValidOffice definitions state → IsStrictlyIncreasing (map (λ (holder : List ℕ × ℕ). holder.1) state.names)
valid_names definitions state valid =
    increasing (λ (holder : List ℕ × ℕ). holder.1) state.names
    (subst (EachPair (λ (a b : List ℕ × ℕ). a.1 < b.1)) (sym valid.names) (names_rise state.actors (keys_rise (λ (actor : ActorRecord). actor.number) state.actors valid.actors_rise)))

-- what is made of a valid office is held
pub restored : (definitions : OfficeDefinitions) (state : OfficeState) → IsValidOffice definitions state → (actors : List (ℕ × Actor)) (names : List (List ℕ × ℕ)) (timers : List Timer) (items : List Item) (active waiting : ℕ)
    → records_of actors ≡ state.actors → names ≡ state.names → timers ≡ state.timers → items ≡ filter_map open_item state.actors
    → active ≡ length (filter is_active state.actors) → waiting ≡ sum_by (λ (actor : ActorRecord). length actor.mailbox) state.actors
    → (counts : Counts) → counts ≡ record { moment = state.moment; next_actor = state.next_actor; next_letter = state.next_letter; next_timer = state.next_timer; active = active; waiting = waiting }
    → IsHeld actors (office_with actors names timers counts) items counts
restored definitions state valid actors names timers items active waiting same same_names same_timers same_items counted letters counts is =
    let each = recursion_from_All (IsActor definitions state) state.actors valid.actors in
    let given : AllByRecursion (λ (actor : ActorRecord). actor.number < state.next_actor) state.actors =
    all_so (IsActor definitions state) (λ (actor : ActorRecord). actor.number < state.next_actor) state.actors (λ actor is. is.number.1) each in
    subst (λ (counts : Counts). IsHeld actors (office_with actors names timers counts) items counts) (sym is)
    (record {
      numbers_rise = numbers_rise actors (subst (EachPair (λ (a b : ActorRecord). a.number < b.number)) (sym same) (keys_rise (λ (actor : ActorRecord). actor.number) state.actors valid.actors_rise));
      active = counted ∙ sym (ap (λ (records : List ActorRecord). length (filter is_active records)) same);
      waiting = letters ∙ sym (ap (sum_by (λ (actor : ActorRecord). length actor.mailbox)) same);
      items_open = same_items ∙ sym (ap (filter_map open_item) same);
      numbered = subst (AllByRecursion HasOwnItem) (sym same) (valid_own definitions state state.actors each);
      actors_given = subst (AllByRecursion (λ (actor : ActorRecord). actor.number < state.next_actor)) (sym same) given;
      holders_given = subst (AllByRecursion (λ (holder : List ℕ × ℕ). holder.1 < state.next_actor)) (sym (same_names ∙ valid.names)) (names_have (λ (n : ℕ). n < state.next_actor) state.actors given);
      timers_given = subst (AllByRecursion (λ (timer : Timer). timer.order < state.next_timer)) (sym same_timers)
          (all_so (IsTimer state) (λ (timer : Timer). timer.order < state.next_timer) state.timers (λ timer is. is.order.1) (recursion_from_All (IsTimer state) state.timers valid.timers));
    })
