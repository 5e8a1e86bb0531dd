-- What a new actor makes of the records, the letters and the rooms of all that are held.
use Rattle.std.proofs.Common.{◌≡◌, ◌⊎◌, inl, inr, ℕ, ◌+◌, ◌<◌, ◌≤◌, Bool, true, false, cond, List, [], ◌∷◌, ◌++◌, filter, length, map, nat_eq, unwrap_or, Option, Some, None, IfSome, IsSome, refl, sym, ap, ◌∙◌, subst, arith}
use Rattle.std.specs.declared.cmp.Ordering.TheVariants.{Less}
use Rattle.std.specs.Ordering.{nat_cmp}
use Rattle.std.specs.List.{All, AllByRecursion, cons_option, filter_map}
use Rattle.std.specs.Option.{is_some, option_map_or}
use Rattle.std.proofs.lemmas.List.Elements.{All-from_recursion}
use Rattle.std.proofs.lemmas.Bool.{eqb-true}
use Rattle.std.proofs.lemmas.Cmp.{nat_cmp_total}
use Rattle.std.proofs.lemmas.List.Sums.{sum_by_push}
use Rattle.office_types.specs.declared.office.ActorRecord.{ActorRecord}
use Rattle.office_types.specs.declared.office.Item.{Item}
use Rattle.office_types.specs.Records.{is_active}
use Rattle.office_types.specs.SystemNames.{holder_of}
use Rattle.office_types.specs.WorkItems.{open_item}
use Rattle.office_books.specs.NumberedItems.{numbered_item, NumbersRise}
use Rattle.office_books.proofs.ItemLemmas.{less}
use Rattle.office_books.proofs.SortedLemmas.{rises_push}
use Rattle.actor_tree.specs.declared.actor.Actor.{Actor}
use Rattle.actor_tree.specs.Actors.{record_of, records_of}
use Rattle.actor_tree.specs.declared.part.Newcomer.{Newcomer}
use Rattle.actor_tree.specs.Books.{and_holder, and_item}
use Rattle.actor_tree.specs.HeldOffice.{HasOwnItem, letters_in, rooms_by}
use Rattle.actor_tree.specs.Making.{AreRoomsWith}

module _ (number : ℕ) (actor : Actor) where
  abbrev with_new : List (ℕ × Actor) → List (ℕ × Actor)
  with_new actors = actors ++ (number, actor) ∷ []

  pub records_push : (actors : List (ℕ × Actor)) → records_of (with_new actors) ≡ records_of actors ++ record_of number actor ∷ []
  records_push [] = refl
  records_push (first ∷ actors) = ap (λ l. record_of first.0 first.1 ∷ l) (records_push actors)

  pub letters_push : (actors : List (ℕ × Actor)) → letters_in (with_new actors) ≡ letters_in actors + length actor.mailbox.items
  letters_push actors =
      rw (records_push actors) (sum_by_push (λ (actor : ActorRecord). length actor.mailbox) (records_of actors) (record_of number actor))

  pub numbers_newer : (actors : List (ℕ × Actor)) → AllByRecursion (λ (actor : ActorRecord). actor.number < number) (records_of actors) → AllByRecursion (λ (pair : ℕ × Actor). pair.0 < number) actors
  numbers_newer [] newer = tt
  numbers_newer (first ∷ actors) newer = (newer.0, numbers_newer actors newer.1)

  above : (actors : List (ℕ × Actor)) → AllByRecursion (λ (actor : ActorRecord). actor.number < number) (records_of actors) → AllByRecursion (λ l. nat_cmp l number ≡ Less) (map (λ (pair : ℕ × Actor). pair.0) actors)
  above [] newer = tt
  above (first ∷ actors) newer = (less first.0 number newer.0, above actors newer.1)

  pub rise_push : (actors : List (ℕ × Actor)) → NumbersRise actors → AllByRecursion (λ (actor : ActorRecord). actor.number < number) (records_of actors) → NumbersRise (with_new actors)
  rise_push actors rise newer = rises_push nat_cmp_total (λ (pair : ℕ × Actor). pair.0) actors (number, actor) rise (above actors newer)

  module _ (room : Actor → ℕ) where
    abbrev RoomWith : ℕ → Option ℕ → Option ℕ → Type 0
    RoomWith other old new = IsSome new → ((other ≡ number) × (room actor ≤ unwrap_or new 0)) ⊎ (IsSome old × (unwrap_or old 0 ≤ unwrap_or new 0))

    pub rooms_push : (actors : List (ℕ × Actor)) → AreRoomsWith number (room actor) (rooms_by room actors) (rooms_by room (with_new actors))
    rooms_push [] other = last (nat_eq number other) refl
      where
        last : (b : Bool) → nat_eq number other ≡ b → RoomWith other None (cond b (Some (room actor)) None)
        last true is = λ there. inl (sym (eqb-true number other is), omega arith)
        last false is = λ there. absurd (cc)
    rooms_push (first ∷ actors) other = cases (rooms_push actors other) (room first.1) (nat_eq first.0 other)
      where
        cases : RoomWith other (numbered_item other (rooms_by room actors)) (numbered_item other (rooms_by room (with_new actors))) → (r : ℕ) (b : Bool)
            → RoomWith other (cond b (Some r) (numbered_item other (rooms_by room actors))) (cond b (Some r) (numbered_item other (rooms_by room (with_new actors))))
        cases rest r true = λ there. inr (refl, omega arith)
        cases rest r false = rest

pub active_push : (new : ActorRecord) → is_active new ≡ true → (actors : List ActorRecord) → length (filter is_active (actors ++ new ∷ [])) ≡ length (filter is_active actors) + 1
active_push new active [] = rw active refl
active_push new active (first ∷ actors) = cases (is_active first) (active_push new active actors)
  where
    cases : (b : Bool) → length (filter is_active (actors ++ new ∷ [])) ≡ length (filter is_active actors) + 1
        → length (cond b (first ∷ filter is_active (actors ++ new ∷ [])) (filter is_active (actors ++ new ∷ []))) ≡ length (cond b (first ∷ filter is_active actors) (filter is_active actors)) + 1
    cases true rest = omega (arith, rest)
    cases false rest = rest

pub items_push : (new : ActorRecord) (actors : List ActorRecord) → filter_map open_item (actors ++ new ∷ []) ≡ and_item (filter_map open_item actors) (open_item new)
items_push new [] = cases (open_item new)
  where
    cases : (o : Option Item) → cons_option o [] ≡ and_item [] o
    cases None = refl
    cases (Some item) = refl
items_push new (first ∷ actors) = ap (cons_option (open_item first)) (items_push new actors) ∙ cases (open_item first) (open_item new)
  where
    cases : (o p : Option Item) → cons_option o (and_item (filter_map open_item actors) p) ≡ and_item (cons_option o (filter_map open_item actors)) p
    cases None p = refl
    cases (Some item) None = refl
    cases (Some item) (Some new_item) = refl

-- one more at the end
pub all_push : {X : Type 0} (P : X → Type 0) (xs : List X) (x : X) → AllByRecursion P xs → P x → AllByRecursion P (xs ++ x ∷ [])
all_push P [] x all is = (is, tt)
all_push P (first ∷ xs) x all is = (all.0, all_push P xs x all.1 is)

-- what holds of each holds as far as another fact follows
pub all_so : {X : Type 0} (P Q : X → Type 0) (xs : List X) → ((x : X) → P x → Q x) → AllByRecursion P xs → AllByRecursion Q xs
all_so P Q [] so all = tt
all_so P Q (x ∷ xs) so all = (so x all.0, all_so P Q xs so all.1)

-- the open items have numbers of records
pub items_below : (next : ℕ) (actors : List ActorRecord) → AllByRecursion HasOwnItem actors → AllByRecursion (λ (actor : ActorRecord). actor.number < next) actors
    → AllByRecursion (λ (item : Item). item.actor < next) (filter_map open_item actors)
items_below next [] own below = tt
items_below next (first ∷ actors) own below = one (is_active first) first.item own.0 (items_below next actors own.1 below.1)
  where
    one : (b : Bool) (o : Option Item) → IfSome o (λ (item : Item). item.actor ≡ first.number) → AllByRecursion (λ (item : Item). item.actor < next) (filter_map open_item actors)
        → AllByRecursion (λ (item : Item). item.actor < next) (cons_option (cond b o None) (filter_map open_item actors))
    one true (Some item) is rest = (let same : item.actor ≡ first.number = is in omega (arith, below.0), rest)
    one true None is rest = rest
    one false o is rest = rest

-- a new item is above the others
pub some_item : (next : ℕ) (o : Option Item) (items : List Item) → IfSome o (λ (item : Item). item.actor ≡ next) → AllByRecursion (λ (item : Item). item.actor < next) items
    → IfSome o (λ (item : Item). All (λ (other : Item). other.actor < item.actor) items)
some_item next None items is below = tt
some_item next (Some item) items is below =
    let same : item.actor ≡ next = is in
    All-from_recursion (λ (other : Item). other.actor < item.actor) items (all_so (λ (other : Item). other.actor < next) (λ (other : Item). other.actor < item.actor) items (λ other less. omega arith) below)

-- names with that of a new actor
pub holders_push : (next : ℕ) (o : Option (List ℕ)) (names : List (List ℕ × ℕ)) → AllByRecursion (λ (holder : List ℕ × ℕ). holder.1 < next) names
    → AllByRecursion (λ (holder : List ℕ × ℕ). holder.1 < next + 1) (and_holder names o next)
holders_push next None names below = all_so (λ (holder : List ℕ × ℕ). holder.1 < next) (λ (holder : List ℕ × ℕ). holder.1 < next + 1) names (λ holder less. omega arith) below
holders_push next (Some name) names below =
    all_push (λ (holder : List ℕ × ℕ). holder.1 < next + 1) names (name, next) (all_so (λ (holder : List ℕ × ℕ). holder.1 < next) (λ (holder : List ℕ × ℕ). holder.1 < next + 1) names (λ holder less. omega arith) below) (omega arith)

-- a name that nobody holds
pub name_free : (names : List (List ℕ × ℕ)) (newcomer : Newcomer) → newcomer.name ≡ newcomer.actor.system
    → option_map_or (λ (name : List ℕ). is_some (holder_of name names)) newcomer.actor.system false ≡ false → IfSome newcomer.name (λ (name : List ℕ). holder_of name names ≡ None)
name_free names newcomer same free = subst (λ (o : Option (List ℕ)). IfSome o (λ (name : List ℕ). holder_of name names ≡ None)) (sym same) (of newcomer.actor.system free)
  where
    nobody : (o : Option ℕ) → is_some o ≡ false → o ≡ None
    nobody None is = refl
    nobody (Some n) is = absurd (cc)

    of : (o : Option (List ℕ)) → option_map_or (λ (name : List ℕ). is_some (holder_of name names)) o false ≡ false → IfSome o (λ (name : List ℕ). holder_of name names ≡ None)
    of None is = tt
    of (Some name) is = nobody (holder_of name names) is
