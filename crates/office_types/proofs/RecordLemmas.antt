-- What every change of an office keeps of each record, where it depends on the record's number, status and mailbox alone.
use Rattle.std.proofs.Common.{◌≡◌, ℕ, suc, zero, ◌<◌, ◌≤◌, Bool, true, false, cond, not, List, [], ◌∷◌, ◌++◌, length, map, drop, refl, sym, subst, inl, inr, arith}
use Rattle.std.specs.Prelude.{◌⊎◌, Contains, Some, filter, nat_eq, if◌then◌else◌, slice_index_or}
use Rattle.std.specs.List.{AllByRecursion}
use Rattle.office_types.specs.declared.office.ActorRecord.{ActorRecord}
use Rattle.office_types.specs.declared.office.Letter.{Letter}
use Rattle.office_types.specs.declared.office.OfficeState.{OfficeState}
use Rattle.office_types.specs.Effects.{fresh_record, with_kid, without_kid}
use Rattle.office_types.specs.Ends.{after_end, done_record, error_record, is_among, record_after_end, removed, stopped_record, subtree_of}
use Rattle.office_types.specs.Mailboxes.{with_mail}
use Rattle.office_types.specs.Records.{is_active}
use Rattle.office_types.proofs.ChangeLemmas.{IsKept, IsKeptBesideTaking, with_taking}

-- ---- elements of a list

pub one_more : {X : Type 0} (P : X → Type 0) (xs : List X) (x : X) → AllByRecursion P xs → P x → AllByRecursion P (xs ++ x ∷ [])
one_more P [] x all is = (is, tt)
one_more P (y ∷ xs) x all is = (all.0, one_more P xs x all.1 is)

pub all_drop : {X : Type 0} (P : X → Type 0) (k : ℕ) (xs : List X) → AllByRecursion P xs → AllByRecursion P (drop k xs)
all_drop P zero xs all = all
all_drop P (suc k) [] all = tt
all_drop P (suc k) (x ∷ xs) all = all_drop P k xs all.1

pub all_weaker : {X : Type 0} (P Q : X → Type 0) → ((x : X) → P x → Q x) → (xs : List X) → AllByRecursion P xs → AllByRecursion Q xs
all_weaker P Q weaker [] all = tt
all_weaker P Q weaker (x ∷ xs) all = (weaker x all.0, all_weaker P Q weaker xs all.1)

pub all_map : {X Y : Type 0} (P : X → Type 0) (Q : Y → Type 0) (f : X → Y) → ((x : X) → P x → Q (f x)) → (xs : List X) → AllByRecursion P xs → AllByRecursion Q (map f xs)
all_map P Q f each [] all = tt
all_map P Q f each (x ∷ xs) all = (each x all.0, all_map P Q f each xs all.1)

pub all_filter : {X : Type 0} (P : X → Type 0) (test : X → Bool) (xs : List X) → AllByRecursion P xs → AllByRecursion P (filter test xs)
all_filter P test [] all = tt
all_filter {X} P test (x ∷ xs) all = by_test (all_filter P test xs all.1) (test x) where
  by_test : AllByRecursion P (filter test xs) → (b : Bool) → AllByRecursion P (cond b (x ∷ filter test xs) (filter test xs))
  by_test rest true = (all.0, rest)
  by_test rest false = rest

pub all_both : {X : Type 0} (P Q : X → Type 0) (xs : List X) → AllByRecursion P xs → AllByRecursion Q xs → AllByRecursion (λ x. P x × Q x) xs
all_both P Q [] all other = tt
all_both P Q (x ∷ xs) all other = ((all.0, other.0), all_both P Q xs all.1 other.1)

pub all_split : {X : Type 0} (P : X → Type 0) (xs ys : List X) → AllByRecursion P (xs ++ ys) → AllByRecursion P xs × AllByRecursion P ys
all_split P [] ys all = (tt, all)
all_split P (x ∷ xs) ys all = let rest = all_split P xs ys all.1 in ((all.0, rest.0), rest.1)

pub all_join : {X : Type 0} (P : X → Type 0) (xs ys : List X) → AllByRecursion P xs → AllByRecursion P ys → AllByRecursion P (xs ++ ys)
all_join P [] ys all other = other
all_join P (x ∷ xs) ys all other = (all.0, all_join P xs ys all.1 other)

-- the element is one of these
abbrev pub Among : {X : Type 0} → List X → X → Type 0
Among [] x = ⊥
Among (y ∷ ys) x = (y ≡ x) ⊎ Among ys x

pub among_has : {X : Type 0} (P : X → Type 0) (xs : List X) → AllByRecursion P xs → (x : X) → Among xs x → P x
among_has P [] all x among = absurd among
among_has P (y ∷ ys) all x (inl is) = subst P is all.0
among_has P (y ∷ ys) all x (inr among) = among_has P ys all.1 x among

pub among_more : {X : Type 0} (xs : List X) (x y : X) → Among xs x → Among (xs ++ y ∷ []) x
among_more [] x y among = absurd among
among_more (z ∷ xs) x y (inl is) = inl is
among_more (z ∷ xs) x y (inr among) = inr (among_more xs x y among)

pub among_at : {X : Type 0} (xs : List X) (x : X) (k : ℕ) → k < length xs → slice_index_or xs k x ≡ x → Among xs x
among_at [] x k within is = absurd (omega arith)
among_at (y ∷ ys) x zero within is = inl is
among_at (y ∷ ys) x (suc k) within is = inr (among_at ys x k (omega arith) is)

pub contains_among : {X : Type 0} (xs : List X) (x : X) → Among xs x → Contains xs x
contains_among [] x among = absurd among
contains_among (y ∷ ys) x (inl is) = (0, omega arith, is)
contains_among (y ∷ ys) x (inr among) = let rest = contains_among ys x among in (suc rest.0, omega arith, rest.2)

-- ---- records

-- a fact of a record by its number, its status and its mailbox: it holds where the record has ended or is new, and a letter
-- that is new keeps it
pub record IsOfMailboxes (M : ActorRecord → Type 0) (first_letter first_actor : ℕ) : Type 0 where
  pub same : (actor other : ActorRecord) → other.number ≡ actor.number → other.status ≡ actor.status → other.mailbox ≡ actor.mailbox → M actor → M other
  pub ended : (actor : ActorRecord) → is_active actor ≡ false → actor.mailbox ≡ [] → M actor
  pub fresh : (actor : ActorRecord) → first_actor ≤ actor.number → actor.mailbox ≡ [] → M actor
  pub more : (actor : ActorRecord) (letter : Letter) → first_letter ≤ letter.number → M actor → M (with_mail letter actor)

-- it holds of each record, and the numbers of new letters and actors are still to be given
abbrev pub Everywhere : (ActorRecord → Type 0) → ℕ → ℕ → OfficeState → Type 0
Everywhere M first_letter first_actor state = AllByRecursion M state.actors × (first_letter ≤ state.next_letter) × (first_actor ≤ state.next_actor)

module _ (M : ActorRecord → Type 0) where
  if_record : (test : Bool) (a b : ActorRecord) → M a → M b → M (if test then a else b)
  if_record true a b one other = one
  if_record false a b one other = other

  pub at_number : (number : ℕ) (change : ActorRecord → ActorRecord) → ((actor : ActorRecord) → M actor → M (change actor)) → (actors : List ActorRecord) → AllByRecursion M actors
      → AllByRecursion M (map (λ (actor : ActorRecord). if nat_eq actor.number number then change actor else actor) actors)
  at_number number change keeps actors all = all_map M M _ (λ actor is. if_record (nat_eq actor.number number) (change actor) actor (keeps actor is) is) actors all

module _ (M : ActorRecord → Type 0) (first_letter first_actor : ℕ) (of : IsOfMailboxes M first_letter first_actor) where
  stopped_too : (actor : ActorRecord) → M actor → M (stopped_record actor)
  stopped_too actor is = if_record M (is_active actor) _ actor (of.ended _ refl refl) is

  ended_too : (subtree : List ℕ) (number : ℕ) (end : ActorRecord → ActorRecord) → ((actor : ActorRecord) → M (end actor)) → (actor : ActorRecord) → M actor → M (record_after_end subtree number end actor)
  ended_too subtree number end ends actor is =
      if_record M (nat_eq actor.number number) (end actor) _ (ends actor) (if_record M (is_among subtree actor.number) (stopped_record actor) actor (stopped_too actor is) is)

  pub everywhere_kept : IsKeptBesideTaking (Everywhere M first_letter first_actor)
  unfolding removed after_end
  everywhere_kept = record {
    letter = λ state from number event is. (
      at_number M number (with_mail (record { number = state.next_letter; origin = from; event = event }))
          (λ actor mail. of.more actor (record { number = state.next_letter; origin = from; event = event }) is.1 mail)
          state.actors is.0,
      omega arith,
      is.2,
    );
    timers = λ state timers next is. is;
    own = λ state number own is. (at_number M number (λ (actor : ActorRecord). record actor { own = Some own }) (λ actor mail. of.same actor (record actor { own = Some own }) refl refl refl mail) state.actors is.0, is.1, is.2);
    born = λ state parent system own item is. (
      one_more M state.actors (fresh_record state.next_actor parent system own item) is.0 (of.fresh (fresh_record state.next_actor parent system own item) is.2 refl),
      is.1,
      omega arith,
    );
    kid = λ state number id child is. (at_number M number (with_kid id child) (λ actor mail. of.same actor (with_kid id child actor) refl refl refl mail) state.actors is.0, is.1, is.2);
    no_kid = λ state number id is. (at_number M number (without_kid id) (λ actor mail. of.same actor (without_kid id actor) refl refl refl mail) state.actors is.0, is.1, is.2);
    gone = λ state number is. (all_filter M (λ (actor : ActorRecord). not (is_among (subtree_of state number) actor.number)) state.actors is.0, is.1, is.2);
    done = λ state number output is. (
      all_map M M (record_after_end (subtree_of state number) number (done_record output))
          (ended_too (subtree_of state number) number (done_record output) (λ actor. of.ended (done_record output actor) refl refl)) state.actors is.0,
      is.1,
      is.2,
    );
    failed = λ state number error is. (
      all_map M M (record_after_end (subtree_of state number) number (error_record error))
          (ended_too (subtree_of state number) number (error_record error) (λ actor. of.ended (error_record error actor) refl refl)) state.actors is.0,
      is.1,
      is.2,
    );
    entry = λ state is. is;
    moment = λ state moment timers is. is;
    callers = λ state callers is. is;
  }

-- ---- facts of each letter that waits

module _ (P : ℕ → Letter → Type 0) (first_letter : ℕ) (new : (number : ℕ) (letter : Letter) → first_letter ≤ letter.number → P number letter) where
  -- each letter of a mailbox has the property at the actor's number
  abbrev pub Mail : ActorRecord → Type 0
  Mail actor = AllByRecursion (P actor.number) actor.mailbox

  empty_mail : (actor : ActorRecord) → actor.mailbox ≡ [] → Mail actor
  empty_mail actor empty = subst (λ (letters : List Letter). AllByRecursion (P actor.number) letters) (sym empty) tt

  mail_is_of_mailboxes : IsOfMailboxes Mail first_letter 0
  mail_is_of_mailboxes = record {
    same = λ actor other number status mailbox is. subst (λ (letters : List Letter). AllByRecursion (P other.number) letters) (sym mailbox) (subst (λ (n : ℕ). AllByRecursion (P n) actor.mailbox) (sym number) is);
    ended = λ actor over empty. empty_mail actor empty;
    fresh = λ actor later empty. empty_mail actor empty;
    more = λ actor letter later is. one_more (P actor.number) actor.mailbox letter is (new actor.number letter later);
  }

  pub mail_kept_beside_taking : IsKeptBesideTaking (Everywhere Mail first_letter 0)
  mail_kept_beside_taking = everywhere_kept Mail first_letter 0 mail_is_of_mailboxes

  pub mail_kept : IsKept (Everywhere Mail first_letter 0)
  mail_kept =
      with_taking (Everywhere Mail first_letter 0) mail_kept_beside_taking (λ state number is. (
        at_number Mail number (λ (actor : ActorRecord). record actor { mailbox = drop 1 actor.mailbox }) (λ actor mail. all_drop (P actor.number) 1 actor.mailbox mail) state.actors is.0,
        is.1,
        is.2,
      ))
