-- The head letters of an office's actors after a part of a change.
use Rattle.std.proofs.Common.{◌≡◌, ◌≢◌, ℕ, ◌<◌, Bool, true, false, cond, not, ◌&&◌, ◌||◌, List, [], ◌∷◌, ◌++◌, length, get_or, take, length-take-le, map, filter, fold, drop, find, nat_eq, nat_lt, Option, Some, None, is_some, refl, sym, ap, ◌∙◌, subst, arith}
use Rattle.std.specs.List.{All, AllByRecursion, list_any, slice_get}
use Rattle.std.specs.List.Sorted.{IsStrictlyIncreasing, IsStrictlySortedBy}
use Rattle.std.specs.Option.{option_and_then, option_map, option_map_or}
use Rattle.std.proofs.lemmas.Bool.{eq-eqb, eqb-true}
use Rattle.std.proofs.lemmas.List.{get_or-map, get_or-take, length-map, map-append}
use Rattle.std.proofs.lemmas.List.Kept.{AllPairs-from_increasing}
use Rattle.std.proofs.lemmas.List.Elements.{All-cons, All-head, All-tail}
use Rattle.office_types.specs.declared.office.ActorRecord.{ActorRecord}
use Rattle.office_types.specs.declared.office.Letter.{Letter}
use Rattle.office_types.specs.declared.office.OfficeState.{OfficeState}
use Rattle.office_types.specs.declared.office.Status.{Status}
use Rattle.office_types.specs.Effects.{after_stop, child_named, with_kid, without_kid}
use Rattle.office_types.specs.Ends.{after_end, done_record, ended_record, error_record, has_parent_among, is_among, record_after_end, removed, stopped_record, subtree_of}
use Rattle.office_types.specs.Mailboxes.{with_mail}
use Rattle.office_types.specs.Ready.{Head}
use Rattle.office_types.specs.Records.{actor_record, is_active}
use Rattle.office_books.specs.NumberedItems.{numbered_item, NumbersRise, with_numbered_item, without_numbered_item}
use Rattle.office_books.proofs.KeyIndexLemmas.{other_number}
use Rattle.actor_tree.specs.declared.following.Touch.{Touch}
use Rattle.actor_tree.specs.declared.following.Touch.TheVariants.{Made, Nobody, One}
use Rattle.actor_tree.specs.declared.part.Part.{Part}
use Rattle.actor_tree.specs.declared.part.Part.TheVariants as part
use Rattle.actor_tree.specs.Actors.{record_of}
use Rattle.actor_tree.specs.Following.{head_number, head_numbers, heads_left, silenced, touch_of, without_numbers}
use Rattle.actor_tree.specs.Parts.{CanPut, put_part}
use Rattle.actor_tree.proofs.NumberedLemmas.{Above, Lower, above_all, with_none}

abbrev Letters : Type 0
Letters = List (ℕ × Option ℕ)

abbrev Actors : Type 0
Actors = List ActorRecord

both : {a b : ℕ} {x y : Option ℕ} → a ≡ b → x ≡ y → ◌≡◌ {A = ℕ × Option ℕ} (a, x) (b, y)
both {a} {b} {x} {y} e f = ap (λ (n : ℕ). (n, x)) e ∙ ap (λ (o : Option ℕ). (b, o)) f

-- ---- one actor

silent_by : (b : Bool) → ◌≡◌ {A = Option ℕ} (option_map (λ (head : Head). head.letter) (cond b None None)) None
silent_by true = refl
silent_by false = refl

-- without letters
silent : (actor : ActorRecord) → actor.mailbox ≡ [] → head_number actor ≡ None
silent actor none = rw none (silent_by (is_active actor && (is_some actor.own && nat_lt 0 0)))

-- one that has ended
silent_ended : (actor : ActorRecord) → is_active actor ≡ false → head_number actor ≡ None
silent_ended actor ended = rw ended refl

silent_stopped : (actor : ActorRecord) → head_number (stopped_record actor) ≡ None
silent_stopped actor = cases (is_active actor) refl
  where
    cases : (b : Bool) → is_active actor ≡ b → head_number (cond b (ended_record Status.Stopped actor) actor) ≡ None
    cases true e = silent (ended_record Status.Stopped actor) refl
    cases false e = silent_ended actor e

-- ---- lists of actors

-- a change that keeps numbers and heads
heads_kept : (change : ActorRecord → ActorRecord) → ((actor : ActorRecord) → (change actor).number ≡ actor.number) → ((actor : ActorRecord) → head_number (change actor) ≡ head_number actor) → (n : ℕ) (actors : Actors)
    → head_numbers (map (λ (actor : ActorRecord). cond (nat_eq actor.number n) (change actor) actor) actors) ≡ head_numbers actors
heads_kept change number head n [] = refl
heads_kept change number head n (actor ∷ actors) = cases (nat_eq actor.number n) (heads_kept change number head n actors)
  where
    cases : (b : Bool) → head_numbers (map (λ (actor : ActorRecord). cond (nat_eq actor.number n) (change actor) actor) actors) ≡ head_numbers actors
        → head_numbers (cond b (change actor) actor ∷ map (λ (actor : ActorRecord). cond (nat_eq actor.number n) (change actor) actor) actors) ≡ head_numbers (actor ∷ actors)
    cases true rest = ap (λ (pair : ℕ × Option ℕ). pair ∷ head_numbers (map (λ (actor : ActorRecord). cond (nat_eq actor.number n) (change actor) actor) actors)) (both (number actor) (head actor)) ∙ ap (λ (l : Letters). (actor.number, head_number actor) ∷ l) rest
    cases false rest = ap (λ (l : Letters). (actor.number, head_number actor) ∷ l) rest

heads_kept_by : (keeps : ℕ → Bool) (actors : Actors) → head_numbers (filter (λ (actor : ActorRecord). keeps actor.number) actors) ≡ filter (λ (pair : ℕ × Option ℕ). keeps pair.0) (head_numbers actors)
heads_kept_by keeps [] = refl
heads_kept_by keeps (actor ∷ actors) = cases (keeps actor.number) (heads_kept_by keeps actors)
  where
    cases : (b : Bool) → head_numbers (filter (λ (actor : ActorRecord). keeps actor.number) actors) ≡ filter (λ (pair : ℕ × Option ℕ). keeps pair.0) (head_numbers actors)
        → head_numbers (cond b (actor ∷ filter (λ (actor : ActorRecord). keeps actor.number) actors) (filter (λ (actor : ActorRecord). keeps actor.number) actors))
        ≡ cond b ((actor.number, head_number actor) ∷ filter (λ (pair : ℕ × Option ℕ). keeps pair.0) (head_numbers actors)) (filter (λ (pair : ℕ × Option ℕ). keeps pair.0) (head_numbers actors))
    cases true rest = ap (λ (l : Letters). (actor.number, head_number actor) ∷ l) rest
    cases false rest = rest

-- ---- removal

twice : (p q : ℕ × Option ℕ → Bool) (items : Letters) → filter p (filter q items) ≡ filter (λ (pair : ℕ × Option ℕ). q pair && p pair) items
twice p q [] = refl
twice p q (pair ∷ items) = cases (q pair) (twice p q items)
  where
    cases : (b : Bool) → filter p (filter q items) ≡ filter (λ (pair : ℕ × Option ℕ). q pair && p pair) items
        → filter p (cond b (pair ∷ filter q items) (filter q items)) ≡ cond (b && p pair) (pair ∷ filter (λ (pair : ℕ × Option ℕ). q pair && p pair) items) (filter (λ (pair : ℕ × Option ℕ). q pair && p pair) items)
    cases false rest = rest
    cases true rest = inner (p pair)
      where
        inner : (b : Bool) → cond b (pair ∷ filter p (filter q items)) (filter p (filter q items)) ≡ cond b (pair ∷ filter (λ (pair : ℕ × Option ℕ). q pair && p pair) items) (filter (λ (pair : ℕ × Option ℕ). q pair && p pair) items)
        inner true = ap (λ (l : Letters). pair ∷ l) rest
        inner false = rest

same_filter : (p q : ℕ × Option ℕ → Bool) → ((pair : ℕ × Option ℕ) → p pair ≡ q pair) → (items : Letters) → filter p items ≡ filter q items
same_filter p q same [] = refl
same_filter p q same (pair ∷ items) = rw (same pair) (cases (q pair) (same_filter p q same items))
  where
    cases : (b : Bool) → filter p items ≡ filter q items → cond b (pair ∷ filter p items) (filter p items) ≡ cond b (pair ∷ filter q items) (filter q items)
    cases true rest = ap (λ (l : Letters). pair ∷ l) rest
    cases false rest = rest

all_stay : (items : Letters) → items ≡ filter (λ (pair : ℕ × Option ℕ). not (is_among [] pair.0)) items
all_stay [] = refl
all_stay (pair ∷ items) = ap (λ (l : Letters). pair ∷ l) (all_stay items)

without_is : (numbers : List ℕ) (items : Letters) → without_numbers numbers items ≡ filter (λ (pair : ℕ × Option ℕ). not (is_among numbers pair.0)) items
without_is [] items = all_stay items
without_is (number ∷ numbers) items =
    without_is numbers (without_numbered_item number items)
    ∙ (twice (λ (pair : ℕ × Option ℕ). not (is_among numbers pair.0)) (λ (pair : ℕ × Option ℕ). not (nat_eq pair.0 number)) items
    ∙ same_filter (λ (pair : ℕ × Option ℕ). not (nat_eq pair.0 number) && not (is_among numbers pair.0)) (λ (pair : ℕ × Option ℕ). not (is_among (number ∷ numbers) pair.0)) (λ pair. cases (nat_eq pair.0 number) (is_among numbers pair.0)) items)
  where
    cases : (b c : Bool) → (not b && not c) ≡ not (b || c)
    cases true c = refl
    cases false c = refl

-- ---- ends

abbrev silent_among : List ℕ → ℕ × Option ℕ → ℕ × Option ℕ
silent_among numbers pair = cond (is_among numbers pair.0) (pair.0, None) pair

silenced_is : (numbers : List ℕ) (items : Letters) → silenced numbers items ≡ map (silent_among numbers) items
silenced_is [] items = all_same items
  where
    all_same : (items : Letters) → items ≡ map (silent_among []) items
    all_same [] = refl
    all_same (pair ∷ items) = ap (λ (l : Letters). pair ∷ l) (all_same items)
silenced_is (number ∷ numbers) items = silenced_is numbers (with_numbered_item number None items) ∙ one_more items
  where
    here : (pair : ℕ × Option ℕ) → silent_among numbers (cond (nat_eq pair.0 number) (pair.0, None) pair) ≡ silent_among (number ∷ numbers) pair
    here pair = cases (nat_eq pair.0 number) (is_among numbers pair.0) refl
      where
        cases : (b c : Bool) → is_among numbers pair.0 ≡ c → silent_among numbers (cond b (pair.0, None) pair) ≡ cond (b || c) (pair.0, None) pair
        cases true true e = rw e refl
        cases true false e = rw e refl
        cases false true e = rw e refl
        cases false false e = rw e refl

    one_more : (items : Letters) → map (silent_among numbers) (with_numbered_item number None items) ≡ map (silent_among (number ∷ numbers)) items
    one_more [] = refl
    one_more (pair ∷ items) = rw (here pair) (ap (λ (l : Letters). silent_among (number ∷ numbers) pair ∷ l) (one_more items))

heads_ended : (subtree : List ℕ) (n : ℕ) (end : ActorRecord → ActorRecord) → is_among subtree n ≡ true → ((actor : ActorRecord) → (end actor).number ≡ actor.number) → ((actor : ActorRecord) → (end actor).mailbox ≡ [])
    → (actors : Actors) → map (silent_among subtree) (head_numbers actors) ≡ head_numbers (map (record_after_end subtree n end) actors)
heads_ended subtree n end self number empty [] = refl
heads_ended subtree n end self number empty (actor ∷ actors) =
    ap (λ (pair : ℕ × Option ℕ). pair ∷ map (silent_among subtree) (head_numbers actors)) (one actor)
    ∙ ap (λ (l : Letters). ((record_after_end subtree n end actor).number, head_number (record_after_end subtree n end actor)) ∷ l) (heads_ended subtree n end self number empty actors)
  where
    one : (actor : ActorRecord) → silent_among subtree (actor.number, head_number actor) ≡ ((record_after_end subtree n end actor).number, head_number (record_after_end subtree n end actor))
    one actor = cases (nat_eq actor.number n) refl (is_among subtree actor.number) refl
      where
        stopped : (b : Bool) → (cond b (ended_record Status.Stopped actor) actor).number ≡ actor.number
        stopped true = refl
        stopped false = refl

        cases : (b : Bool) → nat_eq actor.number n ≡ b → (c : Bool) → is_among subtree actor.number ≡ c
            → ◌≡◌ {A = ℕ × Option ℕ} (cond c (actor.number, None) (actor.number, head_number actor)) ((cond b (end actor) (cond c (stopped_record actor) actor)).number, head_number (cond b (end actor) (cond c (stopped_record actor) actor)))
        cases true e true f = sym (both (number actor) (silent (end actor) (empty actor)))
        cases true e false f = absurd (let among : is_among subtree actor.number ≡ true = ap (is_among subtree) (eqb-true actor.number n e) ∙ self in let clash : false ≡ true = sym f ∙ among in cc)
        cases false e true f = sym (both (stopped (is_active actor)) (silent_stopped actor))
        cases false e false f = refl

-- the actor itself is first among those below it
self_among : (state : OfficeState) (n : ℕ) → is_among (subtree_of state n) n ≡ true
unfolding subtree_of
self_among state n = grown state.actors (n ∷ []) (rw (eq-eqb n n refl) refl)
  where
    or_true : (b : Bool) → (b || true) ≡ true
    or_true true = refl
    or_true false = refl

    more : (numbers : List ℕ) (last : ℕ) → is_among numbers n ≡ true → is_among (numbers ++ last ∷ []) n ≡ true
    more [] last e = absurd (cc)
    more (first ∷ numbers) last e = cases (more numbers last) (nat_eq n first) e
      where
        cases : (is_among numbers n ≡ true → is_among (numbers ++ last ∷ []) n ≡ true) → (b : Bool) → (b || is_among numbers n) ≡ true → (b || is_among (numbers ++ last ∷ []) n) ≡ true
        cases rest true e = refl
        cases rest false e = rest e

    grown : (actors : Actors) (found : List ℕ) → is_among found n ≡ true
        → is_among (fold (λ (found : List ℕ) (actor : ActorRecord). cond (has_parent_among found actor) (found ++ actor.number ∷ []) found) found actors) n ≡ true
    grown [] found e = e
    grown (actor ∷ actors) found e = grown actors (cond (has_parent_among found actor) (found ++ actor.number ∷ []) found) (cases (has_parent_among found actor))
      where
        cases : (b : Bool) → is_among (cond b (found ++ actor.number ∷ []) found) n ≡ true
        cases true = more found actor.number e
        cases false = e

-- ---- a part that touches no head letter but those that it empties

ended : (end : ActorRecord → ActorRecord) (state : OfficeState) (n : ℕ) (subtree : List ℕ) → subtree ≡ subtree_of state n → ((actor : ActorRecord) → (end actor).number ≡ actor.number) → ((actor : ActorRecord) → (end actor).mailbox ≡ [])
    → silenced subtree (head_numbers state.actors) ≡ head_numbers (after_end end n state).actors
unfolding after_end
ended end state n subtree is number empty =
    silenced_is subtree (head_numbers state.actors)
    ∙ (ap (λ (numbers : List ℕ). map (silent_among numbers) (head_numbers state.actors)) is ∙ heads_ended (subtree_of state n) n end (self_among state n) number empty state.actors)

stopped : (state : OfficeState) (parent : ℕ) (id subtree : List ℕ) → subtree ≡ option_map_or (subtree_of state) (child_named state parent id) [] → without_numbers subtree (head_numbers state.actors) ≡ head_numbers (after_stop parent id state).actors
unfolding removed
stopped state parent id subtree is = cases (child_named state parent id) is
  where
    cases : (child : Option ℕ) → subtree ≡ option_map_or (subtree_of state) child []
        → without_numbers subtree (head_numbers state.actors) ≡ head_numbers (option_map_or (λ (child : ℕ). record (removed child state) { actors = map (λ (actor : ActorRecord). cond (nat_eq actor.number parent) (without_kid id actor) actor) (removed child state).actors }) child state).actors
    cases None is = ap (λ (numbers : List ℕ). without_numbers numbers (head_numbers state.actors)) is
    cases (Some child) is =
        without_is subtree (head_numbers state.actors)
        ∙ (ap (λ (numbers : List ℕ). filter (λ (pair : ℕ × Option ℕ). not (is_among numbers pair.0)) (head_numbers state.actors)) is
        ∙ (sym (heads_kept_by (λ (number : ℕ). not (is_among (subtree_of state child) number)) state.actors)
        ∙ sym (heads_kept (without_kid id) (λ _. refl) (λ _. refl) parent (filter (λ (actor : ActorRecord). not (is_among (subtree_of state child) actor.number)) state.actors))))

pub untouched : (state : OfficeState) (p : Part) → CanPut state p → touch_of p ≡ Nobody → heads_left p (head_numbers state.actors) ≡ head_numbers (put_part state p).actors
untouched state (part.TakeHead actor) fits none = absurd (cc)
untouched state (part.Own actor own) fits none = absurd (cc)
untouched state (part.Mail origin receiver event) fits none = absurd (cc)
untouched state (part.Schedule timer) fits none = refl
untouched state (part.Cancel owner id) fits none = refl
untouched state (part.Make newcomer) fits none = absurd (cc)
untouched state (part.Join parent id child) fits none = sym (heads_kept (with_kid id child) (λ _. refl) (λ _. refl) parent state.actors)
untouched state (part.Stop parent id subtree) fits none = stopped state parent id subtree fits
untouched state (part.Done actor output subtree) fits none = ended (done_record output) state actor subtree fits (λ _. refl) (λ _. refl)
untouched state (part.Fail actor error subtree) fits none = ended (error_record error) state actor subtree fits (λ _. refl) (λ _. refl)
untouched state (part.Advance moment) fits none = refl

-- ---- a part that touches one head letter

abbrev number_of : ℕ × Option ℕ → ℕ
number_of pair = pair.0

-- no actor of greater numbers is changed
beyond : (change : ActorRecord → ActorRecord) (n : ℕ) (actors : Actors) → numbered_item n (head_numbers actors) ≡ None → head_numbers (map (λ (actor : ActorRecord). cond (nat_eq actor.number n) (change actor) actor) actors) ≡ head_numbers actors
beyond change n [] = λ none. refl
beyond change n (actor ∷ actors) = cases (beyond change n actors) (nat_eq actor.number n)
  where
    cases : (numbered_item n (head_numbers actors) ≡ None → head_numbers (map (λ (actor : ActorRecord). cond (nat_eq actor.number n) (change actor) actor) actors) ≡ head_numbers actors) → (b : Bool)
        → cond b (Some (head_number actor)) (numbered_item n (head_numbers actors)) ≡ None
        → head_numbers (cond b (change actor) actor ∷ map (λ (actor : ActorRecord). cond (nat_eq actor.number n) (change actor) actor) actors) ≡ head_numbers (actor ∷ actors)
    cases rest true none = absurd (cc)
    cases rest false none = ap (λ (l : Letters). (actor.number, head_number actor) ∷ l) (rest none)

not_among : (n : ℕ) (items : Letters) → AllByRecursion (Above n) (map number_of items) → numbered_item n items ≡ None
not_among n items above = cases (numbered_item n items) refl
  where
    cases : (o : Option (Option ℕ)) → numbered_item n items ≡ o → o ≡ None
    cases None e = refl
    cases (Some letter) e = absurd (let low : n < n = above_all n n letter items above e in omega arith)

module _ (change : ActorRecord → ActorRecord) (number : (actor : ActorRecord) → (change actor).number ≡ actor.number) (n : ℕ) where
  abbrev changed : ActorRecord → ActorRecord
  changed actor = cond (nat_eq actor.number n) (change actor) actor

  abbrev its_head : Actors → Option ℕ
  its_head actors = option_and_then head_number (find (λ (actor : ActorRecord). nat_eq actor.number n) (map changed actors))

  -- the actor itself, before those of greater numbers
  changed_here : (actor : ActorRecord) (actors : Actors) → nat_eq actor.number n ≡ true → AllByRecursion (Above actor.number) (map number_of (head_numbers actors))
      → with_numbered_item n (its_head (actor ∷ actors)) (head_numbers (actor ∷ actors)) ≡ head_numbers (map changed (actor ∷ actors))
  changed_here actor actors e above =
      let same : changed actor ≡ change actor = rw e refl in
      let here : nat_eq (change actor).number n ≡ true = ap (λ (m : ℕ). nat_eq m n) (number actor) ∙ e in
      let none : numbered_item n (head_numbers actors) ≡ None = not_among n (head_numbers actors) (subst (λ (m : ℕ). AllByRecursion (Above m) (map number_of (head_numbers actors))) (eqb-true actor.number n e) above) in
      let found : its_head (actor ∷ actors) ≡ head_number (change actor) =
      ap (λ (a : ActorRecord). option_and_then head_number (cond (nat_eq a.number n) (Some a) (find (λ (actor : ActorRecord). nat_eq actor.number n) (map changed actors)))) same
      ∙ ap (λ (b : Bool). option_and_then head_number (cond b (Some (change actor)) (find (λ (actor : ActorRecord). nat_eq actor.number n) (map changed actors)))) here in
      let first : cond (nat_eq actor.number n) (actor.number, head_number (change actor)) (actor.number, head_number actor) ≡ (actor.number, head_number (change actor)) =
      ap (λ (b : Bool). cond b (actor.number, head_number (change actor)) (actor.number, head_number actor)) e in
      ap (λ (o : Option ℕ). with_numbered_item n o (head_numbers (actor ∷ actors))) found
      ∙ (ap (λ (pair : ℕ × Option ℕ). pair ∷ with_numbered_item n (head_number (change actor)) (head_numbers actors)) first
      ∙ (ap (λ (l : Letters). (actor.number, head_number (change actor)) ∷ l) (with_none n (head_number (change actor)) (head_numbers actors) none ∙ sym (beyond change n actors none))
      ∙ (ap (λ (pair : ℕ × Option ℕ). pair ∷ head_numbers (map changed actors)) (both (sym (number actor)) refl)
      ∙ ap (λ (a : ActorRecord). (a.number, head_number a) ∷ head_numbers (map changed actors)) (sym same))))

  -- another one before it
  changed_later : (actor : ActorRecord) (actors : Actors) → nat_eq actor.number n ≡ false → with_numbered_item n (its_head actors) (head_numbers actors) ≡ head_numbers (map changed actors)
      → with_numbered_item n (its_head (actor ∷ actors)) (head_numbers (actor ∷ actors)) ≡ head_numbers (map changed (actor ∷ actors))
  changed_later actor actors e rest =
      let same : changed actor ≡ actor = rw e refl in
      let found : its_head (actor ∷ actors) ≡ its_head actors =
      ap (λ (a : ActorRecord). option_and_then head_number (cond (nat_eq a.number n) (Some a) (find (λ (actor : ActorRecord). nat_eq actor.number n) (map changed actors)))) same
      ∙ ap (λ (b : Bool). option_and_then head_number (cond b (Some actor) (find (λ (actor : ActorRecord). nat_eq actor.number n) (map changed actors)))) e in
      ap (λ (o : Option ℕ). with_numbered_item n o (head_numbers (actor ∷ actors))) found
      ∙ (ap (λ (b : Bool). cond b (actor.number, its_head actors) (actor.number, head_number actor) ∷ with_numbered_item n (its_head actors) (head_numbers actors)) e
      ∙ (ap (λ (l : Letters). (actor.number, head_number actor) ∷ l) rest ∙ ap (λ (a : ActorRecord). (a.number, head_number a) ∷ head_numbers (map changed actors)) (sym same)))

  heads_changed : (actors : Actors) → NumbersRise (head_numbers actors) → with_numbered_item n (its_head actors) (head_numbers actors) ≡ head_numbers (map changed actors)
  unfolding IsStrictlySortedBy
  heads_changed [] rise = refl
  heads_changed (actor ∷ actors) rise = cases (nat_eq actor.number n) refl (heads_changed actors rise.1)
    where
      cases : (b : Bool) → nat_eq actor.number n ≡ b → with_numbered_item n (its_head actors) (head_numbers actors) ≡ head_numbers (map changed actors)
          → with_numbered_item n (its_head (actor ∷ actors)) (head_numbers (actor ∷ actors)) ≡ head_numbers (map changed (actor ∷ actors))
      cases true e rest = changed_here actor actors e rise.0
      cases false e rest = changed_later actor actors e rest

inside : {a b : ℕ} → One a ≡ One b → a ≡ b
inside {a} {b} e = cc

pub one_touched : (state : OfficeState) (p : Part) (n : ℕ) → touch_of p ≡ One n → NumbersRise (heads_left p (head_numbers state.actors))
    → with_numbered_item n (option_and_then head_number (actor_record (put_part state p) n)) (heads_left p (head_numbers state.actors)) ≡ head_numbers (put_part state p).actors
one_touched state (part.TakeHead actor) n one rise = rw (inside one) (heads_changed (λ (actor : ActorRecord). record actor { mailbox = drop 1 actor.mailbox }) (λ _. refl) n state.actors rise)
one_touched state (part.Own actor own) n one rise = rw (inside one) (heads_changed (λ (actor : ActorRecord). record actor { own = Some own }) (λ _. refl) n state.actors rise)
one_touched state (part.Mail origin receiver event) n one rise =
    rw (inside one) (heads_changed (with_mail (record { number = state.next_letter; origin = origin; event = event })) (λ _. refl) n state.actors rise)
one_touched state (part.Schedule timer) n one rise = absurd (cc)
one_touched state (part.Cancel owner id) n one rise = absurd (cc)
one_touched state (part.Make newcomer) n one rise = absurd (cc)
one_touched state (part.Join parent id child) n one rise = absurd (cc)
one_touched state (part.Stop parent id subtree) n one rise = absurd (cc)
one_touched state (part.Done actor output subtree) n one rise = absurd (cc)
one_touched state (part.Fail actor error subtree) n one rise = absurd (cc)
one_touched state (part.Advance moment) n one rise = absurd (cc)

-- ---- a part that actors_made an actor

abbrev IsBelow : ℕ → ActorRecord → Type 0
IsBelow n actor = actor.number < n

lower_heads : (n : ℕ) (actors : Actors) → All (IsBelow n) actors → All (Lower n) (head_numbers actors)
lower_heads n [] below = λ k d within. absurd (omega arith)
lower_heads n (actor ∷ actors) below =
    All-cons (Lower n) (actor.number, head_number actor) (head_numbers actors) (All-head (IsBelow n) actor actors below) (lower_heads n actors (All-tail (IsBelow n) actor actors below))

found_last : (n : ℕ) (made : ActorRecord) → made.number ≡ n → (actors : Actors) → All (IsBelow n) actors → find (λ (actor : ActorRecord). nat_eq actor.number n) (actors ++ made ∷ []) ≡ Some made
found_last n made is [] below = rw (eq-eqb made.number n is) refl
found_last n made is (actor ∷ actors) below =
    let lower : actor.number < n = All-head (IsBelow n) actor actors below in
    rw (other_number actor.number n (λ same. omega arith)) (found_last n made is actors (All-tail (IsBelow n) actor actors below))

pub newcomer_newer : (state : OfficeState) (p : Part) (n : ℕ) → touch_of p ≡ Made → All (IsBelow n) state.actors → All (Lower n) (heads_left p (head_numbers state.actors))
newcomer_newer state (part.Make newcomer) n made below = lower_heads n state.actors below
newcomer_newer state (part.TakeHead actor) n made below = absurd (cc)
newcomer_newer state (part.Own actor own) n made below = absurd (cc)
newcomer_newer state (part.Mail origin receiver event) n made below = absurd (cc)
newcomer_newer state (part.Schedule timer) n made below = absurd (cc)
newcomer_newer state (part.Cancel owner id) n made below = absurd (cc)
newcomer_newer state (part.Join parent id child) n made below = absurd (cc)
newcomer_newer state (part.Stop parent id subtree) n made below = absurd (cc)
newcomer_newer state (part.Done actor output subtree) n made below = absurd (cc)
newcomer_newer state (part.Fail actor error subtree) n made below = absurd (cc)
newcomer_newer state (part.Advance moment) n made below = absurd (cc)

pub newcomer_followed : (state : OfficeState) (p : Part) (n : ℕ) → touch_of p ≡ Made → n ≡ state.next_actor → All (IsBelow n) state.actors
    → heads_left p (head_numbers state.actors) ++ (n, option_and_then head_number (actor_record (put_part state p) n)) ∷ [] ≡ head_numbers (put_part state p).actors
newcomer_followed state (part.Make newcomer) n made is below =
    let record' : ActorRecord = record_of state.next_actor newcomer.actor in
    let found : find (λ (actor : ActorRecord). nat_eq actor.number n) (state.actors ++ record' ∷ []) ≡ Some record' = found_last n record' (sym is) state.actors below in
    ap (λ (o : Option ActorRecord). head_numbers state.actors ++ (n, option_and_then head_number o) ∷ []) found
    ∙ (ap (λ (m : ℕ). head_numbers state.actors ++ (m, head_number record') ∷ []) is ∙ sym (map-append (λ (actor : ActorRecord). (actor.number, head_number actor)) state.actors (record' ∷ [])))
newcomer_followed state (part.TakeHead actor) n made is below = absurd (cc)
newcomer_followed state (part.Own actor own) n made is below = absurd (cc)
newcomer_followed state (part.Mail origin receiver event) n made is below = absurd (cc)
newcomer_followed state (part.Schedule timer) n made is below = absurd (cc)
newcomer_followed state (part.Cancel owner id) n made is below = absurd (cc)
newcomer_followed state (part.Join parent id child) n made is below = absurd (cc)
newcomer_followed state (part.Stop parent id subtree) n made is below = absurd (cc)
newcomer_followed state (part.Done actor output subtree) n made is below = absurd (cc)
newcomer_followed state (part.Fail actor error subtree) n made is below = absurd (cc)
newcomer_followed state (part.Advance moment) n made is below = absurd (cc)

-- ---- the actors of an office, one after the other

abbrev its_number : ActorRecord → ℕ
its_number actor = actor.number

abbrev with_head : ActorRecord → ℕ × Option ℕ
with_head actor = (actor.number, head_number actor)

-- those before an actor have lower numbers
pub earlier_below : (actors : Actors) (index : ℕ) (actor : ActorRecord) → IsStrictlyIncreasing (map its_number actors) → index < length actors → actor ≡ get_or actors index actor → All (Lower actor.number) (head_numbers (take index actors))
earlier_below actors index actor rise below is k d within =
    let counted : length (head_numbers (take index actors)) ≡ length (take index actors) = length-map (take index actors) with_head in
    let taken : length (take index actors) ≡ index = length-take-le index actors (omega arith) in
    let numbers : length (map its_number actors) ≡ length actors = length-map actors its_number in
    let low : k < index = omega arith in
    let one : get_or (head_numbers (take index actors)) k d ≡ with_head (get_or (take index actors) k actor) = get_or-map with_head (take index actors) k actor d (omega arith) in
    let same : get_or (take index actors) k actor ≡ get_or actors k actor = get_or-take index actors k actor low in
    let k_number : get_or (map its_number actors) k 0 ≡ (get_or actors k actor).number = get_or-map its_number actors k actor 0 (omega arith) in
    let its : get_or (map its_number actors) index 0 ≡ (get_or actors index actor).number = get_or-map its_number actors index actor 0 below in
    let less : get_or (map its_number actors) k 0 < get_or (map its_number actors) index 0 = AllPairs-from_increasing (map its_number actors) rise k index 0 low (omega arith) in
    let left : (get_or (head_numbers (take index actors)) k d).0 ≡ get_or (map its_number actors) k 0 = ap (λ (pair : ℕ × Option ℕ). pair.0) one ∙ (ap its_number same ∙ sym k_number) in
    let right : actor.number ≡ get_or (map its_number actors) index 0 = ap its_number is ∙ sym its in
    omega arith
