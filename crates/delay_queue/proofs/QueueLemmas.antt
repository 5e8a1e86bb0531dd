-- How the two lists of numbers follow the timers.
use Rattle.std.proofs.Common.{◌≡◌, ℕ, ◌<◌, ◌≤◌, Bool, true, false, cond, not, ◌&&◌, List, [], ◌∷◌, ◌++◌, length, get_or, map, filter, nat_eq, bytes_eq, unwrap_or, Option, Some, None, IfSome, IfNone, refl, sym, ap, ◌∙◌, subst, inl, inr, arith}
use Rattle.std.specs.declared.cmp.Ordering.{Ordering}
use Rattle.std.specs.declared.cmp.Ordering.TheVariants.{Less, Equal, Greater}
use Rattle.std.specs.Ordering.{is_eq, nat_cmp, ordering_then}
use Rattle.std.specs.Option.{option_map_or}
use Rattle.std.specs.List.{All, AllByRecursion, insert, remove, find}
use Rattle.std.specs.List.Sorted.{IsStrictlySortedBy}
use Rattle.std.proofs.lemmas.Bool.{eqb-true, eq-eqb}
use Rattle.std.proofs.lemmas.Cmp.{nat_eq_equiv}
use Rattle.std.proofs.lemmas.List.Elements.{All-filter, All-head, All-tail}
use Rattle.std.proofs.lemmas.Slice.Eq.{bytes_eq-Decides}
use Rattle.xs_model.specs.Rising.{key_cmp}
use Rattle.office_types.specs.declared.office.Timer.{Timer}
use Rattle.office_types.specs.SystemNames.{holder_of}
use Rattle.office_types.specs.Timers.{beside, has_id, without_id, without_owner}
use Rattle.office_books.specs.KeyIndex.{IsIn, text_of_number}
use Rattle.office_books.specs.Sorted.{IsAt, IsAbsentAt, RisesBy}
use Rattle.office_books.proofs.ItemLemmas.{same_number}
use Rattle.office_books.proofs.KeyIndexLemmas.{at_key, equal_bytes, index_free, index_hold, name_in, none_is_some, not_both, one_holder, other_number, stands}
use Rattle.delay_queue.specs.Queue.{HasIndexes, IsOneOf, is_owned, without_number}
use Rattle.delay_queue.specs.TimerKeys.{due_key, due_key_in, id_order, IsNumberOf, IsOwnerAt, IsOwnerGap, keyed, NoneIsOf, owner_in, owner_key, owner_key_in, owner_key_of}
use Rattle.delay_queue.proofs.TimerLemmas.{key_found, keyed_newer, keyed_push, keyed_without}

-- ---- comparisons of keys

then_equal : (o : Ordering) → ordering_then o Equal ≡ o
then_equal Less = refl
then_equal Equal = refl
then_equal Greater = refl

pub due_order : (timer : Timer) (due order : ℕ) → key_cmp (due_key timer) (due ∷ order ∷ []) ≡ ordering_then (nat_cmp timer.due due) (nat_cmp timer.order order)
due_order timer due order = ap (ordering_then (nat_cmp timer.due due)) (then_equal (nat_cmp timer.order order))

pub owner_order : (owner : ℕ) (id : Option (List ℕ)) (order owner' : ℕ) (id' : Option (List ℕ)) (order' : ℕ)
    → key_cmp (owner_key owner id order) (owner_key owner' id' order') ≡ ordering_then (nat_cmp owner owner') (id_order id order id' order')
owner_order owner None order owner' None order' = ap (ordering_then (nat_cmp owner owner')) (then_equal (nat_cmp order order'))
owner_order owner None order owner' (Some id') order' = refl
owner_order owner (Some id) order owner' None order' = refl
owner_order owner (Some id) order owner' (Some id') order' = refl

-- how the key of a number compares, by the timer that has it
pub due_compared : (timers : List Timer) (number due order : ℕ) (timer : Timer) → find (λ (t : Timer). nat_eq t.order number) timers ≡ Some timer
    → key_cmp (due_key_in timers number) (due ∷ order ∷ []) ≡ ordering_then (nat_cmp timer.due due) (nat_cmp timer.order order)
due_compared timers number due order timer found =
    let key : due_key_in timers number ≡ due_key timer = key_found due_key timers number ∙ ap (λ (o : Option Timer). option_map_or due_key o []) found in
    ap (λ (k : List ℕ). key_cmp k (due ∷ order ∷ [])) key ∙ due_order timer due order

pub owner_compared_by : (timers : List Timer) (number owner : ℕ) (id : Option (List ℕ)) (order : ℕ) (timer : Timer) → find (λ (t : Timer). nat_eq t.order number) timers ≡ Some timer
    → key_cmp (owner_key_in timers number) (owner_key owner id order) ≡ ordering_then (nat_cmp timer.owner owner) (id_order timer.id timer.order id order)
owner_compared_by timers number owner id order timer found =
    let key : owner_key_in timers number ≡ owner_key_of timer = key_found owner_key_of timers number ∙ ap (λ (o : Option Timer). option_map_or owner_key_of o []) found in
    ap (λ (k : List ℕ). key_cmp k (owner_key owner id order)) key ∙ owner_order timer.owner timer.id timer.order owner id order

-- the empty key of a number that no timer has
pub due_below : (timers : List Timer) (number due order : ℕ) → find (λ (t : Timer). nat_eq t.order number) timers ≡ None → key_cmp (due_key_in timers number) (due ∷ order ∷ []) ≡ Less
due_below timers number due order none =
    let key : due_key_in timers number ≡ [] = key_found due_key timers number ∙ ap (λ (o : Option Timer). option_map_or due_key o []) none in
    ap (λ (k : List ℕ). key_cmp k (due ∷ order ∷ [])) key

below_any : (owner : ℕ) (id : Option (List ℕ)) (order : ℕ) → key_cmp [] (owner_key owner id order) ≡ Less
below_any owner None order = refl
below_any owner (Some id) order = refl

pub owner_below : (timers : List Timer) (number owner : ℕ) (id : Option (List ℕ)) (order : ℕ) → find (λ (t : Timer). nat_eq t.order number) timers ≡ None
    → key_cmp (owner_key_in timers number) (owner_key owner id order) ≡ Less
owner_below timers number owner id order none =
    let key : owner_key_in timers number ≡ [] = key_found owner_key_of timers number ∙ ap (λ (o : Option Timer). option_map_or owner_key_of o []) none in
    ap (λ (k : List ℕ). key_cmp k (owner_key owner id order)) key ∙ below_any owner id order

-- ---- the timer of a number

pub found_timer : (timers : List Timer) (order : ℕ) (timer : Timer) → find (λ (t : Timer). nat_eq t.order order) timers ≡ Some timer → IsIn timer timers × (timer.order ≡ order)
found_timer [] order timer = λ e. absurd (none_is_some e)
found_timer (first ∷ timers) order timer = cases (found_timer timers order timer) (nat_eq first.order order) refl
  where
    cases : (find (λ (t : Timer). nat_eq t.order order) timers ≡ Some timer → IsIn timer timers × (timer.order ≡ order)) → (b : Bool) → nat_eq first.order order ≡ b
        → cond b (Some first) (find (λ (t : Timer). nat_eq t.order order) timers) ≡ Some timer → IsIn timer (first ∷ timers) × (timer.order ≡ order)
    cases rest true e this =
        let same : first ≡ timer = ap (λ (o : Option Timer). unwrap_or o first) this in
        (inl same, sym (ap (λ (t : Timer). t.order) same) ∙ eqb-true first.order order e)
    cases rest false e later = let found = rest later in (inr found.0, found.1)

pub none_kept : (timers : List Timer) (order : ℕ) → find (λ (t : Timer). nat_eq t.order order) timers ≡ None → timers ≡ without_number order timers
none_kept [] order = λ e. refl
none_kept (first ∷ timers) order = cases (none_kept timers order) (nat_eq first.order order)
  where
    cases : (find (λ (t : Timer). nat_eq t.order order) timers ≡ None → timers ≡ without_number order timers) → (b : Bool)
        → cond b (Some first) (find (λ (t : Timer). nat_eq t.order order) timers) ≡ None → first ∷ timers ≡ cond (not b) (first ∷ without_number order timers) (without_number order timers)
    cases rest true e = absurd (none_is_some {x = first} (sym e))
    cases rest false e = ap (λ l. first ∷ l) (rest e)

pub keyed_in : (key : Timer → List ℕ) (timers : List Timer) (timer : Timer) → IsIn timer timers → IsIn (key timer, timer.order) (keyed key timers)
keyed_in key [] timer is_in = absurd is_in
keyed_in key (first ∷ timers) timer (inl e) = inl (ap (λ (t : Timer). (key t, t.order)) e)
keyed_in key (first ∷ timers) timer (inr later) = inr (keyed_in key timers timer later)

-- ---- the lists after a change

module _ (timers : List Timer) (by_due by_owner : List ℕ) (indexes : HasIndexes timers by_due by_owner) where
  module _ (order : ℕ) (timer : Timer) (found : find (λ (t : Timer). nat_eq t.order order) timers ≡ Some timer) where
    pub has_due : IsIn (timer.due ∷ order ∷ [], order) (keyed due_key timers)
    has_due =
        let here = found_timer timers order timer found in
        subst (λ (n : ℕ). IsIn (timer.due ∷ n ∷ [], n) (keyed due_key timers)) here.1 (keyed_in due_key timers timer here.0)

    pub has_owner : IsIn (owner_key timer.owner timer.id order, order) (keyed owner_key_of timers)
    has_owner =
        let here = found_timer timers order timer found in
        subst (λ (n : ℕ). IsIn (owner_key timer.owner timer.id n, n) (keyed owner_key_of timers)) here.1 (keyed_in owner_key_of timers timer here.0)

    pub indexes_without : (rank place : ℕ) → IsAt key_cmp (timer.due ∷ order ∷ []) rank (map (text_of_number (keyed due_key timers)) by_due)
        → IsAt key_cmp (owner_key timer.owner timer.id order) place (map (text_of_number (keyed owner_key_of timers)) by_owner)
        → HasIndexes (without_number order timers) (remove by_due rank) (remove by_owner place)
    indexes_without rank place due_at owner_at = record {
      due = rw (keyed_without due_key timers order) (index_free (keyed due_key timers) by_due indexes.due (timer.due ∷ order ∷ []) order rank has_due due_at);
      owner = rw (keyed_without owner_key_of timers order) (index_free (keyed owner_key_of timers) by_owner indexes.owner (owner_key timer.owner timer.id order) order place has_owner owner_at);
    }

  pub indexes_with : (timer : Timer) → All (λ (other : Timer). other.order < timer.order) timers → (rank place : ℕ)
      → IsAbsentAt key_cmp (due_key timer) rank (map (text_of_number (keyed due_key timers)) by_due)
      → IsAbsentAt key_cmp (owner_key_of timer) place (map (text_of_number (keyed owner_key_of timers)) by_owner)
      → HasIndexes (timers ++ timer ∷ []) (insert by_due rank timer.order) (insert by_owner place timer.order)
  indexes_with timer newer rank place due_gap owner_gap = record {
    due = rw (keyed_push due_key timers timer) (index_hold (keyed due_key timers) by_due indexes.due (due_key timer) timer.order (keyed_newer due_key timers timer.order newer) rank due_gap);
    owner = rw (keyed_push owner_key_of timers timer) (index_hold (keyed owner_key_of timers) by_owner indexes.owner (owner_key_of timer) timer.order (keyed_newer owner_key_of timers timer.order newer) place owner_gap);
  }

-- ---- keys that are new

and_false : (b : Bool) → (b && false) ≡ false
and_false true = refl
and_false false = refl

pub new_due : (timers : List Timer) (due order : ℕ) → All (λ (other : Timer). other.order < order) timers → holder_of (due ∷ order ∷ []) (keyed due_key timers) ≡ None
new_due [] due order newer = refl
new_due (first ∷ timers) due order newer =
    let P : Timer → Type 0 = λ other. other.order < order in
    let lower : first.order < order = All-head P first timers newer in
    let other : nat_eq order first.order ≡ false = other_number order first.order (λ same. omega arith) in
    let apart : bytes_eq (due ∷ order ∷ []) (due_key first) ≡ false = rw other (and_false (nat_eq due first.due)) in
    rw apart (new_due timers due order (All-tail P first timers newer))

-- an owner's timer of an id is the one of this key
pub has_key : (owner : ℕ) (id : List ℕ) (timer : Timer) → has_id owner id timer ≡ bytes_eq (owner_key owner (Some id) 0) (owner_key_of timer)
has_key owner id timer = cases timer.id
  where
    cases : (other : Option (List ℕ)) → (nat_eq timer.owner owner && option_map_or (bytes_eq id) other false) ≡ bytes_eq (owner ∷ 1 ∷ id) (owner_key timer.owner other timer.order)
    cases None = and_false (nat_eq timer.owner owner) ∙ sym (and_false (nat_eq owner timer.owner))
    cases (Some other) = ap (λ b. b && bytes_eq id other) (nat_eq_equiv.symm timer.owner owner)

new_by_number : (timers : List Timer) (owner order : ℕ) → All (λ (other : Timer). other.order < order) timers → holder_of (owner ∷ 0 ∷ order ∷ []) (keyed owner_key_of timers) ≡ None
new_by_number [] owner order newer = refl
new_by_number (first ∷ timers) owner order newer =
    let P : Timer → Type 0 = λ other. other.order < order in
    let lower : first.order < order = All-head P first timers newer in
    rw (apart (other_number order first.order (λ same. omega arith)) first.id) (new_by_number timers owner order (All-tail P first timers newer))
  where
    apart : nat_eq order first.order ≡ false → (id : Option (List ℕ)) → bytes_eq (owner ∷ 0 ∷ order ∷ []) (owner_key first.owner id first.order) ≡ false
    apart other None = rw other (and_false (nat_eq owner first.owner))
    apart other (Some id) = and_false (nat_eq owner first.owner)

new_by_id : (timers : List Timer) (owner : ℕ) (id : List ℕ) → holder_of (owner ∷ 1 ∷ id) (keyed owner_key_of (without_id owner id timers)) ≡ None
new_by_id [] owner id = refl
new_by_id (first ∷ timers) owner id = cases (new_by_id timers owner id) (has_id owner id first) refl
  where
    cases : holder_of (owner ∷ 1 ∷ id) (keyed owner_key_of (without_id owner id timers)) ≡ None → (b : Bool) → has_id owner id first ≡ b
        → holder_of (owner ∷ 1 ∷ id) (keyed owner_key_of (cond (not b) (first ∷ without_id owner id timers) (without_id owner id timers))) ≡ None
    cases rest true e = rest
    cases rest false e = let other : bytes_eq (owner ∷ 1 ∷ id) (owner_key_of first) ≡ false = sym (has_key owner id first) ∙ e in rw other rest

-- beside what a new timer replaces, no timer has its owner and id
pub new_id : (timer : Timer) (timers : List Timer) → All (λ (other : Timer). other.order < timer.order) timers → holder_of (owner_key_of timer) (keyed owner_key_of (beside timer timers)) ≡ None
new_id timer timers newer = cases timer.id
  where
    cases : (id : Option (List ℕ)) → holder_of (owner_key timer.owner id timer.order) (keyed owner_key_of (option_map_or (λ (given : List ℕ). without_id timer.owner given timers) id timers)) ≡ None
    cases None = new_by_number timers timer.owner timer.order newer
    cases (Some id) = new_by_id timers timer.owner id

-- ---- tests that agree

same_filter : (p q : Timer → Bool) (timers : List Timer) → ((timer : Timer) → IsIn timer timers → p timer ≡ q timer) → filter p timers ≡ filter q timers
same_filter p q [] alike = refl
same_filter p q (first ∷ timers) alike =
    let rest = same_filter p q timers (λ timer later. alike timer (inr later)) in
    rw (alike first (inl refl)) (ap (λ (l : List Timer). cond (q first) (first ∷ l) l) rest)

pub kept_all : (p : Timer → Bool) (timers : List Timer) → ((timer : Timer) → IsIn timer timers → p timer ≡ true) → timers ≡ filter p timers
kept_all p [] all = refl
kept_all p (first ∷ timers) all =
    let rest = kept_all p timers (λ timer later. all timer (inr later)) in
    rw (all first (inl refl)) (ap (λ (l : List Timer). first ∷ l) rest)

-- a timer that is taken out, where those that fail a test are kept anyway
pub skipped : (p : Timer → Bool) (order : ℕ) (timers : List Timer) → ((timer : Timer) → IsIn timer timers → timer.order ≡ order → p timer ≡ true)
    → filter (λ (t : Timer). not (p t)) (without_number order timers) ≡ filter (λ (t : Timer). not (p t)) timers
skipped p order [] passes = refl
skipped p order (first ∷ timers) passes = cases (skipped p order timers (λ timer later. passes timer (inr later))) (nat_eq first.order order) refl
  where
    cases : filter (λ (t : Timer). not (p t)) (without_number order timers) ≡ filter (λ (t : Timer). not (p t)) timers → (b : Bool) → nat_eq first.order order ≡ b
        → filter (λ (t : Timer). not (p t)) (cond (not b) (first ∷ without_number order timers) (without_number order timers))
        ≡ cond (not (p first)) (first ∷ filter (λ (t : Timer). not (p t)) timers) (filter (λ (t : Timer). not (p t)) timers)
    cases rest true e = let this : p first ≡ true = passes first (inl refl) (eqb-true first.order order e) in rw this rest
    cases rest false e = ap (λ (l : List Timer). cond (not (p first)) (first ∷ l) l) rest

not_longer : (order : ℕ) (timers : List Timer) → length (without_number order timers) ≤ length timers
not_longer order [] = omega arith
not_longer order (first ∷ timers) =
    let rest = not_longer order timers in
    elim (nat_eq first.order order) as (λ b. length (cond (not b) (first ∷ without_number order timers) (without_number order timers)) ≤ length (first ∷ timers)) [
      | true ↦ omega (arith, rest)
      | false ↦ omega (arith, rest)
    ]

pub shorter : (order : ℕ) (timers : List Timer) (timer : Timer) → IsIn timer timers → timer.order ≡ order → length (without_number order timers) < length timers
shorter order [] timer is_in same = absurd is_in
shorter order (first ∷ timers) timer (inl e) same =
    let this : nat_eq first.order order ≡ true = eq-eqb first.order order (ap (λ (t : Timer). t.order) e ∙ same) in
    rw this (omega (arith, not_longer order timers))
shorter order (first ∷ timers) timer (inr later) same =
    let rest = shorter order timers timer later same in
    elim (nat_eq first.order order) as (λ b. length (cond (not b) (first ∷ without_number order timers) (without_number order timers)) < length (first ∷ timers)) [
      | true ↦ omega (arith, rest)
      | false ↦ omega (arith, rest)
    ]

order_in : (key : Timer → List ℕ) (timers : List Timer) (timer : Timer) (P : ℕ → Type 0) → AllByRecursion P (map (λ (pair : List ℕ × ℕ). pair.1) (keyed key timers)) → IsIn timer timers → P timer.order
order_in key [] timer P all is_in = absurd is_in
order_in key (t ∷ ts) timer P all (inl e) = subst (λ (s : Timer). P s.order) e all.0
order_in key (t ∷ ts) timer P all (inr later) = order_in key ts timer P all.1 later

-- the timer of a number is the one that stands in the list
pub found_in : (key : Timer → List ℕ) (timers : List Timer) (timer : Timer) → RisesBy nat_cmp (λ (pair : List ℕ × ℕ). pair.1) (keyed key timers) → IsIn timer timers
    → find (λ (t : Timer). nat_eq t.order timer.order) timers ≡ Some timer
unfolding IsStrictlySortedBy
found_in key [] timer rises is_in = absurd is_in
found_in key (first ∷ timers) timer rises (inl e) =
    let this : nat_eq first.order timer.order ≡ true = eq-eqb first.order timer.order (ap (λ (t : Timer). t.order) e) in
    rw this (ap Some e)
found_in key (first ∷ timers) timer rises (inr later) =
    let lower : nat_cmp first.order timer.order ≡ Less = order_in key timers timer (λ l. nat_cmp first.order l ≡ Less) rises.0 later in
    let other : nat_eq first.order timer.order ≡ false = nat_eq_equiv.symm first.order timer.order ∙ (same_number first.order timer.order ∙ ap is_eq lower) in
    rw other (found_in key timers timer rises.1 later)

pub from_keyed : (key : Timer → List ℕ) (timers : List Timer) (pair : List ℕ × ℕ) → IsIn pair (keyed key timers) → (timer : Timer) × IsIn timer timers × (timer.order ≡ pair.1)
from_keyed key [] pair is_in = absurd is_in
from_keyed key (first ∷ timers) pair (inl e) = (first, inl refl, ap (λ (p : List ℕ × ℕ). p.1) e)
from_keyed key (first ∷ timers) pair (inr later) = let rest = from_keyed key timers pair later in (rest.0, inr rest.1, rest.2)

module _ (timers : List Timer) (by_due by_owner : List ℕ) (indexes : HasIndexes timers by_due by_owner) where
  -- ---- cancel

  has_owner_key : (owner : ℕ) (id : List ℕ) (timer : Timer) → IsIn timer timers → has_id owner id timer ≡ true → IsIn (owner_key owner (Some id) 0, timer.order) (keyed owner_key_of timers)
  has_owner_key owner id timer is_in e =
      let same : owner_key owner (Some id) 0 ≡ owner_key_of timer = (bytes_eq-Decides _ _).0 (sym (has_key owner id timer) ∙ e) in
      subst (λ (k : List ℕ). IsIn (k, timer.order) (keyed owner_key_of timers)) (sym same) (keyed_in owner_key_of timers timer is_in)

  module _ (owner : ℕ) (id : List ℕ) (rank d : ℕ) (at : IsOwnerAt timers by_owner owner (Some id) 0 rank) where
    entry : IsIn (get_or by_owner rank d) by_owner × (owner_key_in timers (get_or by_owner rank d) ≡ owner_key owner (Some id) 0)
    entry = at_key equal_bytes (owner_key_in timers) by_owner (owner_key owner (Some id) 0) rank d at

    pub held_key : IsIn (owner_key owner (Some id) 0, get_or by_owner rank d) (keyed owner_key_of timers)
    held_key = subst (λ (k : List ℕ). IsIn (k, get_or by_owner rank d) (keyed owner_key_of timers)) entry.1 (indexes.owner.has_only (get_or by_owner rank d) entry.0)

    agree : (t : Timer) → IsIn t timers → (b : Bool) → has_id owner id t ≡ b → nat_eq t.order (get_or by_owner rank d) ≡ b
    agree t is_in true e =
        eq-eqb t.order (get_or by_owner rank d)
        (one_holder (keyed owner_key_of timers) by_owner indexes.owner (owner_key owner (Some id) 0) t.order (get_or by_owner rank d) (has_owner_key owner id t is_in e) held_key)
    agree t is_in false e =
        other_number t.order (get_or by_owner rank d) (λ same.
        let own : owner_key_in timers t.order ≡ owner_key_of t = name_in (keyed owner_key_of timers) (owner_key_of t, t.order) indexes.owner.numbers_rise (keyed_in owner_key_of timers t is_in) in
        let this : owner_key owner (Some id) 0 ≡ owner_key_of t = sym entry.1 ∙ (ap (owner_key_in timers) (sym same) ∙ own) in
        not_both (has_key owner id t ∙ (bytes_eq-Decides _ _).1 this) e)

    pub cancelled : without_number (get_or by_owner rank d) timers ≡ without_id owner id timers
    cancelled = same_filter (λ (t : Timer). not (nat_eq t.order (get_or by_owner rank d))) (λ (t : Timer). not (has_id owner id t)) timers (λ t is_in. ap not (agree t is_in (has_id owner id t) refl))

  pub not_there : (owner : ℕ) (id : List ℕ) (rank : ℕ) → IsOwnerGap timers by_owner owner (Some id) 0 rank → timers ≡ without_id owner id timers
  not_there owner id rank gap =
      kept_all (λ (t : Timer). not (has_id owner id t)) timers (λ t is_in. ap not (none t is_in (has_id owner id t) refl))
    where
      none : (t : Timer) → IsIn t timers → (b : Bool) → has_id owner id t ≡ b → b ≡ false
      none t is_in false e = refl
      none t is_in true e =
          absurd (stands (keyed owner_key_of timers) by_owner indexes.owner (owner_key owner (Some id) 0) rank t.order (has_owner_key owner id t is_in e) gap)

  -- ---- the timers of an owner

  pub one_of : (owner order : ℕ) → IsIn order by_owner → owner_in timers order ≡ owner → IsOneOf (is_owned owner) order timers
  one_of owner order is_in owned =
      let here = from_keyed owner_key_of timers (owner_key_in timers order, order) (indexes.owner.has_only order is_in) in
      record {
        timer = here.0;
        is_in = here.1;
        has_number = here.2;
        passes = λ other other_in same.
            let this : find (λ (t : Timer). nat_eq t.order order) timers ≡ Some other =
            subst (λ (n : ℕ). find (λ (t : Timer). nat_eq t.order n) timers ≡ Some other) same (found_in owner_key_of timers other indexes.owner.numbers_rise other_in) in
            eq-eqb other.owner owner (sym (ap (λ (o : Option Timer). option_map_or (λ (t : Timer). t.owner) o 0) this) ∙ owned);
      }

  pub none_of : (owner : ℕ) → NoneIsOf owner timers by_owner → timers ≡ without_owner owner timers
  none_of owner nobody = kept_all (λ (t : Timer). not (nat_eq t.owner owner)) timers (λ t is_in. ap not (none t is_in (nat_eq t.owner owner) refl))
    where
      none : (t : Timer) → IsIn t timers → (b : Bool) → nat_eq t.owner owner ≡ b → b ≡ false
      none t is_in false e = refl
      none t is_in true e =
          let this = found_in owner_key_of timers t indexes.owner.numbers_rise is_in in
          absurd (nobody t.order (indexes.owner.has_each (owner_key_of t, t.order) (keyed_in owner_key_of timers t is_in))
          (ap (λ (o : Option Timer). option_map_or (λ (t : Timer). t.owner) o 0) this ∙ eqb-true t.owner owner e))

  pub one_found : (owner : ℕ) (r : Option ℕ) → IfSome r (IsNumberOf owner timers by_owner) → IfSome r (λ order. IsOneOf (is_owned owner) order timers)
  one_found owner None numbered = tt
  one_found owner (Some order) numbered = one_of owner order numbered.0 numbered.1

  pub none_found : (owner : ℕ) (r : Option ℕ) → IfNone r (NoneIsOf owner timers by_owner) → IfNone r (timers ≡ without_owner owner timers)
  none_found owner None nobody = none_of owner nobody
  none_found owner (Some order) nobody = tt

pub newer_beside : (timer : Timer) (timers : List Timer) → All (λ (other : Timer). other.order < timer.order) timers → All (λ (other : Timer). other.order < timer.order) (beside timer timers)
newer_beside timer timers newer = cases timer.id
  where
    cases : (id : Option (List ℕ)) → All (λ (other : Timer). other.order < timer.order) (option_map_or (λ (given : List ℕ). without_id timer.owner given timers) id timers)
    cases None = newer
    cases (Some id) = All-filter (λ (t : Timer). not (has_id timer.owner id t)) (λ (other : Timer). other.order < timer.order) timers newer
