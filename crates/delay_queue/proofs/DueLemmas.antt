-- The timer that is due first, and the timers in the order of due.
use Rattle.std.proofs.Common.{◌≡◌, ◌≢◌, ℕ, zero, suc, ◌<◌, ◌≤◌, Bool, true, false, cond, not, List, [], ◌∷◌, ◌++◌, ◌⊎◌, drop, map, filter, nat_eq, nat_le, slice_get, get_or, length, unwrap_or, Option, Some, None, refl, sym, ap, ◌∙◌, subst, inl, inr, arith}
use Rattle.std.specs.declared.cmp.Ordering.{Ordering}
use Rattle.std.specs.declared.cmp.Ordering.TheVariants.{Less, Equal, Greater}
use Rattle.std.specs.Ordering.{nat_cmp, ordering_then}
use Rattle.std.specs.Option.{option_map_or}
use Rattle.std.specs.List.Sorted.{IsStrictlySortedBy}
use Rattle.std.proofs.lemmas.Bool.{eq-eqb, eqb-true, leb-false, leb-true}
use Rattle.std.proofs.lemmas.Bool.Decides.{nat_tests}
use Rattle.std.proofs.lemmas.Cmp.{nat_cmp_total, nat_list_cmp_total, ranked, tied_itself}
use Rattle.xs_model.specs.Rising.{key_cmp}
use Rattle.office_types.specs.declared.office.Timer.{Timer}
use Rattle.office_types.specs.Timers.{by_due, due_by, insert_by_due, not_due}
use Rattle.office_books.specs.KeyIndex.{IsIn, IsKeyIndex}
use Rattle.office_books.specs.Sorted.{RisesBy, IsAt}
use Rattle.office_books.proofs.KeyIndexLemmas.{all_in, from_filter, in_filter, index_free, none_is_some, other_number}
use Rattle.office_books.proofs.SortedLemmas.{rises_filter}
use Rattle.delay_queue.specs.Queue.{due_of, falls_due, IsOneOf, timer_of, without_number}
use Rattle.delay_queue.specs.TimerKeys.{due_key, due_key_in, keyed}
use Rattle.delay_queue.proofs.QueueLemmas.{found_in, found_timer, from_keyed, kept_all, keyed_in}
use Rattle.delay_queue.proofs.TimerLemmas.{key_found, keyed_without}

pub is_late : (due moment : ℕ) → moment < due → nat_le due moment ≡ false
is_late due moment later = grind (arith, nat_tests)

pub is_early : (due moment : ℕ) → due ≤ moment → nat_le due moment ≡ true
is_early due moment before = grind (arith, nat_tests)

-- the head is due before a timer, or with it and not newer
abbrev pub GoesBefore : Timer → Timer → Type 0
GoesBefore head timer = (head.due < timer.due) ⊎ ((head.due ≡ timer.due) × (head.order ≤ timer.order))

not_after : (head timer : Timer) → GoesBefore head timer → head.due ≤ timer.due
not_after head timer (inl before) = omega (arith, before)
not_after head timer (inr tied) = omega (arith, tied.0)

by_key : (a b : Timer) → key_cmp (due_key a) (due_key b) ≡ Less → GoesBefore a b
by_key a b = cases (nat_cmp a.due b.due) refl
  where
    tied : a.due ≡ b.due → (o : Ordering) → nat_cmp a.order b.order ≡ o → ordering_then o Equal ≡ Less → GoesBefore a b
    tied e Less below less = let low : a.order < b.order = ranked a.order b.order Less (sym below) in inr (e, omega arith)
    tied e Equal below less = absurd (cc)
    tied e Greater below less = absurd (cc)

    cases : (o : Ordering) → nat_cmp a.due b.due ≡ o → ordering_then o (ordering_then (nat_cmp a.order b.order) Equal) ≡ Less → GoesBefore a b
    cases Less e less = inl (ranked a.due b.due Less (sym e))
    cases Equal e less = tied (ranked a.due b.due Equal (sym e)) (nat_cmp a.order b.order) refl less
    cases Greater e less = absurd (cc)

module _ (timers : List Timer) (order : ℕ) (numbers : List ℕ) (index : IsKeyIndex (keyed due_key timers) (order ∷ numbers)) where
  -- the first number is that of a timer
  pub first_stands : timer_of order timers ≡ None → ⊥
  first_stands none =
      let here = from_keyed due_key timers (due_key_in timers order, order) (index.has_only order (inl refl)) in
      let this : timer_of order timers ≡ Some here.0 =
      subst (λ (n : ℕ). timer_of n timers ≡ Some here.0) here.2 (found_in due_key timers here.0 index.numbers_rise here.1) in
      none_is_some {x = here.0} (sym none ∙ this)

  module _ (head : Timer) (found : timer_of order timers ≡ Some head) where
    same_order : (t : Timer) → IsIn t timers → t.order ≡ order → t ≡ head
    same_order t t_in same =
        let this : timer_of order timers ≡ Some t = subst (λ (n : ℕ). timer_of n timers ≡ Some t) same (found_in due_key timers t index.numbers_rise t_in) in
        ap (λ (o : Option Timer). unwrap_or o t) (sym this ∙ found)

    key_is : (t : Timer) → IsIn t timers → due_key_in timers t.order ≡ due_key t
    key_is t t_in = key_found due_key timers t.order ∙ ap (λ (o : Option Timer). option_map_or due_key o []) (found_in due_key timers t index.numbers_rise t_in)

    first_key : due_key_in timers order ≡ due_key head
    first_key = key_found due_key timers order ∙ ap (λ (o : Option Timer). option_map_or due_key o []) found

    -- no timer is due before the first
    before_all : (t : Timer) → IsIn t timers → GoesBefore head t
    unfolding IsStrictlySortedBy
    before_all t t_in =
        elim (index.has_each (due_key t, t.order) (keyed_in due_key timers t t_in)) [
          | inl same ↦
              let this = same_order t t_in (sym same) in
              let due : t.due ≡ head.due = ap (λ (s : Timer). s.due) this in
              let number : t.order ≡ head.order = ap (λ (s : Timer). s.order) this in
              inr (sym due, omega arith)
          | inr later ↦
              let less : key_cmp (due_key_in timers order) (due_key_in timers t.order) ≡ Less = all_in (λ l. key_cmp (due_key_in timers order) l ≡ Less) (due_key_in timers) numbers t.order index.keys_rise.0 later in
              by_key head t (sym (ap (λ (k : List ℕ). key_cmp k (due_key t)) first_key) ∙ (sym (ap (key_cmp (due_key_in timers order)) (key_is t t_in)) ∙ less))
        ]

    lowest : (t : Timer) → IsIn t timers → head.due ≤ t.due
    lowest t t_in = not_after head t (before_all t t_in)

    pub none_yet : (moment : ℕ) → moment < head.due → timers ≡ not_due moment timers
    none_yet moment later = kept_all (λ (t : Timer). not (nat_le t.due moment)) timers (λ t t_in. let after : head.due ≤ t.due = lowest t t_in in ap not (is_late t.due moment (omega arith)))

    pub first_is_due : (moment : ℕ) → head.due ≤ moment → IsOneOf (falls_due moment) order timers
    first_is_due moment before =
        let here = found_timer timers order head found in
        record {
          timer = head;
          is_in = here.0;
          has_number = here.1;
          passes = λ other other_in same.
              let this : other.due ≡ head.due = ap (λ (s : Timer). s.due) (same_order other other_in same) in
              is_early other.due moment (omega arith);
        }

pub none_at_all : (timers : List Timer) (moment : ℕ) → IsKeyIndex (keyed due_key timers) [] → timers ≡ not_due moment timers
none_at_all timers moment index = kept_all (λ (t : Timer). not (nat_le t.due moment)) timers (λ t t_in. absurd (index.has_each (due_key t, t.order) (keyed_in due_key timers t t_in)))

-- ---- the timers in the order of due

none_early : (moment : ℕ) (timers : List Timer) → ((t : Timer) → IsIn t timers → moment < t.due) → filter (λ (t : Timer). nat_le t.due moment) timers ≡ []
none_early moment [] later = refl
none_early moment (t ∷ timers) later = rw (is_late t.due moment (later t (inl refl))) (none_early moment timers (λ s s_in. later s (inr s_in)))

pub none_due : (moment : ℕ) (timers : List Timer) → ((t : Timer) → IsIn t timers → moment < t.due) → due_by moment timers ≡ []
none_due moment timers later = ap by_due (none_early moment timers later)

goes_first : (timer : Timer) (others : List Timer) → ((t : Timer) → IsIn t others → timer.due ≤ t.due) → insert_by_due timer others ≡ timer ∷ others
goes_first timer [] lowest = refl
goes_first timer (other ∷ others) lowest = rw (is_early timer.due other.due (lowest other (inl refl))) refl

in_insert_by_due : (timer : Timer) (others : List Timer) (t : Timer) → IsIn t (insert_by_due timer others) → (timer ≡ t) ⊎ IsIn t others
in_insert_by_due timer [] t (inl e) = inl e
in_insert_by_due timer [] t (inr nowhere) = absurd nowhere
in_insert_by_due timer (other ∷ others) t is_in = cases (in_insert_by_due timer others t) (nat_le timer.due other.due) is_in
  where
    cases : (IsIn t (insert_by_due timer others) → (timer ≡ t) ⊎ IsIn t others) → (b : Bool)
        → IsIn t (cond b (timer ∷ other ∷ others) (other ∷ insert_by_due timer others)) → (timer ≡ t) ⊎ IsIn t (other ∷ others)
    cases rest true (inl e) = inl e
    cases rest true (inr later) = inr later
    cases rest false (inl e) = inr (inl e)
    cases rest false (inr later) = elim (rest later) [ inl e ↦ inl e | inr old ↦ inr (inr old) ]

in_by_due : (timers : List Timer) (t : Timer) → IsIn t (by_due timers) → IsIn t timers
in_by_due [] t nowhere = nowhere
in_by_due (first ∷ timers) t is_in = elim (in_insert_by_due first (by_due timers) t is_in) [ inl e ↦ inl e | inr old ↦ inr (in_by_due timers t old) ]

-- of timers by number, the one that goes before all others is the first in the order of due
pub first_by_due : (timers : List Timer) (head : Timer) → RisesBy nat_cmp (λ (t : Timer). t.order) timers → IsIn head timers → ((t : Timer) → IsIn t timers → GoesBefore head t)
    → by_due timers ≡ head ∷ by_due (without_number head.order timers)
unfolding IsStrictlySortedBy
first_by_due [] head rises is_in lowest = absurd is_in
first_by_due (first ∷ timers) head rises (inl e) lowest =
    let front : insert_by_due first (by_due timers) ≡ first ∷ by_due timers =
    goes_first first (by_due timers) (λ t t_in. subst (λ (h : Timer). h.due ≤ t.due) (sym e) (not_after head t (lowest t (inr (in_by_due timers t t_in))))) in
    let this : nat_eq first.order head.order ≡ true = eq-eqb first.order head.order (ap (λ (t : Timer). t.order) e) in
    let others : timers ≡ without_number head.order timers =
    kept_all (λ (t : Timer). not (nat_eq t.order head.order)) timers (λ t t_in.
    let above : nat_cmp first.order t.order ≡ Less = all_in (λ l. nat_cmp first.order l ≡ Less) (λ (s : Timer). s.order) timers t rises.0 t_in in
    let low : first.order < t.order = ranked first.order t.order Less (sym above) in
    let same : first.order ≡ head.order = ap (λ (t : Timer). t.order) e in
    ap not (other_number t.order head.order (λ equal. omega arith))) in
    rw this (front ∙ (ap (λ (h : Timer). h ∷ by_due timers) e ∙ ap (λ (l : List Timer). head ∷ by_due l) others))
first_by_due (first ∷ timers) head rises (inr later) lowest =
    let above : nat_cmp first.order head.order ≡ Less = all_in (λ l. nat_cmp first.order l ≡ Less) (λ (s : Timer). s.order) timers head rises.0 later in
    let low : first.order < head.order = ranked first.order head.order Less (sym above) in
    let before : head.due < first.due = elim (lowest first (inl refl)) [ inl b ↦ b | inr tied ↦ absurd (omega (arith, tied.1)) ] in
    let rest = first_by_due timers head rises.1 later (λ t t_in. lowest t (inr t_in)) in
    let other : nat_eq first.order head.order ≡ false = other_number first.order head.order (λ same. omega arith) in
    rw (other, rest, is_late first.due head.due before) refl

-- ---- the front of the numbers in the order of due

abbrev pub front_with : Option Timer → List Timer → List Timer
front_with None rest = []
front_with (Some timer) rest = timer ∷ rest

-- the timers of numbers, up to the first that isn't due yet
abbrev pub due_front : ℕ → List Timer → List ℕ → List Timer
due_front moment timers [] = []
due_front moment timers (number ∷ numbers) = front_with (due_of moment (timer_of number timers)) (due_front moment timers numbers)

same_front : (moment : ℕ) (timers others : List Timer) (numbers : List ℕ) → ((n : ℕ) → IsIn n numbers → timer_of n timers ≡ timer_of n others) → due_front moment timers numbers ≡ due_front moment others numbers
same_front moment timers others [] alike = refl
same_front moment timers others (number ∷ numbers) alike =
    ap (λ (o : Option Timer). front_with (due_of moment o) (due_front moment timers numbers)) (alike number (inl refl))
    ∙ ap (front_with (due_of moment (timer_of number others))) (same_front moment timers others numbers (λ n later. alike n (inr later)))

other_timer : (order n : ℕ) (timers : List Timer) → n ≢ order → timer_of n timers ≡ timer_of n (without_number order timers)
other_timer order n [] apart = refl
other_timer order n (first ∷ timers) apart = cases (other_timer order n timers apart) (nat_eq first.order order) refl
  where
    cases : timer_of n timers ≡ timer_of n (without_number order timers) → (b : Bool) → nat_eq first.order order ≡ b
        → cond (nat_eq first.order n) (Some first) (timer_of n timers) ≡ timer_of n (cond (not b) (first ∷ without_number order timers) (without_number order timers))
    cases rest true e =
        let other : nat_eq first.order n ≡ false = other_number first.order n (λ same. apart (sym same ∙ eqb-true first.order order e)) in
        rw other rest
    cases rest false e = ap (λ (o : Option Timer). cond (nat_eq first.order n) (Some first) o) rest

filters_swap : (p q : Timer → Bool) (timers : List Timer) → filter p (filter q timers) ≡ filter q (filter p timers)
filters_swap p q [] = refl
filters_swap p q (first ∷ timers) = cases (filters_swap p q timers) (p first) (q first) refl refl
  where
    cases : filter p (filter q timers) ≡ filter q (filter p timers) → (b t : Bool) → p first ≡ b → q first ≡ t
        → filter p (cond t (first ∷ filter q timers) (filter q timers)) ≡ filter q (cond b (first ∷ filter p timers) (filter p timers))
    cases rest true true e f = rw (e, f) (ap (λ (l : List Timer). first ∷ l) rest)
    cases rest true false e f = rw f rest
    cases rest false true e f = rw e rest
    cases rest false false e f = rest

keyed_orders : (key : Timer → List ℕ) (timers : List Timer) → map (λ (pair : List ℕ × ℕ). pair.1) (keyed key timers) ≡ map (λ (t : Timer). t.order) timers
keyed_orders key [] = refl
keyed_orders key (first ∷ timers) = ap (λ (l : List ℕ). first.order ∷ l) (keyed_orders key timers)

module _ (moment : ℕ) (timers : List Timer) (order : ℕ) (numbers : List ℕ) (index : IsKeyIndex (keyed due_key timers) (order ∷ numbers)) (head : Timer) (found : timer_of order timers ≡ Some head) where
  abbrev early : Timer → Bool
  early t = nat_le t.due moment

  index_rest : IsKeyIndex (keyed due_key (without_number order timers)) numbers
  unfolding IsStrictlySortedBy
  index_rest =
      let here = found_timer timers order head found in
      let key = due_key_in timers order in
      let is_in : IsIn (key, order) (keyed due_key timers) = index.has_only order (inl refl) in
      let at : IsAt key_cmp key 0 (map (due_key_in timers) (order ∷ numbers)) = (tied_itself nat_list_cmp_total key, index.keys_rise.0) in
      rw (keyed_without due_key timers order) (index_free (keyed due_key timers) (order ∷ numbers) index key order 0 is_in at)

  rest_alike : (n : ℕ) → IsIn n numbers → timer_of n timers ≡ timer_of n (without_number order timers)
  unfolding IsStrictlySortedBy
  rest_alike n n_in =
      other_timer order n timers (λ same.
      let less : key_cmp (due_key_in timers order) (due_key_in timers n) ≡ Less = all_in (λ l. key_cmp (due_key_in timers order) l ≡ Less) (due_key_in timers) numbers n index.keys_rise.0 n_in in
      let tied : key_cmp (due_key_in timers order) (due_key_in timers n) ≡ Equal =
      ap (λ (m : ℕ). key_cmp (due_key_in timers order) (due_key_in timers m)) same ∙ tied_itself nat_list_cmp_total (due_key_in timers order) in
      cc)

  first_taken : head.due ≤ moment → due_by moment timers ≡ head ∷ due_by moment (without_number order timers)
  first_taken before =
      let here = found_timer timers order head found in
      let rises : RisesBy nat_cmp (λ (t : Timer). t.order) timers = subst (IsStrictlySortedBy nat_cmp) (keyed_orders due_key timers) index.numbers_rise in
      let first = first_by_due (filter early timers) head (rises_filter nat_cmp_total (λ (t : Timer). t.order) early timers rises)
      (in_filter early timers head here.0 (is_early head.due moment before))
      (λ t t_in. before_all timers order numbers index head found t (from_filter early timers t t_in).0) in
      let swapped = filters_swap (λ (t : Timer). not (nat_eq t.order head.order)) early timers in
      first ∙ (ap (λ (l : List Timer). head ∷ by_due l) swapped ∙ ap (λ (n : ℕ). head ∷ due_by moment (without_number n timers)) here.1)

  none_taken : moment < head.due → due_by moment timers ≡ []
  none_taken later = none_due moment timers (λ t t_in. let after : head.due ≤ t.due = lowest timers order numbers index head found t t_in in omega arith)

pub front_is_due : (moment : ℕ) (timers : List Timer) (numbers : List ℕ) → IsKeyIndex (keyed due_key timers) numbers → due_front moment timers numbers ≡ due_by moment timers
front_is_due moment timers [] index = sym (none_due moment timers (λ t t_in. absurd (index.has_each (due_key t, t.order) (keyed_in due_key timers t t_in))))
front_is_due moment timers (order ∷ numbers) index = cases (λ others i. front_is_due moment others numbers i) (timer_of order timers) refl
  where
    test : ((others : List Timer) → IsKeyIndex (keyed due_key others) numbers → due_front moment others numbers ≡ due_by moment others) → (head : Timer) → timer_of order timers ≡ Some head → (b : Bool) → nat_le head.due moment ≡ b → front_with (cond b (Some head) None) (due_front moment timers numbers) ≡ due_by moment timers
    test others_too head found true e =
        let rest = others_too (without_number order timers) (index_rest moment timers order numbers index head found) in
        let alike = same_front moment timers (without_number order timers) numbers (rest_alike moment timers order numbers index head found) in
        ap (λ (l : List Timer). head ∷ l) (alike ∙ rest) ∙ sym (first_taken moment timers order numbers index head found (leb-true head.due moment e))
    test others_too head found false e = sym (none_taken moment timers order numbers index head found (leb-false head.due moment e))

    cases : ((others : List Timer) → IsKeyIndex (keyed due_key others) numbers → due_front moment others numbers ≡ due_by moment others) → (o : Option Timer) → timer_of order timers ≡ o → front_with (due_of moment o) (due_front moment timers numbers) ≡ due_by moment timers
    cases others_too None none = absurd (first_stands timers order numbers index none)
    cases others_too (Some head) found = test others_too head found (nat_le head.due moment) refl

-- ---- the first of the numbers

abbrev ByDue : List Timer → List ℕ → Type 0
ByDue timers numbers = IsKeyIndex (keyed due_key timers) numbers

first_of : (numbers : List ℕ) (order : ℕ) → Some order ≡ slice_get numbers 0 → numbers ≡ order ∷ drop 1 numbers
first_of [] order e = absurd (none_is_some {x = order} (sym e))
first_of (number ∷ numbers) order e = ap (λ (o : Option ℕ). unwrap_or o order ∷ numbers) (sym e)

no_first : (numbers : List ℕ) → ◌≡◌ {A = Option ℕ} None (slice_get numbers 0) → numbers ≡ []
no_first [] e = refl
no_first (number ∷ numbers) e = absurd (none_is_some {x = number} e)

is_taken : (moment : ℕ) (o : Option Timer) (timer : Timer) → Some timer ≡ due_of moment o → (o ≡ Some timer) × (timer.due ≤ moment)
is_taken moment None timer e = absurd (none_is_some {x = timer} (sym e))
is_taken moment (Some other) timer e = test (nat_le other.due moment) refl e
  where
    test : (b : Bool) → nat_le other.due moment ≡ b → Some timer ≡ cond b (Some other) None → (Some other ≡ Some timer) × (timer.due ≤ moment)
    test true before same =
        let this : timer ≡ other = ap (λ (o : Option Timer). unwrap_or o timer) same in
        (sym same, subst (λ (t : Timer). t.due ≤ moment) (sym this) (leb-true other.due moment before))
    test false before nothing = absurd (none_is_some {x = timer} (sym nothing))

is_left : (moment : ℕ) (o : Option Timer) → ◌≡◌ {A = Option Timer} None (due_of moment o) → (o ≡ None) ⊎ ((head : Timer) × (o ≡ Some head) × (moment < head.due))
is_left moment None e = inl refl
is_left moment (Some head) e = test (nat_le head.due moment) refl e
  where
    test : (b : Bool) → nat_le head.due moment ≡ b → ◌≡◌ {A = Option Timer} None (cond b (Some head) None) → (◌≡◌ {A = Option Timer} (Some head) None) ⊎ ((h : Timer) × (Some head ≡ Some h) × (moment < h.due))
    test true before same = absurd (none_is_some {x = head} same)
    test false before e = inr (head, refl, leb-false head.due moment before)

module _ (moment : ℕ) (timers : List Timer) (numbers : List ℕ) (index : ByDue timers numbers) where
  pub none_first : ◌≡◌ {A = Option ℕ} None (slice_get numbers 0) → timers ≡ not_due moment timers
  none_first e = none_at_all timers moment (subst (ByDue timers) (no_first numbers e) index)

  module _ (order : ℕ) (first : Some order ≡ slice_get numbers 0) where
    headed : ByDue timers (order ∷ drop 1 numbers)
    headed = subst (ByDue timers) (first_of numbers order first) index

    pub first_found : (timer : Timer) → Some timer ≡ due_of moment (timer_of order timers) → IsOneOf (falls_due moment) order timers
    first_found timer e =
        let taken = is_taken moment (timer_of order timers) timer e in
        first_is_due timers order (drop 1 numbers) headed timer taken.0 moment taken.1

    pub first_left : ◌≡◌ {A = Option Timer} None (due_of moment (timer_of order timers)) → timers ≡ not_due moment timers
    first_left e =
        elim (is_left moment (timer_of order timers) e) [
          | inl none ↦ absurd (first_stands timers order (drop 1 numbers) headed none)
          | inr late ↦ none_yet timers order (drop 1 numbers) headed late.0 late.1 moment late.2
        ]

-- ---- a front that is copied one by one

pub not_empty : (front : List Timer) (timer : Timer) (rest : List Timer) → front ++ timer ∷ rest ≡ [] → ⊥
not_empty [] timer rest e = absurd (cc)
not_empty (first ∷ front) timer rest e = absurd (cc)

pub front_goes_on : (moment : ℕ) (timers : List Timer) (numbers : List ℕ) (i d : ℕ) (timer : Timer) → i < length numbers → Some timer ≡ due_of moment (timer_of (get_or numbers i d) timers)
    → due_front moment timers (drop i numbers) ≡ timer ∷ due_front moment timers (drop (suc i) numbers)
front_goes_on moment timers [] i d timer within e = absurd (omega arith)
front_goes_on moment timers (number ∷ numbers) zero d timer within e = rw (← e) refl
front_goes_on moment timers (number ∷ numbers) (suc i) d timer within e = front_goes_on moment timers numbers i d timer (omega arith) e

pub front_ends : (moment : ℕ) (timers : List Timer) (numbers : List ℕ) (i d : ℕ) → i < length numbers → ◌≡◌ {A = Option Timer} None (due_of moment (timer_of (get_or numbers i d) timers))
    → due_front moment timers (drop i numbers) ≡ []
front_ends moment timers [] i d within e = absurd (omega arith)
front_ends moment timers (number ∷ numbers) zero d within e = rw (← e) refl
front_ends moment timers (number ∷ numbers) (suc i) d within e = front_ends moment timers numbers i d (omega arith) e

pub front_is_over : (moment : ℕ) (timers : List Timer) (numbers : List ℕ) (i : ℕ) → length numbers ≤ i → due_front moment timers (drop i numbers) ≡ []
front_is_over moment timers [] zero over = refl
front_is_over moment timers [] (suc i) over = refl
front_is_over moment timers (number ∷ numbers) zero over = absurd (omega arith)
front_is_over moment timers (number ∷ numbers) (suc i) over = front_is_over moment timers numbers i (omega arith)
