-- Timers by their numbers, and the keys under which they are sorted.
use Rattle.std.proofs.Common.{◌≡◌, ℕ, ◌<◌, Bool, true, false, cond, not, List, [], ◌∷◌, ◌++◌, get_or, map, nat_eq, Some, None, refl, sym, ap, arith}
use Rattle.std.specs.declared.cmp.Ordering.TheVariants.{Less}
use Rattle.std.specs.Ordering.{nat_cmp}
use Rattle.std.specs.Option.{option_map_or}
use Rattle.std.specs.List.{All, AllByRecursion, remove, find}
use Rattle.std.proofs.lemmas.Cmp.{nat_cmp_total}
use Rattle.std.proofs.lemmas.List.Elements.{All-cons, All-head, All-tail}
use Rattle.office_types.specs.declared.office.Timer.{Timer}
use Rattle.office_types.specs.SystemNames.{without_holder}
use Rattle.office_books.specs.KeyIndex.{text_of_number}
use Rattle.office_books.specs.Sorted.{IsAt, IsAbsentAt}
use Rattle.office_books.proofs.ItemLemmas.{same_number, less}
use Rattle.office_books.proofs.SortedLemmas.{removed_at, kept_gap, found, absent}
use Rattle.delay_queue.specs.Queue.{without_number}
use Rattle.delay_queue.specs.TimerKeys.{keyed}

abbrev number : Timer → ℕ
number timer = timer.order

abbrev is_number : ℕ → Timer → Bool
is_number order timer = nat_eq timer.order order

pub above_all : (timers : List Timer) (order : ℕ) → All (λ (other : Timer). other.order < order) timers → AllByRecursion (λ l. nat_cmp l order ≡ Less) (map number timers)
above_all [] order above = tt
above_all (timer ∷ timers) order above =
    let P : Timer → Type 0 = λ other. other.order < order in
    (less timer.order order (All-head P timer timers above), above_all timers order (All-tail P timer timers above))

module _ (timers : List Timer) (order place : ℕ) where
  pub removed : IsAt nat_cmp order place (map number timers) → remove timers place ≡ without_number order timers
  removed at = removed_at nat_cmp_total number order (is_number order) (λ timer. same_number order timer.order) timers place at

  pub kept : IsAbsentAt nat_cmp order place (map number timers) → timers ≡ without_number order timers
  kept gap = sym (kept_gap nat_cmp_total number order (is_number order) (λ timer. same_number order timer.order) timers place gap)

  pub timer_at : (d : Timer) → IsAt nat_cmp order place (map number timers) → find (λ (timer : Timer). nat_eq timer.order order) timers ≡ Some (get_or timers place d)
  timer_at d at = found nat_cmp_total number order (is_number order) (λ timer. same_number order timer.order) timers place d at

  pub no_timer : IsAbsentAt nat_cmp order place (map number timers) → find (λ (timer : Timer). nat_eq timer.order order) timers ≡ None
  no_timer gap = absent nat_cmp_total number order (is_number order) (λ timer. same_number order timer.order) timers place gap

-- the key of a number is that of its timer
pub key_found : (key : Timer → List ℕ) (timers : List Timer) (order : ℕ) → text_of_number (keyed key timers) order ≡ option_map_or key (find (λ (timer : Timer). nat_eq timer.order order) timers) []
key_found key [] order = refl
key_found key (timer ∷ timers) order =
    let rest = key_found key timers order in
    elim (nat_eq timer.order order) as (λ b. cond b (key timer) (text_of_number (keyed key timers) order) ≡ option_map_or key (cond b (Some timer) (find (λ (t : Timer). nat_eq t.order order) timers)) []) [ true ↦ refl | false ↦ rest ]

-- a timer that is taken out is in no list of keys
pub keyed_without : (key : Timer → List ℕ) (timers : List Timer) (order : ℕ) → keyed key (without_number order timers) ≡ without_holder (keyed key timers) order
keyed_without key [] order = refl
keyed_without key (timer ∷ timers) order =
    let rest = keyed_without key timers order in
    elim (nat_eq timer.order order) as (λ b. keyed key (cond (not b) (timer ∷ without_number order timers) (without_number order timers)) ≡ cond (not b) ((key timer, timer.order) ∷ without_holder (keyed key timers) order) (without_holder (keyed key timers) order)) [
      | true ↦ rest
      | false ↦ ap (λ l. (key timer, timer.order) ∷ l) rest
    ]

pub keyed_push : (key : Timer → List ℕ) (timers : List Timer) (timer : Timer) → keyed key (timers ++ timer ∷ []) ≡ keyed key timers ++ (key timer, timer.order) ∷ []
keyed_push key [] timer = refl
keyed_push key (other ∷ timers) timer = ap (λ l. (key other, other.order) ∷ l) (keyed_push key timers timer)

pub keyed_newer : (key : Timer → List ℕ) (timers : List Timer) (order : ℕ) → All (λ (other : Timer). other.order < order) timers → All (λ (pair : List ℕ × ℕ). pair.1 < order) (keyed key timers)
keyed_newer key [] order above = λ k d within. absurd (omega arith)
keyed_newer key (timer ∷ timers) order above =
    let P : Timer → Type 0 = λ other. other.order < order in
    let Q : List ℕ × ℕ → Type 0 = λ pair. pair.1 < order in
    All-cons Q (key timer, timer.order) (keyed key timers) (All-head P timer timers above) (keyed_newer key timers order (All-tail P timer timers above))
