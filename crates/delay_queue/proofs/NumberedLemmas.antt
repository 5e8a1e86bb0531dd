-- Timers that are held under their numbers, and the list of them.
use Rattle.std.proofs.Common.{◌≡◌, ℕ, ◌<◌, Bool, true, false, cond, not, List, [], ◌∷◌, ◌++◌, length, nat_eq, Option, Some, refl, sym, ap, ◌∙◌, arith}
use Rattle.std.specs.List.{All}
use Rattle.std.proofs.lemmas.List.Elements.{All-cons, All-head, All-tail}
use Rattle.office_types.specs.declared.office.Timer.{Timer}
use Rattle.office_books.specs.NumberedItems.{numbered_item, without_numbered_item}
use Rattle.delay_queue.specs.Queue.{HaveTheirNumbers, timer_of, timers_in, without_number}

pub found_by_number : (order : ℕ) (items : List (ℕ × Timer)) → HaveTheirNumbers items → numbered_item order items ≡ timer_of order (timers_in items)
found_by_number order [] theirs = refl
found_by_number order (first ∷ items) theirs =
    ap (λ (n : ℕ). cond (nat_eq n order) (Some first.1) (numbered_item order items)) (sym theirs.0)
    ∙ ap (λ (o : Option Timer). cond (nat_eq first.1.order order) (Some first.1) o) (found_by_number order items theirs.1)

pub same_without : (order : ℕ) (items : List (ℕ × Timer)) → HaveTheirNumbers items → timers_in (without_numbered_item order items) ≡ without_number order (timers_in items)
same_without order [] theirs = refl
same_without order (first ∷ items) theirs =
    cases (same_without order items theirs.1) (nat_eq first.0 order)
    ∙ ap (λ (n : ℕ). cond (not (nat_eq n order)) (first.1 ∷ without_number order (timers_in items)) (without_number order (timers_in items))) (sym theirs.0)
  where
    cases : timers_in (without_numbered_item order items) ≡ without_number order (timers_in items) → (b : Bool)
        → timers_in (cond (not b) (first ∷ without_numbered_item order items) (without_numbered_item order items)) ≡ cond (not b) (first.1 ∷ without_number order (timers_in items)) (without_number order (timers_in items))
    cases rest true = rest
    cases rest false = ap (λ (l : List Timer). first.1 ∷ l) rest

pub numbered_without : (order : ℕ) (items : List (ℕ × Timer)) → HaveTheirNumbers items → HaveTheirNumbers (without_numbered_item order items)
numbered_without order [] theirs = tt
numbered_without order (first ∷ items) theirs =
    let rest = numbered_without order items theirs.1 in
    elim (nat_eq first.0 order) as (λ b. HaveTheirNumbers (cond (not b) (first ∷ without_numbered_item order items) (without_numbered_item order items))) [ true ↦ rest | false ↦ (theirs.0, rest) ]

pub numbered_push : (items : List (ℕ × Timer)) (timer : Timer) → HaveTheirNumbers items → HaveTheirNumbers (items ++ (timer.order, timer) ∷ [])
numbered_push [] timer theirs = (refl, tt)
numbered_push (first ∷ items) timer theirs = (theirs.0, numbered_push items timer theirs.1)

pub timers_push : (items : List (ℕ × Timer)) (order : ℕ) (timer : Timer) → timers_in (items ++ (order, timer) ∷ []) ≡ timers_in items ++ timer ∷ []
timers_push [] order timer = refl
timers_push (first ∷ items) order timer = ap (λ (l : List Timer). first.1 ∷ l) (timers_push items order timer)

pub newer_by_number : (order : ℕ) (items : List (ℕ × Timer)) → HaveTheirNumbers items → All (λ (other : Timer). other.order < order) (timers_in items) → All (λ (pair : ℕ × Timer). pair.0 < order) items
newer_by_number order [] theirs newer = λ k d within. absurd (omega arith)
newer_by_number order (first ∷ items) theirs newer =
    let P : Timer → Type 0 = λ other. other.order < order in
    let Q : ℕ × Timer → Type 0 = λ pair. pair.0 < order in
    let low : first.1.order < order = All-head P first.1 (timers_in items) newer in
    All-cons Q first items (rw (← theirs.0) low) (newer_by_number order items theirs.1 (All-tail P first.1 (timers_in items) newer))

pub same_length : (items : List (ℕ × Timer)) → length items ≡ length (timers_in items)
same_length [] = refl
same_length (first ∷ items) = omega (arith, same_length items)
