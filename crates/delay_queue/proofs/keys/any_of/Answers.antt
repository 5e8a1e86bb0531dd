use Rattle.std.proofs.Common.{ℕ, rules}
use Rattle.std.specs.Ordering.{nat_cmp}
use Rattle.std.proofs.lemmas.Cmp.{nat_cmp_total}
use Rattle.std.proofs.lemmas.Fn.{always_returns_same}
use Rattle.std.proofs.lemmas.List.Sorted.{searchable_from_sorted}
use Rattle.office_books.proofs.KeyIndexLemmas.{equal_numbers, in_place}
use Rattle.delay_queue.specs.Queue.{timers_in}
use Rattle.delay_queue.specs.TimerKeys.{owner_in}
use Rattle.delay_queue.proofs.OwnerLemmas.{nobody, owners_sorted}
use Rattle.delay_queue.proofs.keys.any_of.Goals as goal

pub returns-in-Ok-clause-some : goal.returns-in-Ok-clause-some
returns-in-Ok-clause-some c =
    let timers = timers_in c.args.store.now.items in
    let facts = c.in-Ok.ensures in
    let by_owner = facts.position (λ (number : ℕ). nat_cmp (owner_in timers number) c.args.owner) (always_returns_same _ _ _ (λ a r f called. search rules)) in
    (in_place c.args.numbers.now c.in-Ok.place 0 facts.bound, equal_numbers _ _ (by_owner 0))

pub returns-in-Err-clause-none : goal.returns-in-Err-clause-none
returns-in-Err-clause-none c =
    let timers = timers_in c.args.store.now.items in
    let numbers = c.args.numbers.now in
    let facts = c.in-Err.ensures in
    let by_owner = facts.position (λ (number : ℕ). nat_cmp (owner_in timers number) c.args.owner) (always_returns_same _ _ _ (λ a r f called. search rules)) in
    let parts = by_owner (searchable_from_sorted nat_cmp_total (owner_in timers) numbers c.args.owner (owners_sorted timers numbers c.requires.rise)) in
    nobody timers numbers c.args.owner c.in-Err.field-0 (λ j d low high. parts.0 j d low high) (λ j d low high. parts.1 j d low high)
