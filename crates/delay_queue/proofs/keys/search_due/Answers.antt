use Rattle.std.proofs.Common.{ℕ, ◌∷◌, [], rules}
use Rattle.std.proofs.lemmas.Cmp.{nat_list_cmp_total}
use Rattle.std.proofs.lemmas.Fn.{always_returns_same}
use Rattle.xs_model.specs.Rising.{key_cmp}
use Rattle.office_books.proofs.SortedLemmas.{searched}
use Rattle.delay_queue.specs.Queue.{timers_in}
use Rattle.delay_queue.specs.TimerKeys.{due_key_in}
use Rattle.delay_queue.proofs.keys.search_due.Goals as goal

pub returns : goal.returns
returns c =
    let timers = timers_in c.args.store.now.items in
    let key = c.args.due ∷ c.args.order ∷ [] in
    let facts = c.binary_search_by.ensures in
    let by_key = facts.position (λ (number : ℕ). key_cmp (due_key_in timers number) key) (always_returns_same _ _ _ (λ a r f called. search rules)) in
    let all = searched nat_list_cmp_total (due_key_in timers) c.args.numbers.now key c.binary_search_by.result c.requires.rise facts.bound by_key in
    record { within = all.0; found = all.1; absent = all.2 }
