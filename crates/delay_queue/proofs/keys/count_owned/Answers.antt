use Rattle.std.proofs.Common.{ℕ, nat_lt, rules, arith}
use Rattle.std.specs.Prelude.{nat_le}
use Rattle.std.proofs.lemmas.Fn.{always_returns_same}
use Rattle.delay_queue.specs.Queue.{timers_in}
use Rattle.delay_queue.specs.TimerKeys.{owner_in}
use Rattle.delay_queue.proofs.CountLemmas.{below_first, counted_to, split_count, up_to_first}
use Rattle.delay_queue.proofs.keys.count_owned.Goals as goal

pub returns : goal.returns
returns c =
    let timers = timers_in c.args.store.now.items in
    let numbers = c.args.numbers.now in
    let owner = c.args.owner in
    let low = c.partition_point-begin.ensures in
    let high = c.partition_point-end.ensures in
    let below = low.partitioned (λ (n : ℕ). nat_lt (owner_in timers n) owner) (always_returns_same _ _ _ (λ a r f called. search rules)) (below_first timers numbers c.requires.rise owner) in
    let up_to = high.partitioned (λ (n : ℕ). nat_le (owner_in timers n) owner) (always_returns_same _ _ _ (λ a r f called. search rules)) (up_to_first timers numbers c.requires.rise owner) in
    omega (
      arith,
      split_count (owner_in timers) owner numbers,
      counted_to (λ (n : ℕ). nat_lt (owner_in timers n) owner) numbers c.partition_point-begin.result low.bound below.0 below.1,
      counted_to (λ (n : ℕ). nat_le (owner_in timers n) owner) numbers c.partition_point-end.result high.bound up_to.0 up_to.1,
    )

pub overflow_sub-result : goal.overflow_sub-result
overflow_sub-result c =
    let timers = timers_in c.args.store.now.items in
    let numbers = c.args.numbers.now in
    let owner = c.args.owner in
    let low = c.partition_point-begin.ensures in
    let high = c.partition_point-end.ensures in
    let below = low.partitioned (λ (n : ℕ). nat_lt (owner_in timers n) owner) (always_returns_same _ _ _ (λ a r f called. search rules)) (below_first timers numbers c.requires.rise owner) in
    let up_to = high.partitioned (λ (n : ℕ). nat_le (owner_in timers n) owner) (always_returns_same _ _ _ (λ a r f called. search rules)) (up_to_first timers numbers c.requires.rise owner) in
    omega (
      arith,
      split_count (owner_in timers) owner numbers,
      counted_to (λ (n : ℕ). nat_lt (owner_in timers n) owner) numbers c.partition_point-begin.result low.bound below.0 below.1,
      counted_to (λ (n : ℕ). nat_le (owner_in timers n) owner) numbers c.partition_point-end.result high.bound up_to.0 up_to.1,
    )
