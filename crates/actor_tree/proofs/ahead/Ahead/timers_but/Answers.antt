use Rattle.std.proofs.Common.{◌≡◌, ◌∙◌, Bool, ℕ, ap, arith, sym}
use Rattle.std.specs.Prelude.{if◌then◌else◌}
use Rattle.actor_tree.specs.Parts.{put}
use Rattle.actor_tree.proofs.NotedTimerLemmas.{cancelled_length}
use Rattle.actor_tree.proofs.ahead.Ahead.timers_but.Goals as goal

pub overflow_sub-result : goal.overflow_sub-result
overflow_sub-result c =
    let inside = c.self.inside in
    let one = ap {B = ℕ} (λ (b : Bool). if b then 1 else 0) c.if-has_timer.true in
    let counted = rw (← c.self.view_is) at c.has_timer.ensures in
    omega (arith, one, counted, c.self.invariant.told.counts.standing, cancelled_length inside.actor c.args.id.now (put inside.held.now.office inside.parts.items).timers)

pub returns-then-has_timer : goal.returns-then-has_timer
returns-then-has_timer c =
    let inside = c.self.inside in
    let one = ap {B = ℕ} (λ (b : Bool). if b then 1 else 0) c.if-has_timer.true in
    let counted = rw (← c.self.view_is) at c.has_timer.ensures in
    rw (← c.self.view_is) (omega (arith, one, counted, c.self.invariant.told.counts.standing, cancelled_length inside.actor c.args.id.now (put inside.held.now.office inside.parts.items).timers))

pub returns-else-has_timer : goal.returns-else-has_timer
returns-else-has_timer c =
    let inside = c.self.inside in
    let none = ap {B = ℕ} (λ (b : Bool). if b then 1 else 0) c.if-has_timer.false in
    let counted = rw (← c.self.view_is) at c.has_timer.ensures in
    rw (← c.self.view_is) (omega (arith, none, counted, c.self.invariant.told.counts.standing, cancelled_length inside.actor c.args.id.now (put inside.held.now.office inside.parts.items).timers))
