use Rattle.std.proofs.Common.{◌≡◌, ◌∙◌, Bool, Some, None, ℕ, ap, sym, true}
use Rattle.std.specs.Prelude.{Option, if◌then◌else◌}
use Rattle.actor_tree.specs.Parts.{put}
use Rattle.actor_tree.proofs.AheadLemmas.{machine_active, receiver_is}
use Rattle.actor_tree.proofs.ahead.Ahead.receiver_of.Goals as goal

pub returns-then-is_active_machine-clause-receiver : goal.returns-then-is_active_machine-clause-receiver
returns-then-is_active_machine-clause-receiver c =
    let inside = c.self.inside in
    let before = inside.held.now.office in
    let office = put before inside.parts.items in
    let number = c.in_ok-number.number in
    let pick : Bool → Option ℕ = λ (b : Bool). if b then Some number else None in
    rw (← c.self.view_is)
    (sym (receiver_is before inside.actor inside.parts.items inside.notes c.self.invariant c.args.to.now (Some number) (rw (← c.self.view_is) at c.in_ok-number.ensures)
    ∙ ap pick (sym (c.is_active_machine.ensures inside.actor office c.self.invariant.told) ∙ c.if-is_active_machine.true)))

pub returns-then-is_active_machine-clause-there : goal.returns-then-is_active_machine-clause-there
returns-then-is_active_machine-clause-there c =
    let inside = c.self.inside in
    let office = put inside.held.now.office inside.parts.items in
    rw (← c.self.view_is) (machine_active office c.in_ok-number.number (sym (c.is_active_machine.ensures inside.actor office c.self.invariant.told) ∙ c.if-is_active_machine.true))

pub returns-else-is_active_machine-clause-receiver : goal.returns-else-is_active_machine-clause-receiver
returns-else-is_active_machine-clause-receiver c =
    let inside = c.self.inside in
    let before = inside.held.now.office in
    let office = put before inside.parts.items in
    let number = c.in_ok-number.number in
    let pick : Bool → Option ℕ = λ (b : Bool). if b then Some number else None in
    rw (← c.self.view_is)
    (sym (receiver_is before inside.actor inside.parts.items inside.notes c.self.invariant c.args.to.now (Some number) (rw (← c.self.view_is) at c.in_ok-number.ensures)
    ∙ ap pick (sym (c.is_active_machine.ensures inside.actor office c.self.invariant.told) ∙ c.if-is_active_machine.false)))
