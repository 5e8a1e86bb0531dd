use Rattle.std.proofs.Common.{rules, ◌≡◌, ◌∙◌, ◌-◌, Bool, None, Some, false, ap, arith, sym, ℕ}
use Rattle.std.specs.Prelude.{Option, slice_get}
use Rattle.std.specs.Option.{option_copied, option_map_or}
use Rattle.actor_tree.specs.Notes.{noted}
use Rattle.actor_tree.proofs.NotedLookLemmas.{machine_before, machine_gone, machine_made}
use Rattle.actor_tree.proofs.notes.Notes.is_active_machine.Goals as goal

pub returns-then-contains : goal.returns-then-contains
returns-then-contains c = λ actor office is.
    machine_gone c.args.held.now.office actor (noted c.args.self.now) office.actors is.records c.args.number (sym c.contains.ensures ∙ c.if-contains.true)

pub returns-then-number-first : goal.returns-then-number-first
returns-then-number-first c = λ actor office is.
    c.is_active_machine.ensures
    ∙ machine_before c.args.held.now.office actor (noted c.args.self.now) office.actors is.records c.args.number (sym c.contains.ensures ∙ c.if-contains.false) (omega (arith, c.if-number-first.true, c.next_actor-first.ensures))

pub returns-in-Some : goal.returns-in-Some
returns-in-Some c = λ actor office is.
    let place : slice_get (noted c.args.self.now).machines (c.args.number - c.args.held.now.office.next_actor) ≡ Some c.in-Some.machine.now =
    ap (λ (n : ℕ). slice_get c.args.self.now.machines (c.args.number - n)) (sym c.next_actor-first.ensures) ∙ sym c.get.ensures ∙ ap option_copied c.in-Some.is in
    ap (λ (o : Option Bool). option_map_or (λ (machine : Bool). machine) o false) (sym place)
    ∙ machine_made c.args.held.now.office actor (noted c.args.self.now) office.actors is.records c.args.number (sym c.contains.ensures ∙ c.if-contains.false) (omega (arith, c.if-number-first.false, c.next_actor-first.ensures))

pub returns-in-None : goal.returns-in-None
returns-in-None c = λ actor office is.
    let place : slice_get (noted c.args.self.now).machines (c.args.number - c.args.held.now.office.next_actor) ≡ None =
    ap (λ (n : ℕ). slice_get c.args.self.now.machines (c.args.number - n)) (sym c.next_actor-first.ensures) ∙ sym c.get.ensures ∙ ap option_copied c.in-None.is in
    ap (λ (o : Option Bool). option_map_or (λ (machine : Bool). machine) o false) (sym place)
    ∙ machine_made c.args.held.now.office actor (noted c.args.self.now) office.actors is.records c.args.number (sym c.contains.ensures ∙ c.if-contains.false) (omega (arith, c.if-number-first.false, c.next_actor-first.ensures))
