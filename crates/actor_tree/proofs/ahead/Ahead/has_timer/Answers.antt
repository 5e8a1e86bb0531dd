use Rattle.std.proofs.Common.{◌≡◌, ◌∙◌, Bool, List, None, Some, ℕ, ap, sym}
use Rattle.std.specs.Prelude.{Option, unwrap_or, if◌then◌else◌}
use Rattle.std.specs.BTreeMap.{get_by_text}
use Rattle.std.specs.List.{list_any}
use Rattle.std.specs.Option.{option_copied}
use Rattle.office_types.specs.Timers.{has_id}
use Rattle.actor_tree.proofs.ahead.Ahead.has_timer.Goals as goal

pub returns-in-Some : goal.returns-in-Some
returns-in-Some c =
    let inside = c.self.inside in
    let noted : get_by_text inside.notes.timer_ids c.args.id.now ≡ Some c.in-Some.stands.now =
    ap (λ (key : List ℕ). get_by_text inside.notes.timer_ids key) (sym c.as_str.ensures) ∙ sym c.get.ensures.value ∙ ap option_copied c.in-Some.is in
    rw (← c.self.view_is)
    (sym (c.self.invariant.told.timers.own c.args.id.now ∙ ap (λ (o : Option Bool). if unwrap_or o (list_any (has_id inside.actor c.args.id.now) inside.held.now.office.timers) then 1 else 0) noted))

pub returns-in-None : goal.returns-in-None
returns-in-None c =
    let inside = c.self.inside in
    let noted : get_by_text inside.notes.timer_ids c.args.id.now ≡ None =
    ap (λ (key : List ℕ). get_by_text inside.notes.timer_ids key) (sym c.as_str.ensures) ∙ sym c.get.ensures.value ∙ ap option_copied c.in-None.is in
    let had = c.has_timer.ensures ∙ ap (λ (id : List ℕ). list_any (has_id inside.actor id) inside.held.now.office.timers) c.as_bytes.ensures in
    rw (← c.self.view_is)
    (ap (λ (b : Bool). if b then 1 else 0) had
    ∙ sym (c.self.invariant.told.timers.own c.args.id.now ∙ ap (λ (o : Option Bool). if unwrap_or o (list_any (has_id inside.actor c.args.id.now) inside.held.now.office.timers) then 1 else 0) noted))
