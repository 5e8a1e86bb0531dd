use Rattle.std.proofs.Common.{◌≡◌, ◌&&◌, Bool, true, false, sym, ap, ◌∙◌}
use Rattle.std.specs.Option.{is_some}
use Rattle.office_types.specs.declared.office.ActorRecord.{ActorRecord}
use Rattle.office_types.specs.Records.{is_active, is_active_status}
use Rattle.actor_tree.proofs.RecordLemmas.{word_of, word_of_none}
use Rattle.actor_tree.proofs.held.Held.is_open_item.Goals as goal

pub returns-then-is_active : goal.returns-then-is_active
returns-then-is_active c =
    let actor = c.in-Some.actor.now in
    let active : is_active_status actor.status ≡ true = sym c.is_active.ensures ∙ c.if-is_active.true in
    rw (c.is_some.ensures, ← c.self.view_is)
    (sym (word_of (λ (actor : ActorRecord). is_active actor && is_some actor.item) false c.args.number c.self.inside.actors.items actor (sym c.in-Some.ensures) ∙ ap (λ (b : Bool). b && is_some actor.item) active))

pub returns-else-is_active : goal.returns-else-is_active
returns-else-is_active c =
    let actor = c.in-Some.actor.now in
    let ended : is_active_status actor.status ≡ false = sym c.is_active.ensures ∙ c.if-is_active.false in
    rw (c.if-is_active.false, ← c.self.view_is)
    (sym (word_of (λ (actor : ActorRecord). is_active actor && is_some actor.item) false c.args.number c.self.inside.actors.items actor (sym c.in-Some.ensures) ∙ ap (λ (b : Bool). b && is_some actor.item) ended))

pub returns-in-None : goal.returns-in-None
returns-in-None c =
    rw (← c.self.view_is) (sym (word_of_none (λ (actor : ActorRecord). is_active actor && is_some actor.item) false c.args.number c.self.inside.actors.items (sym c.in-None.ensures)))
