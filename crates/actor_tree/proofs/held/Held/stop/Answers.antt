use Rattle.std.proofs.Common.{not, sym, ap, ◌∙◌}
use Rattle.std.specs.Option.{is_some}
use Rattle.office_types.specs.declared.office.OfficeState.{OfficeState}
use Rattle.office_types.specs.Effects.{without_kid}
use Rattle.office_types.specs.Records.{with_actor}
use Rattle.actor_tree.specs.HeldOffice.{no_needs}
use Rattle.actor_tree.specs.Removal.{without_actors}
use Rattle.actor_tree.proofs.RemovalLemmas.{stop_nobody, stop_one}
use Rattle.actor_tree.proofs.RoomLemmas.{room_stays, room_twice}
use Rattle.actor_tree.proofs.held.Held.stop.Goals as goal

pub returns-then-is_none-clause-office : goal.returns-then-is_none-clause-office
returns-then-is_none-clause-office c = stop_nobody c.args.self.now.office c.args.parent c.args.id.now (sym (ap is_some c.child_named.ensures) ∙ c.is_none.ensures ∙ ap not c.if-is_none.true)

pub returns-then-is_none-clause-room : goal.returns-then-is_none-clause-room
returns-then-is_none-clause-room c = room_stays c.args.self.now.room

pub returns-clause-office : goal.returns-clause-office
returns-clause-office c =
    let office = c.args.self.now.office in
    c.forget_child.ensures.office
    ∙ ap (λ (state : OfficeState). with_actor state c.args.parent (without_kid c.args.id.now)) (c.remove_all.ensures.office ∙ ap (without_actors office) c.requires)
    ∙ stop_one office c.args.parent c.args.id.now (sym (ap is_some c.child_named.ensures) ∙ c.is_none.ensures ∙ ap not c.if-is_none.false)

pub returns-clause-room : goal.returns-clause-room
returns-clause-room c = room_twice no_needs _ _ _ c.remove_all.ensures.room c.forget_child.ensures.room
