use Rattle.std.proofs.Common.{◌∷◌, ap, ◌∙◌, subst}
use Rattle.office_types.specs.Ends.{done_record, error_record}
use Rattle.actor_tree.specs.declared.part.Part.{Part}
use Rattle.actor_tree.specs.declared.part.Part.TheVariants as part
use Rattle.actor_tree.specs.Rooms.{HasRoomForAll}
use Rattle.actor_tree.proofs.RemovalLemmas.{next_after_end, next_after_stop}
use Rattle.actor_tree.proofs.RoomLemmas.{room_left}
use Rattle.actor_tree.proofs.held.Held.put.Goals as goal

pub returns-in-Stop-clause-room : goal.returns-in-Stop-clause-room
returns-in-Stop-clause-room c = λ later has.
    let old = c.args.self.now in
    let office = old.office in
    room_left (part.Stop c.in-Stop.parent c.in-Stop.id c.in-Stop.subtree) later old c.stop.new.self c.stop.ensures.room
    (ap (λ state. state.next_actor) c.stop.ensures.office ∙ next_after_stop c.in-Stop.parent _ office)
    (subst (λ (first : Part). HasRoomForAll old (first ∷ later)) c.in-Stop.is has)

pub returns-in-Done-clause-room : goal.returns-in-Done-clause-room
returns-in-Done-clause-room c = λ later has.
    let old = c.args.self.now in
    let office = old.office in
    room_left (part.Done c.in-Done.actor c.in-Done.output c.in-Done.subtree) later old c.end.new.self c.end.ensures.room
    (ap (λ state. state.next_actor) c.end.ensures.office ∙ next_after_end (done_record c.in-Done.output) c.in-Done.actor office)
    (subst (λ (first : Part). HasRoomForAll old (first ∷ later)) c.in-Done.is has)

pub returns-in-Fail-clause-room : goal.returns-in-Fail-clause-room
returns-in-Fail-clause-room c = λ later has.
    let old = c.args.self.now in
    let office = old.office in
    room_left (part.Fail c.in-Fail.actor c.in-Fail.error c.in-Fail.subtree) later old c.end-in-Fail.new.self c.end-in-Fail.ensures.room
    (ap (λ state. state.next_actor) c.end-in-Fail.ensures.office ∙ next_after_end (error_record c.in-Fail.error) c.in-Fail.actor office)
    (subst (λ (first : Part). HasRoomForAll old (first ∷ later)) c.in-Fail.is has)
