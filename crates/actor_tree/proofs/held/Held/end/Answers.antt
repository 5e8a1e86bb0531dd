use Rattle.std.proofs.Common.{ℕ, List, ap, ◌∙◌}
use Rattle.office_types.specs.declared.office.OfficeState.{OfficeState}
use Rattle.actor_tree.specs.HeldOffice.{no_needs}
use Rattle.actor_tree.specs.Removal.{with_end, with_stopped}
use Rattle.actor_tree.proofs.RemovalLemmas.{subtree_ended}
use Rattle.actor_tree.proofs.RoomLemmas.{room_twice}
use Rattle.actor_tree.proofs.held.Held.end.Goals as goal

pub returns-clause-office : goal.returns-clause-office
returns-clause-office c =
    let office = c.args.self.now.office in
    c.stop_all.ensures.office
    ∙ ap (λ (state : OfficeState). with_stopped state c.args.subtree.now) c.end_one.ensures.office
    ∙ ap (λ (numbers : List ℕ). with_stopped (with_end c.args.ending office c.args.actor) numbers) c.requires
    ∙ subtree_ended c.args.ending c.args.actor office

pub returns-clause-room : goal.returns-clause-room
returns-clause-room c = room_twice no_needs _ _ _ c.end_one.ensures.room c.stop_all.ensures.room
