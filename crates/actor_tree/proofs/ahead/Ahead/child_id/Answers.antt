use Rattle.std.proofs.Common.{◌≡◌, ◌∙◌, Some, sym}
use Rattle.office_types.specs.Records.{parent_actor}
use Rattle.actor_tree.proofs.AheadLemmas.{id_is, parent_is}
use Rattle.actor_tree.proofs.ahead.Ahead.child_id.Goals as goal

pub returns : goal.returns
returns c =
    let inside = c.self.inside in
    let before = inside.held.now.office in
    let up : parent_actor before inside.actor ≡ Some c.args.parent = sym (parent_is before inside.actor inside.parts.items inside.notes c.self.invariant) ∙ (rw (← c.self.view_is) at c.requires) in
    rw (← c.self.view_is) (c.child_id.ensures ∙ sym (id_is before inside.actor inside.parts.items inside.notes c.self.invariant c.args.parent up))
