use Rattle.std.proofs.Common.{◌∙◌, ◌&&◌, ◌+◌, ℕ, ap}
use Rattle.std.specs.Prelude.{nat_le}
use Rattle.office_types.specs.declared.limits.TheConstants.{MAX_LETTERS, MAX_NEXT_NUMBER}
use Rattle.office_types.specs.Mailboxes.{waiting_letters}
use Rattle.actor_tree.specs.Parts.{put}
use Rattle.actor_tree.proofs.ahead.Ahead.has_letter_room.Goals as goal

pub returns : goal.returns
returns c =
    let inside = c.self.inside in
    let office = put inside.held.now.office inside.parts.items in
    rw (← c.self.view_is)
    (c.has_letter_room.ensures
    ∙ ap (λ (waiting : ℕ). nat_le (waiting + c.args.more) MAX_LETTERS && nat_le (inside.notes.counts.next_letter + c.args.more) MAX_NEXT_NUMBER) c.self.invariant.told.counts.waiting
    ∙ ap (λ (next : ℕ). nat_le (waiting_letters office + c.args.more) MAX_LETTERS && nat_le (next + c.args.more) MAX_NEXT_NUMBER) c.self.invariant.told.counts.next_letter)
