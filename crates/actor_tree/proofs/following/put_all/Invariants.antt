use Rattle.std.proofs.Common.{◌≡◌, ◌≤◌, sum_by}
use Rattle.std.specs.Vec.Iter.{into_iter_items}
use Rattle.actor_tree.specs.Following.{head_numbers, actors_made}
use Rattle.actor_tree.specs.Parts.{CanPutAll, put}
use Rattle.actor_tree.specs.Rooms.{HasRoomForAll}
use Rattle.actor_tree.proofs.following.put_all.Given as goal

abbrev pub invariant-loop-part : goal.invariant-loop-part
invariant-loop-part l =
    let left = into_iter_items l.part-iterator in
    CanPutAll l.held.office left × HasRoomForAll l.held left × (l.heads.items ≡ head_numbers l.held.office.actors) × (sum_by actors_made left ≤ l.heads.spare)
    × (put l.held.office left ≡ put l.initial.held.office l.fn.parts)
