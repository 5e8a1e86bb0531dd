use Rattle.std.proofs.Common.{◌≡◌, ◌≤◌, sum_by, take}
use Rattle.actor_tree.specs.declared.part.Part.{Part}
use Rattle.actor_tree.specs.Rooms.{needs_of}
use Rattle.actor_tree.proofs.making_room.timers_in.Given as goal

abbrev pub invariant-loop-part : goal.invariant-loop-part
invariant-loop-part l = (l.count ≡ sum_by (λ (part : Part). (needs_of part).timers) (take l.part-index l.parts)) × (l.count ≤ l.part-index)
