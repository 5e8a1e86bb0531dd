use Rattle.std.proofs.Common.{List, ◌++◌}
use Rattle.std.specs.Vec.Iter.{into_iter_items}
use Rattle.actor_tree.specs.declared.part.Part.{Part}
use Rattle.actor_tree.specs.Rooms.{AreRoomier}
use Rattle.actor_tree.specs.Tally.{tallied}
use Rattle.actor_tree.proofs.making_room.with_room_of_newcomers.Given as goal

abbrev pub invariant-loop-part : goal.invariant-loop-part
invariant-loop-part l =
    let letters = tallied l.letters in
    let kids = tallied l.kids in
    (later : List Part) → AreRoomier letters kids l.number (into_iter_items l.part-iterator) later → AreRoomier letters kids l.fn.first l.fn.parts (l.roomier.items ++ later)
