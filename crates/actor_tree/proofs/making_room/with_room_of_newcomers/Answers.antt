use Rattle.std.proofs.Common.{◌≡◌, [], ◌++◌, append-nil, subst, arith}
use Rattle.std.proofs.lemmas.List.{nil_from_length}
use Rattle.std.specs.Vec.Iter.{into_iter_items}
use Rattle.actor_tree.specs.Rooms.{AreRoomier}
use Rattle.actor_tree.specs.Tally.{tallied}
use Rattle.actor_tree.proofs.making_room.with_room_of_newcomers.Goals as goal

pub returns : goal.returns
returns c =
    let letters = tallied c.args.letters.now in
    let kids = tallied c.args.kids.now in
    let done : into_iter_items c.loop-part.part-iterator ≡ [] = nil_from_length _ (omega (arith, c.loop-part.part-iterator.rest.ok, c.in-None.ensures.steps.0)) in
    let all : AreRoomier letters kids c.args.first c.args.parts (c.loop-part.roomier.items ++ []) = c.loop-part.invariant [] (rw done tt) in
    rw c.from_vec.ensures (subst (AreRoomier letters kids c.args.first c.args.parts) (append-nil c.loop-part.roomier.items) all)
