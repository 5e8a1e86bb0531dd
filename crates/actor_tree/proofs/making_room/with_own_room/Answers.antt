use Rattle.std.proofs.Common.{arith}
use Rattle.actor_tree.specs.Tally.{tallied}
use Rattle.actor_tree.proofs.MakingRoomLemmas.{newcomer_roomier}
use Rattle.actor_tree.proofs.making_room.with_own_room.Goals as goal

pub returns-in_ok-reserve_newcomer-in-Make : goal.returns-in_ok-reserve_newcomer-in-Make
returns-in_ok-reserve_newcomer-in-Make c =
    let is = c.in_ok-reserve_newcomer-in-Make.ensures in
    rw c.in-Make.is
    (newcomer_roomier c.in-Make.newcomer c.reserve_newcomer.new.newcomer is.record_is is.name is.item (tallied c.args.letters.now) (tallied c.args.kids.now) c.args.number
    (omega (arith, c.how_often.ensures, is.letter_room)) (omega (arith, c.how_often-in-Make.ensures, is.kid_room)))
