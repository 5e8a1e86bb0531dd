use Rattle.std.proofs.Common.{◌≡◌, ◌≤◌, ℕ, take}
use Rattle.actor_tree.specs.HeldOffice.{HasRoomOf, IsRoomBeside, no_needs}
use Rattle.actor_tree.specs.Rooms.{letters_for}
use Rattle.actor_tree.specs.Tally.{tallied}
use Rattle.actor_tree.proofs.making_room.make_letter_rooms.Given as goal

abbrev pub invariant-loop-part : goal.invariant-loop-part
invariant-loop-part l = record {
  office : l.held.office ≡ l.fn.held.office;
  room : IsRoomBeside no_needs l.fn.held.room l.held.room;
  counts : (number : ℕ) → tallied l.counts number ≡ letters_for number (take l.part-index l.parts);
  few : (number : ℕ) → tallied l.counts number ≤ l.part-index;
  rooms : (number : ℕ) → HasRoomOf (tallied l.counts number) number l.held.room.letters;
}
