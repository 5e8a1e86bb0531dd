use Rattle.std.proofs.Common.{◌≡◌, drop}
use Rattle.actor_tree.specs.HeldOffice.{IsRoomBeside, no_needs}
use Rattle.actor_tree.specs.Removal.{with_stopped}
use Rattle.actor_tree.proofs.held.Held.stop_all.Given as goal

abbrev pub invariant-loop-number : goal.invariant-loop-number
invariant-loop-number l = record {
  office : with_stopped l.self.office (drop l.number-index l.numbers) ≡ with_stopped l.fn.self.office l.numbers;
  room : IsRoomBeside no_needs l.fn.self.room l.self.room;
}
