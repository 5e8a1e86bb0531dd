use Rattle.std.proofs.Common.{◌≡◌, drop}
use Rattle.actor_tree.specs.HeldOffice.{IsRoomBeside, no_needs}
use Rattle.actor_tree.specs.Removal.{without_actors}
use Rattle.actor_tree.proofs.held.Held.remove_all.Given as goal

abbrev pub invariant-loop-number : goal.invariant-loop-number
invariant-loop-number l = record {
  office : without_actors l.self.office (drop l.number-index l.numbers) ≡ without_actors l.fn.self.office l.numbers;
  room : IsRoomBeside no_needs l.fn.self.room l.self.room;
}
