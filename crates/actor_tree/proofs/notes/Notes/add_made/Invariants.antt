use Rattle.std.proofs.Common.{◌≡◌, ◌≤◌, ◌-◌, ◌++◌}
use Rattle.actor_tree.specs.Noted.{numbers_from, staying}
use Rattle.actor_tree.specs.Notes.{noted}
use Rattle.actor_tree.proofs.notes.Notes.add_made.Given as goal

-- those so far that stay
abbrev pub invariant-loop-number : goal.invariant-loop-number
invariant-loop-number l = record {
  low : l.held.office.next_actor ≤ l.number;
  high : l.number ≤ l.self.counts.next_actor;
  last : l.number-end ≡ l.self.counts.next_actor;
  so_far : l.found.items ≡ l.fn.found.items ++ staying (noted l.self).gone l.root (numbers_from l.held.office.next_actor (l.number - l.held.office.next_actor));
}
