use Rattle.std.proofs.Common.{◌≡◌, ◌++◌, take}
use Rattle.actor_tree.specs.Noted.{staying}
use Rattle.actor_tree.specs.Notes.{noted}
use Rattle.actor_tree.proofs.notes.Notes.add_staying.Given as goal

-- those so far that stay
abbrev pub invariant-loop-number : goal.invariant-loop-number
invariant-loop-number l = l.found.items ≡ l.fn.found.items ++ staying (noted l.self).gone l.root (take l.number-index l.numbers)
