use Rattle.std.proofs.Common.{◌≡◌, take}
use Rattle.snapshot_text.specs.Validity.{child_numbers}
use Rattle.snapshot_text.proofs.validity.parents.listed_kids.Given as goal

abbrev pub invariant-loop-actor : goal.invariant-loop-actor
invariant-loop-actor l = l.listed.items ≡ child_numbers (take l.actor-index l.actors)
