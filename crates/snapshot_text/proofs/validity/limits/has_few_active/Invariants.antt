use Rattle.std.proofs.Common.{◌≡◌, ◌+◌, length, take}
use Rattle.std.specs.Prelude.{filter}
use Rattle.office_types.specs.declared.limits.TheConstants.{MAX_ACTIVE_ACTORS}
use Rattle.office_types.specs.Records.{is_active}
use Rattle.snapshot_text.proofs.validity.limits.has_few_active.Given as goal

abbrev pub invariant-loop-actor : goal.invariant-loop-actor
invariant-loop-actor l = length (filter is_active (take l.actor-index l.actors)) + l.left ≡ MAX_ACTIVE_ACTORS
