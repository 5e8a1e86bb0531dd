use Rattle.std.proofs.Common.{◌≡◌}
use Rattle.office_types.specs.declared.limits.TheConstants.{MAX_TREE_LEVELS}
use Rattle.office_types.specs.Effects.{is_within_levels}
use Rattle.snapshot_text.proofs.validity.lookups.is_within_levels.Given as goal

abbrev pub invariant-loop-left : goal.invariant-loop-left
invariant-loop-left l = is_within_levels l.state MAX_TREE_LEVELS l.actor ≡ is_within_levels l.state l.left l.number

abbrev pub decreases-loop-left : goal.decreases-loop-left
decreases-loop-left l = l.left
