use Rattle.std.proofs.Common.{◌≡◌}
use Rattle.office_types.specs.Effects.{is_within_levels}
use Rattle.actor_tree.proofs.held.Held.is_within_levels.Given as goal

abbrev pub invariant-loop-left : goal.invariant-loop-left
invariant-loop-left l = is_within_levels l.self.office l.left l.actor ≡ is_within_levels l.self.office l.levels l.number

abbrev pub decreases-loop-left : goal.decreases-loop-left
decreases-loop-left l = l.left
