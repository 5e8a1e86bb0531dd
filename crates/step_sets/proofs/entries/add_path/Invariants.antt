use Rattle.std.specs.BTreeSet.{contains}
use Rattle.std.specs.Ordering.{nat_cmp}
use Rattle.step_sets.proofs.PathLemmas.{IsOnPath, place_of}
use Rattle.step_sets.proofs.entries.add_path.Given as goal

-- the nodes from the low one up to the next one are there
abbrev pub invariant-loop-at : goal.invariant-loop-at
invariant-loop-at l = IsOnPath l.tree l.low (contains nat_cmp l.initial.nodes) (contains nat_cmp l.nodes) l.at

abbrev pub decreases-loop-at : goal.decreases-loop-at
decreases-loop-at l = place_of l.at
