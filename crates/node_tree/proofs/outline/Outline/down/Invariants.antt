use Rattle.std.proofs.Common.{◌≡◌, ◌<◌, length}
use Rattle.std.specs.Prelude.{Some}
use Rattle.node_tree.specs.Targets.{down, target_keys}
use Rattle.node_tree.proofs.outline.Outline.down.Given as goal

-- the keys that are left lead from the node so far to where all keys lead from the first
abbrev pub invariant-loop-key : goal.invariant-loop-key
invariant-loop-key l = record {
  inside : l.at < length l.self;
  leads : down l.self (Some l.at) (target_keys l.rest) ≡ down l.self (Some l.from) (target_keys l.keys);
}

abbrev pub decreases-loop-key : goal.decreases-loop-key
decreases-loop-key l = length l.rest
