use Rattle.std.proofs.Common.{◌≡◌, ◌≤◌, length}
use Rattle.xs_model.specs.declared.value.Value.TheVariants as value
use Rattle.office_types.specs.StateValue.{state_value}
use Rattle.office_types.proofs.StateValueLemmas.{WaitFor}
use Rattle.office_types.proofs.state_values.state_value.Given as goal

-- the children that wait for the nodes that have no value yet; once there is none, no node is in the tree
abbrev pub invariant-loop-children : goal.invariant-loop-children
invariant-loop-children l = record {
  within : length l.waiting.items ≤ length l.active;
  held : WaitFor l.tree l.active l.waiting.items (length l.waiting.items);
  none : length l.waiting.items ≡ 0 → state_value l.tree l.active ≡ value.Null;
}

abbrev pub decreases-loop-children : goal.decreases-loop-children
decreases-loop-children l = length l.waiting.items
