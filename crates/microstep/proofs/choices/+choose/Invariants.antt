use Rattle.std.proofs.Common.{◌≡◌, ◌≤◌, ℕ, map}
use Rattle.xs_model.specs.Eval.{scope_of}
use Rattle.microstep.specs.Actions.{chosen}
use Rattle.microstep.specs.Choices.{AreNoDeeper, choice, chosen_after, does, items_depth}
use Rattle.microstep.proofs.ChoiceLemmas.{chosen_from}
use Rattle.microstep.proofs.choices.+choose.Given as goal

-- what is chosen so far, and what the items to come choose; and nothing chosen is too deep
abbrev pub invariant-choose_all-loop-item : goal.invariant-choose_all-loop-item
invariant-choose_all-loop-item l = record {
  chosen : chosen_after (map does l.initial.actions.items) (chosen (scope_of l.env) (map choice l.item-items)) ≡ chosen_from (scope_of l.env) (map does l.actions.items) l.item-items l.item-index;
  inside : (bound : ℕ) → items_depth l.item-items ≤ bound → AreNoDeeper bound l.initial.actions.items → AreNoDeeper bound l.actions.items;
}
