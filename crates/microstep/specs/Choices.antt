-- What the items of `enqueueActions` choose, as the code walks them.
use Rattle.std.specs.Prelude.{ℕ, suc, ◌≤◌, List, [], ◌∷◌, ◌++◌, Ok, All, map, max}
use Rattle.std.specs.Borrow.{Bor}
use Rattle.xs_model.specs.declared.action.Action.{Action}
use Rattle.xs_model.specs.declared.action.Action.TheFolds.{fold-Action, fold-ActionItem}
use Rattle.xs_model.specs.declared.action.Action.TheOpen.{Action-F, ActionItem-F}
use Rattle.xs_model.specs.declared.action.ActionItem.{ActionItem}
use Rattle.microstep.specs.Actions.{Choice, Doing, choose, counted_form, doing}
use Rattle.microstep.specs.Parts.{Stepped, and_then}

-- what an item chooses
abbrev pub choice : ActionItem → Choice
choice = fold-ActionItem Doing Choice counted_form choose

-- what is chosen comes behind what was chosen before
abbrev pub chosen_after : List Doing → Stepped (List Doing) → Stepped (List Doing)
chosen_after before chosen = and_then chosen (λ more. Ok (before ++ more))

-- what a lent action does
abbrev pub does : Bor Action → Doing
does action = doing action.now

-- ---- how deep actions nest

-- the greatest of these depths, 0 where there is none
abbrev pub deepest : List ℕ → ℕ
deepest [] = 0
deepest (depth ∷ depths) = max depth (deepest depths)

-- the depth of an action whose items have these depths
abbrev pub form_depth : Action-F ℕ ℕ → ℕ
form_depth (Action-F.EnqueueActions items) = suc (deepest items)
form_depth _ = 0

-- the depth of an item whose parts have these depths
abbrev pub branch_depth : ActionItem-F ℕ ℕ → ℕ
branch_depth (ActionItem-F.Do action) = action
branch_depth (ActionItem-F.If test items others) = max (deepest items) (deepest others)

-- how many `enqueueActions` lie within one another in an action
abbrev pub action_depth : Action → ℕ
action_depth = fold-Action ℕ ℕ form_depth branch_depth

-- the same in an item
abbrev pub item_depth : ActionItem → ℕ
item_depth = fold-ActionItem ℕ ℕ form_depth branch_depth

-- the same in items
abbrev pub items_depth : List ActionItem → ℕ
items_depth items = deepest (map item_depth items)

-- each of these lent actions is no deeper than the bound
abbrev pub AreNoDeeper : ℕ → List (Bor Action) → Type 0
AreNoDeeper bound actions = All (λ (action : Bor Action). action_depth action.now ≤ bound) actions
