-- Which own parts an actor of a machine may have.
use Rattle.std.specs.Prelude.{◌≡◌, ◌≢◌, ◌⊎◌, ℕ, ◌≤◌, Bool, true, false, List, IsTrue, All, AllPairs, Contains}
use Rattle.std.specs.List.Sorted.{IsStrictlyIncreasing}
use Rattle.xs_model.specs.declared.value.Value.{Value, out-Value}
use Rattle.xs_model.specs.declared.value.Value.TheOpen.{Value-F}
use Rattle.step_sets.specs.Configuration.{IsLegal}
use Rattle.step_sets.specs.Goals.{History}
use Rattle.step_sets.specs.History.{history_nodes}
use Rattle.node_tree.specs.Kinds.{Nodes}
use Rattle.step_sets.specs.Statechart.{IsFitHistory}
use Rattle.office_types.specs.declared.limits.TheConstants.{MAX_NEXT_NUMBER}
use Rattle.office_types.specs.declared.outcome.Own.{Own}
use Rattle.office_types.specs.Effects.{fresh_own}
use Rattle.office_types.specs.Limits.{is_context, is_name}

-- the active nodes of a legal configuration, in document order
pub record IsConfiguration (nodes : Nodes) (active : List ℕ) : Type 0 where
  pub in_order : IsStrictlyIncreasing active
  pub legal : IsLegal nodes (Contains active)

-- what history nodes recorded, in document order; each record fits a legal configuration of its own
pub record IsRecordedHistory (nodes : Nodes) (history : History) : Type 0 where
  pub in_order : IsStrictlyIncreasing (history_nodes history)
  pub fit : IsFitHistory nodes history

-- the layer is that of a map
abbrev pub is_map_layer : {X : Type 0} → Value-F X → Bool
is_map_layer (Value-F.Map members) = true
is_map_layer _ = false

-- a map, within the limits of a context
pub record IsContext (context : Value) : Type 0 where
  pub map : IsTrue (is_map_layer (out-Value context))
  pub within : IsTrue (is_context context)

-- names, each once
pub record AreChildIds (ids : List (List ℕ)) : Type 0 where
  pub names : All (λ id. IsTrue (is_name id)) ids
  pub distinct : AllPairs (λ a b. a ≢ b) ids

-- an own part that has begun
pub record HasBegun (nodes : Nodes) (own : Own) : Type 0 where
  pub begun : own.begun ≡ true
  pub configuration : IsConfiguration nodes own.nodes
  pub history : IsRecordedHistory nodes own.history
  pub context : IsContext own.context
  pub children : AreChildIds own.children
  pub unnamed : own.unnamed ≤ MAX_NEXT_NUMBER

-- an own part that hasn't begun is empty, with context null
abbrev pub IsUnbegun : Own → Type 0
IsUnbegun own = own ≡ fresh_own own.def

-- an own part of a machine with these nodes
abbrev pub IsOwnPart : Nodes → Own → Type 0
IsOwnPart nodes own = IsUnbegun own ⊎ HasBegun nodes own
