-- The effective targets of a transition, after SCXML's getEffectiveTargetStates.
use Rattle.std.specs.Prelude.{ℕ, List, [], ◌∷◌, Option, Some, None, ◌==◌, unwrap_or, option_to_list}
use Rattle.std.specs.Option.{option_or}
use Rattle.std.specs.List.{flat_map}
use Rattle.std.specs.Map.{lookup}
use Rattle.node_tree.specs.declared.node.Kind.{Kind}
use Rattle.node_tree.specs.declared.node.Kind.TheVariants.{Atomic, Compound, Parallel, Final, Shallow, Deep}
use Rattle.node_tree.specs.Nodes.{parent_of}
use Rattle.node_tree.specs.Kinds.{Nodes, kind_of}

-- what is recorded for each history node
abbrev pub History : Type 0
History = List (ℕ × List ℕ)

-- what is recorded for a history node, if anything is
abbrev pub record_of : History → ℕ → Option (List ℕ)
record_of history h = lookup (λ k. k == h) history

-- the nodes that are recorded, or else the others
abbrev pub recorded_or : List ℕ → List ℕ → List ℕ
recorded_or [] others = others
recorded_or (n ∷ rest) others = n ∷ rest

-- where a target of this kind leads: a history node to what is recorded for it, or else to its
-- default, or else to its parent; any other node to itself
abbrev pub goals_by_kind : Kind → ℕ → List ℕ → Option ℕ → List ℕ
goals_by_kind (Shallow default) target recorded parent =
    recorded_or recorded (option_to_list (option_or default parent))
goals_by_kind (Deep default) target recorded parent =
    recorded_or recorded (option_to_list (option_or default parent))
goals_by_kind Atomic target recorded parent = target ∷ []
goals_by_kind (Compound initial) target recorded parent = target ∷ []
goals_by_kind Parallel target recorded parent = target ∷ []
goals_by_kind Final target recorded parent = target ∷ []

-- where a target of the tree leads
abbrev pub goals_at : Nodes → History → Option Kind → ℕ → List ℕ
goals_at nodes history None target = []
goals_at nodes history (Some kind) target =
    goals_by_kind kind target (unwrap_or (record_of history target) []) (parent_of nodes target)

-- the goals of a transition: where its targets lead, in their order
abbrev pub goals_of : Nodes → History → List ℕ → List ℕ
goals_of nodes history targets =
    flat_map (λ t. goals_at nodes history (kind_of nodes t) t) targets
