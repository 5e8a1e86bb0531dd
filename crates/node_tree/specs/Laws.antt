-- What follows from the definitions.
use Rattle.std.specs.Prelude.{◌≡◌, ◌<◌, ◌≤◌, ◌++◌, IsTrue, ℕ, List, ◌∷◌, length, Some, None}
use Rattle.node_tree.specs.declared.node.Node.{Node}
use Rattle.node_tree.specs.declared.node.TheConstants.{HASH}
use Rattle.node_tree.specs.Nodes.{IsBelow, IsOutline, id_at}
use Rattle.node_tree.specs.Targets.{down, ends_key, keys_after_dot, target_of}

-- whatever a node is below stands before it
abbrev pub AncestorsFirst : Type 0
AncestorsFirst =
    (nodes : List Node) → IsOutline nodes → (low high : ℕ) → IsBelow nodes low high → high < low

-- the rows between a node and one below it are below it
abbrev pub SubtreesAreRuns : Type 0
SubtreesAreRuns =
    (nodes : List Node) → IsOutline nodes → (low high between : ℕ)
    → IsBelow nodes low high → high < between → between < low → IsBelow nodes between high

-- a text begins with an id, that of a node, if the rest of the text is empty or begins with a dot
pub record BeginsWithId (nodes : List Node) (id rest : List ℕ) (n : ℕ) : Type 0 where
  pub ends : IsTrue (ends_key rest)
  pub found : id_at nodes id ≡ Some n

-- and the text begins with no longer id
pub record BeginsWithLongestId (nodes : List Node) (id rest : List ℕ) (n : ℕ) : Type 0 where
  pub begins : BeginsWithId nodes id rest n
  pub longest : (other more : List ℕ) (m : ℕ) → other ++ more ≡ id ++ rest
      → BeginsWithId nodes other more m → length other ≤ length id

-- `#` and a text lead down from the longest id that the text begins with, whatever the source
abbrev pub LongestIdLeads : Type 0
LongestIdLeads =
    (nodes : List Node) (source : ℕ) (id rest : List ℕ) (n : ℕ)
    → BeginsWithLongestId nodes id rest n
    → target_of nodes source (HASH ∷ (id ++ rest)) ≡ down nodes (Some n) (keys_after_dot rest)

-- where a text begins with no id, `#` and the text lead nowhere
abbrev pub NoIdLeadsNowhere : Type 0
NoIdLeadsNowhere =
    (nodes : List Node) (source : ℕ) (text : List ℕ)
    → ((id rest : List ℕ) (n : ℕ) → id ++ rest ≡ text → BeginsWithId nodes id rest n → ⊥)
    → target_of nodes source (HASH ∷ text) ≡ None
