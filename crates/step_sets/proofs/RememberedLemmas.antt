-- What a history node may remember, where its kind and its parent are known.
use Rattle.std.proofs.Common.{◌≡◌, ◌↔◌, ℕ, List, Bool, Option, Some, IsTrue, subst}
use Rattle.node_tree.specs.declared.node.Kind.TheVariants.{Shallow, Deep}
use Rattle.node_tree.specs.declared.node.Node.{Node}
use Rattle.node_tree.specs.Nodes.{IsBelow, IsChild, child}
use Rattle.node_tree.specs.Kinds.{IsLeaf, kind_of}
use Rattle.step_sets.specs.History.{CanBeRemembered, as_child, as_leaf}

module _ (nodes : List Node) (h parent : ℕ) (up : IsChild nodes h parent) where
  to_parent : (p : ℕ) → IsChild nodes h p → p ≡ parent
  to_parent p is = cc

  -- what it may remember is below its parent
  pub remembered_below : (n : ℕ) → CanBeRemembered nodes h n → IsBelow nodes n parent
  remembered_below n (as_child {parent = p} of is c) = let P : ℕ → Type 0 = λ x. IsChild nodes n x in child n parent (subst P (to_parent p is) c)
  remembered_below n (as_leaf {parent = p} of is below leaf) = let P : ℕ → Type 0 = λ x. IsBelow nodes n x in subst P (to_parent p is) below

  pub remembered_child : (default : Option ℕ) → kind_of nodes h ≡ Some (Shallow default) → (n : ℕ) → CanBeRemembered nodes h n → IsChild nodes n parent
  remembered_child default shallow n (as_child {parent = p} of is c) = let P : ℕ → Type 0 = λ x. IsChild nodes n x in subst P (to_parent p is) c
  remembered_child default shallow n (as_leaf of is below leaf) = absurd cc

  pub remembered_leaf : (default : Option ℕ) → kind_of nodes h ≡ Some (Deep default) → (n : ℕ) → CanBeRemembered nodes h n → IsBelow nodes n parent × IsLeaf nodes n
  remembered_leaf default deep n (as_child of is c) = absurd cc
  remembered_leaf default deep n (as_leaf {parent = p} of is below leaf) = let P : ℕ → Type 0 = λ x. IsBelow nodes n x in (subst P (to_parent p is) below, leaf)

  -- a test for children, and one for leaves
  pub tells_child : (default : Option ℕ) → kind_of nodes h ≡ Some (Shallow default) → (n : ℕ) (b : Bool) → IsTrue b ↔ IsChild nodes n parent → IsTrue b ↔ CanBeRemembered nodes h n
  tells_child default shallow n b tells = ((λ yes. as_child shallow up (tells.0 yes)), (λ can. tells.1 (remembered_child default shallow n can)))

  pub tells_leaf : (default : Option ℕ) → kind_of nodes h ≡ Some (Deep default) → (n : ℕ) (b : Bool) → IsBelow nodes n parent → IsTrue b ↔ IsLeaf nodes n → IsTrue b ↔ CanBeRemembered nodes h n
  tells_leaf default deep n b below tells = ((λ yes. as_leaf deep up below (tells.0 yes)), (λ can. tells.1 (remembered_leaf default deep n can).1))
