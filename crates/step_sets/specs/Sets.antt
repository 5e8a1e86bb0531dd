-- A set of nodes as a list in document order.
use Rattle.std.specs.Prelude.{ℕ, ◌↔◌, List, Contains}
use Rattle.std.specs.List.Sorted.{IsStrictlyIncreasing}

-- the list holds exactly the nodes of which the fact is true, each once, in document order
pub record IsSetOf (fact : ℕ → Type 0) (list : List ℕ) : Type 0 where
  pub in_order : IsStrictlyIncreasing list
  pub exact : (n : ℕ) → Contains list n ↔ fact n
