-- The exit set of a transition, after SCXML's computeExitSet.
use Rattle.std.specs.Prelude.{ℕ, List, Contains}
use Rattle.node_tree.specs.Kinds.{Nodes}
use Rattle.step_sets.specs.Domains.{IsUnder}
use Rattle.step_sets.specs.declared.types.Domain.{Domain}

-- a node is left if it is active and below the domain
abbrev pub IsExited : Nodes → List ℕ → Domain → ℕ → Type 0
IsExited nodes active domain n = Contains active n × IsUnder nodes domain n
