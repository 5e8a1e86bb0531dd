-- What the rules of an office read of its definitions, as plain lists.
use Rattle.std.specs.Prelude.{ℕ, ◌<◌, List, [], length, Option, All, IfSome, slice_get, slice_index_or, position}
use Rattle.std.specs.Option.{option_map_or}
use Rattle.std.specs.Str.{bytes_eq}
use Rattle.node_tree.specs.declared.node.Node.{Node}

-- a machine: its root's id, its nodes in document order, and for each node the ids of its invocations
-- with `onSnapshot`
pub record MachineOutline : Type 0 where
  pub id : List ℕ
  pub nodes : List Node
  pub observed : List (List (List ℕ))

-- a row of the table of actors: its name, and the number of its machine; a promise has none
pub record ActorLogic : Type 0 where
  pub name : List ℕ
  pub machine : Option ℕ

-- machines and actors by their numbers
pub record OfficeDefinitions : Type 0 where
  pub machines : List MachineOutline
  pub actors : List ActorLogic

-- each row of the table of actors that is of a machine names one of the machines
abbrev pub AreLinked : OfficeDefinitions → Type 0
AreLinked definitions =
    All (λ (logic : ActorLogic). IfSome logic.machine (λ machine. machine < length definitions.machines)) definitions.actors

-- the number of the machine with this id
abbrev pub machine_named : OfficeDefinitions → List ℕ → Option ℕ
machine_named definitions id = position (λ (machine : MachineOutline). bytes_eq machine.id id) definitions.machines

-- the nodes of a machine
abbrev pub nodes_of : OfficeDefinitions → ℕ → List Node
nodes_of definitions machine = option_map_or (λ (outline : MachineOutline). outline.nodes) (slice_get definitions.machines machine) []

-- the ids of a node's invocations with `onSnapshot`
abbrev pub observed_at : OfficeDefinitions → ℕ → ℕ → List (List ℕ)
observed_at definitions machine node = option_map_or (λ (outline : MachineOutline). slice_index_or outline.observed node []) (slice_get definitions.machines machine) []
