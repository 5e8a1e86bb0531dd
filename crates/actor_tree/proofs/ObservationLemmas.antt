-- The invocations by which a parent observes a child, as they stand in the definitions.
use Rattle.std.proofs.Common.{◌≡◌, ℕ, suc, zero, Bool, true, false, ◌&&◌, ◌||◌, cond, List, [], ◌∷◌, map, refl, sym, ap, ◌∙◌}
use Rattle.std.specs.Prelude.{None, Option, Some, filter, slice_get, slice_index_or}
use Rattle.std.specs.List.{list_any}
use Rattle.std.specs.Option.{option_map, option_map_or}
use Rattle.std.specs.Str.{bytes_eq}
use Rattle.std.proofs.lemmas.Option.{slice_get-map}
use Rattle.guard_eval.specs.declared.def.Def.{Def}
use Rattle.guard_eval.specs.declared.def.Invocation.{Invocation}
use Rattle.guard_eval.specs.declared.def.NodeDef.{NodeDef}
use Rattle.office_types.specs.Definitions.{MachineOutline, observed_at}
use Rattle.action_table.specs.declared.definitions.Defs.{Defs}
use Rattle.action_table.specs.Definitions.{machine_outline, observed_ids, office_definitions}

-- an invocation by which a child of this id is observed
abbrev pub is_observing : List ℕ → Invocation → Bool
is_observing id invocation = invocation.observed && bytes_eq id invocation.id

any_observing : (id : List ℕ) (all : List Invocation)
    → list_any (bytes_eq id) (map (λ (invocation : Invocation). invocation.id) (filter (λ (invocation : Invocation). invocation.observed) all)) ≡ list_any (is_observing id) all
any_observing id [] = refl
any_observing id (one ∷ all) = by_test (any_observing id all) one.observed where
  by_test : list_any (bytes_eq id) (map (λ (invocation : Invocation). invocation.id) (filter (λ (invocation : Invocation). invocation.observed) all)) ≡ list_any (is_observing id) all → (b : Bool)
      → list_any (bytes_eq id) (map (λ (invocation : Invocation). invocation.id)
      (cond b (one ∷ filter (λ (invocation : Invocation). invocation.observed) all) (filter (λ (invocation : Invocation). invocation.observed) all)))
      ≡ ((b && bytes_eq id one.id) || list_any (is_observing id) all)
  by_test rest true = ap (λ (b : Bool). bytes_eq id one.id || b) rest
  by_test rest false = rest

-- those of a node
nodes_observing : (id : List ℕ) (nodes : List NodeDef) (node : ℕ)
    → list_any (bytes_eq id) (slice_index_or (map observed_ids nodes) node []) ≡ option_map_or (λ (said : NodeDef). list_any (is_observing id) said.invoke) (slice_get nodes node) false
nodes_observing id [] node = refl
nodes_observing id (said ∷ nodes) zero = any_observing id said.invoke
nodes_observing id (said ∷ nodes) (suc node) = nodes_observing id nodes node

-- those of a node of a machine
pub machine_observing : (defs : Defs) (machine node : ℕ) (id : List ℕ)
    → list_any (bytes_eq id) (observed_at (office_definitions defs) machine node)
    ≡ option_map_or (λ (def : Def). option_map_or (λ (said : NodeDef). list_any (is_observing id) said.invoke) (slice_get def.nodes node) false) (slice_get defs.defs machine) false
machine_observing defs machine node id =
    ap (λ (o : Option MachineOutline). list_any (bytes_eq id) (option_map_or (λ (outline : MachineOutline). slice_index_or outline.observed node []) o [])) (slice_get-map machine_outline defs.defs machine)
    ∙ by_machine (slice_get defs.defs machine) where
      by_machine : (o : Option Def) → list_any (bytes_eq id) (option_map_or (λ (outline : MachineOutline). slice_index_or outline.observed node []) (option_map machine_outline o) [])
          ≡ option_map_or (λ (def : Def). option_map_or (λ (said : NodeDef). list_any (is_observing id) said.invoke) (slice_get def.nodes node) false) o false
      by_machine None = refl
      by_machine (Some def) = nodes_observing id def.nodes node

-- where the machine is known
pub observed_through : (defs : Defs) (machine node : ℕ) (id : List ℕ) (def : Def) → slice_get defs.defs machine ≡ Some def
    → list_any (bytes_eq id) (observed_at (office_definitions defs) machine node) ≡ option_map_or (λ (said : NodeDef). list_any (is_observing id) said.invoke) (slice_get def.nodes node) false
observed_through defs machine node id def is =
    machine_observing defs machine node id
    ∙ ap (λ (o : Option Def). option_map_or (λ (held : Def). option_map_or (λ (said : NodeDef). list_any (is_observing id) said.invoke) (slice_get held.nodes node) false) o false) is
