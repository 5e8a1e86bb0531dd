-- The list of an office's machines, and the ids by which they are found.
use Rattle.std.specs.Prelude.{◌≡◌, ◌<◌, ◌^◌, ℕ, List, Some, length, map, slice_get}
use Rattle.std.specs.declared.alloc.Global.{Global}
use Rattle.std.specs.declared.sync.Arc.{Arc}
use Rattle.guard_eval.specs.declared.def.Def.{Def}
use Rattle.machine_json.specs.declared.machine.Machine.{Machine}

-- the definitions that are held
abbrev pub defs_held : List (Arc Def Global) → List Def
defs_held held = map (λ (one : Arc Def Global). one.value) held

-- each definition has an id that no other has
abbrev pub HaveDistinctIds : List Def → Type 0
HaveDistinctIds defs =
    (i j : ℕ) (one other : Def) → slice_get defs i ≡ Some one → slice_get defs j ≡ Some other → one.name ≡ other.name → i ≡ j

-- the ids are those of the definitions, in order, no two are the same, and numbers of 32 bits tell them apart
pub record HasIds (ids : List (List ℕ × ℕ)) (defs : List Def) : Type 0 where
  pub ids_are : map (λ (id : List ℕ × ℕ). id.0) ids ≡ map (λ (def : Def). def.name) defs
  pub distinct : HaveDistinctIds defs
  pub few : length defs < 2 ^ 32

-- the ids of machines, each with the place of its machine in the text
abbrev pub ids_of_machines : List Machine → List (List ℕ × ℕ)
ids_of_machines machines = map (λ (machine : Machine). (machine.name, machine.place)) machines
