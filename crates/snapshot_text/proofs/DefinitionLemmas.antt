-- What the rules read of a machine that is found by its number.
use Rattle.std.proofs.Common.{◌≡◌, ℕ, zero, suc, ◌<◌, List, [], ◌∷◌, Option, None, Some, length, map, refl, ap, ◌∙◌, arith}
use Rattle.std.specs.Prelude.{slice_get}
use Rattle.std.specs.Option.{option_map, option_map_or}
use Rattle.std.proofs.lemmas.Option.{slice_get_within}
use Rattle.std.proofs.lemmas.List.{length-map}
use Rattle.guard_eval.specs.declared.def.Def.{Def}
use Rattle.action_table.specs.declared.definitions.Defs.{Defs}
use Rattle.action_table.specs.Definitions.{machine_outline, office_definitions}
use Rattle.office_types.specs.Definitions.{MachineOutline, nodes_of}

found_map : {X Y : Type 0} (f : X → Y) (xs : List X) (i : ℕ) → slice_get (map f xs) i ≡ option_map f (slice_get xs i)
found_map f [] i = refl
found_map f (x ∷ xs) zero = refl
found_map f (x ∷ xs) (suc i) = found_map f xs i

pub machine_inside : (defs : Defs) (number : ℕ) (def : Def) → slice_get defs.defs number ≡ Some def → number < length (office_definitions defs).machines
machine_inside defs number def found =
    let inside = slice_get_within defs.defs number def found in
    let len = length-map defs.defs machine_outline in
    omega arith

pub machine_nodes : (defs : Defs) (number : ℕ) (def : Def) → slice_get defs.defs number ≡ Some def → nodes_of (office_definitions defs) number ≡ def.tree
machine_nodes defs number def found =
    ap (λ (o : Option MachineOutline). option_map_or (λ (outline : MachineOutline). outline.nodes) o []) (found_map machine_outline defs.defs number)
    ∙ ap (λ (o : Option Def). option_map_or (λ (outline : MachineOutline). outline.nodes) (option_map machine_outline o) []) found

none_past : {X : Type 0} (xs : List X) (i : ℕ) → slice_get xs i ≡ None → i < length xs → ⊥
none_past [] i none inside = omega arith
none_past (x ∷ xs) zero none inside = cc
none_past (x ∷ xs) (suc i) none inside = none_past xs i none (omega arith)

pub no_machine : (defs : Defs) (number : ℕ) → slice_get defs.defs number ≡ None → number < length (office_definitions defs).machines → ⊥
no_machine defs number none inside = none_past defs.defs number none (let len = length-map defs.defs machine_outline in omega arith)
