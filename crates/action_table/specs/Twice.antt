-- The ids of machines, and the machines whose ids earlier ones have, one machine after another.
use Rattle.std.specs.Prelude.{ℕ, List, [], ◌∷◌, ◌++◌, Option, None, Some, is_some, if◌then◌else◌}
use Rattle.xs_model.specs.Rising.{get}
use Rattle.machine_json.specs.declared.machine.Machine.{Machine}
use Rattle.action_table.specs.TablePlaces.{least_of}

-- the ids with that of one more machine, if it is a new one
abbrev pub with_id : List (List ℕ × ℕ) → Machine → List (List ℕ × ℕ)
with_id ids machine = if is_some (get machine.name ids) then ids else ids ++ (machine.name, machine.place) ∷ []

-- the ids with those of more machines
abbrev pub ids_after : List (List ℕ × ℕ) → List Machine → List (List ℕ × ℕ)
ids_after ids [] = ids
ids_after ids (machine ∷ machines) = ids_after (with_id ids machine) machines

-- the least place of a machine whose id is one of these or an earlier machine's
abbrev pub twice_after : List (List ℕ × ℕ) → List Machine → Option ℕ
twice_after ids [] = None
twice_after ids (machine ∷ machines) =
    least_of (if is_some (get machine.name ids) then Some machine.place else None) (twice_after (with_id ids machine) machines)
