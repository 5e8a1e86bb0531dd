use Rattle.std.proofs.Common.{◌≡◌, ℕ, List, true, take, map}
use Rattle.std.specs.BTreeSet.{contains_text}
use Rattle.std.specs.List.{list_any}
use Rattle.std.specs.Str.{bytes_eq}
use Rattle.flat_core.specs.FlatText.{are_distinct}
use Rattle.flat_core.proofs.flat_text.are_distinct.Given as goal

-- the ids so far are in the set, and no one stands twice
abbrev pub invariant-loop-machine : goal.invariant-loop-machine
invariant-loop-machine l =
    ((id : List ℕ) → contains_text l.ids id ≡ list_any (bytes_eq id) (map (λ machine. machine.id) (take l.machine-index l.machines)))
    × (are_distinct (map (λ machine. machine.id) (take l.machine-index l.machines)) ≡ true)
