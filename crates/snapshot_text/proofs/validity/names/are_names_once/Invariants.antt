use Rattle.std.proofs.Common.{◌≡◌, List, ℕ, map, take}
use Rattle.snapshot_text.proofs.validity.names.are_names_once.Given as goal

abbrev pub invariant-loop-name : goal.invariant-loop-name
invariant-loop-name l = map (λ text. text.now) l.texts.items ≡ map (λ (name : List ℕ × ℕ). name.0) (take l.name-index l.names)
