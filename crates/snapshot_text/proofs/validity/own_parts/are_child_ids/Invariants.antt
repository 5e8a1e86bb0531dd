use Rattle.std.proofs.Common.{◌≡◌, map, take}
use Rattle.snapshot_text.proofs.validity.own_parts.are_child_ids.Given as goal

abbrev pub invariant-loop-id : goal.invariant-loop-id
invariant-loop-id l = map (λ text. text.now) l.names.items ≡ take l.id-index l.ids
