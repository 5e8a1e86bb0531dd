use Rattle.std.proofs.Common.{◌≡◌, ◌↔◌, drop}
use Rattle.office_types.specs.ValidOffice.{names_of}
use Rattle.snapshot_text.proofs.validity.names.are_names_of.Given as goal

-- what is left of both is the same exactly where both are
abbrev pub invariant-loop-actor : goal.invariant-loop-actor
invariant-loop-actor l = (l.names ≡ names_of l.actors) ↔ (l.rest ≡ names_of (drop l.actor-index l.actors))
