use Rattle.std.proofs.Common.{ℕ, List, take}
use Rattle.std.specs.List.{All}
use Rattle.office_types.specs.declared.office.ActorRecord.{ActorRecord}
use Rattle.office_types.specs.ValidOffice.{HasParent}
use Rattle.snapshot_text.proofs.validity.parents.do_kids_have_parents.Given as goal

abbrev pub invariant-loop-actor : goal.invariant-loop-actor
invariant-loop-actor l = All (λ (actor : ActorRecord). All (λ (kid : List ℕ × ℕ). HasParent l.state actor.number kid.1) actor.kids) (take l.actor-index l.state.actors)
