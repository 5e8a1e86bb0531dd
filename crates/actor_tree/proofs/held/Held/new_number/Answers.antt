use Rattle.std.proofs.Common.{ℕ, ◌<◌, List, [], ◌∷◌, arith}
use Rattle.std.specs.List.{All, AllByRecursion}
use Rattle.std.proofs.lemmas.List.Elements.{All-cons}
use Rattle.office_types.specs.declared.office.ActorRecord.{ActorRecord}
use Rattle.actor_tree.specs.Actors.{records_of}
use Rattle.actor_tree.proofs.held.Held.new_number.Goals as goal

abbrev IsBelow : ℕ → ActorRecord → Type 0
IsBelow n actor = actor.number < n

each : (n : ℕ) (actors : List ActorRecord) → AllByRecursion (IsBelow n) actors → All (IsBelow n) actors
each n [] all = λ k d within. absurd (omega arith)
each n (actor ∷ actors) all = All-cons (IsBelow n) actor actors all.0 (each n actors all.1)

pub returns-clause-newer : goal.returns-clause-newer
returns-clause-newer c = rw (← c.self.view_is) (each c.self.inside.counts.next_actor (records_of c.self.inside.actors.items) c.self.invariant.actors_given)
