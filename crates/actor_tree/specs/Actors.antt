-- What contracts see of an actor in a forest.
use Rattle.std.specs.Prelude.{ℕ, List, map}
use Rattle.office_types.specs.declared.office.ActorRecord.{ActorRecord}
use Rattle.actor_tree.specs.declared.actor.Actor.{Actor}

-- the record of an actor with this number
abbrev pub record_of : ℕ → Actor → ActorRecord
record_of number actor = record {
  number = number;
  parent = actor.parent;
  own = actor.own;
  item = actor.item;
  system = actor.system;
  status = actor.status;
  output = actor.output;
  error = actor.error;
  kids = actor.kids.items;
  mailbox = actor.mailbox.items;
}

-- the records of numbered actors
abbrev pub records_of : List (ℕ × Actor) → List ActorRecord
records_of actors = map (λ (pair : ℕ × Actor). record_of pair.0 pair.1) actors
