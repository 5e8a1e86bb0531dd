-- Look-ups among an actor's children.
use Rattle.std.specs.Prelude.{ℕ, List, [], find, fold, nat_eq}
use Rattle.std.specs.BTreeSet.{insert_key}
use Rattle.std.specs.Option.{option_map_or}
use Rattle.std.specs.Ordering.{nat_cmp}
use Rattle.office_types.specs.declared.office.ActorRecord.{ActorRecord}
use Rattle.office_types.specs.declared.office.OfficeState.{OfficeState}
use Rattle.office_types.specs.Records.{actor_record}

-- the id of the first child of a number; the empty one where there is no such child
abbrev pub id_among : List (List ℕ × ℕ) → ℕ → List ℕ
id_among kids number = option_map_or (λ (kid : List ℕ × ℕ). kid.0) (find (λ (kid : List ℕ × ℕ). nat_eq kid.1 number) kids) []

-- the children of an actor
abbrev pub kids_of : OfficeState → ℕ → List (List ℕ × ℕ)
kids_of state number = option_map_or (λ (actor : ActorRecord). actor.kids) (actor_record state number) []

-- numbers in their order, with those of children among them
abbrev pub and_numbers : List ℕ → List (List ℕ × ℕ) → List ℕ
and_numbers numbers kids = fold (λ (numbers : List ℕ) (kid : List ℕ × ℕ). insert_key nat_cmp numbers kid.1) numbers kids
