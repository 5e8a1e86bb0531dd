-- How the head letters of actors follow the parts of a change.
use Rattle.std.specs.Prelude.{ℕ, List, Option, None, fold, map}
use Rattle.std.specs.Option.{option_map}
use Rattle.office_types.specs.declared.office.ActorRecord.{ActorRecord}
use Rattle.office_types.specs.Ready.{Head, head_at}
use Rattle.office_books.specs.NumberedItems.{with_numbered_item, without_numbered_item}
use Rattle.actor_tree.specs.declared.following.Touch.{Touch}
use Rattle.actor_tree.specs.declared.following.Touch.TheVariants.{Made, Nobody, One}
use Rattle.actor_tree.specs.declared.part.Part.{Part}
use Rattle.actor_tree.specs.declared.part.Part.TheVariants as part

-- the number of an actor's head letter, if it is ready
abbrev pub head_number : ActorRecord → Option ℕ
head_number actor = option_map (λ (head : Head). head.letter) (head_at actor)

-- actors by their numbers, with those of their head letters
abbrev pub head_numbers : List ActorRecord → List (ℕ × Option ℕ)
head_numbers actors = map (λ (actor : ActorRecord). (actor.number, head_number actor)) actors

-- whose head letter a part may change, beside those of actors that are removed or end
abbrev pub touch_of : Part → Touch
touch_of (part.TakeHead actor) = One actor
touch_of (part.Own actor own) = One actor
touch_of (part.Mail origin receiver event) = One receiver
touch_of (part.Make newcomer) = Made
touch_of _ = Nobody

-- the actors but for these
abbrev pub without_numbers : List ℕ → List (ℕ × Option ℕ) → List (ℕ × Option ℕ)
without_numbers numbers items = fold (λ (items : List (ℕ × Option ℕ)) (number : ℕ). without_numbered_item number items) items numbers

-- the actors, with no letter for these
abbrev pub silenced : List ℕ → List (ℕ × Option ℕ) → List (ℕ × Option ℕ)
silenced numbers items = fold (λ (items : List (ℕ × Option ℕ)) (number : ℕ). with_numbered_item number None items) items numbers

-- the head letters without those of actors that a part removes or ends
abbrev pub heads_left : Part → List (ℕ × Option ℕ) → List (ℕ × Option ℕ)
heads_left (part.Stop parent id subtree) items = without_numbers subtree items
heads_left (part.Done actor output subtree) items = silenced subtree items
heads_left (part.Fail actor error subtree) items = silenced subtree items
heads_left _ items = items

-- how many actors a part makes
abbrev pub actors_made : Part → ℕ
actors_made (part.Make newcomer) = 1
actors_made _ = 0
