-- The record of a numbered actor, and what it says of the actor.
use Rattle.std.proofs.Common.{◌≡◌, ℕ, Bool, true, false, cond, List, [], ◌∷◌, find, nat_eq, Option, Some, None, refl, ap, ◌∙◌}
use Rattle.std.specs.Option.{option_and_then, option_map, option_map_or}
use Rattle.std.proofs.lemmas.Bool.{eqb-true}
use Rattle.office_types.specs.declared.office.ActorRecord.{ActorRecord}
use Rattle.office_books.specs.NumberedItems.{numbered_item}
use Rattle.actor_tree.specs.declared.actor.Actor.{Actor}
use Rattle.actor_tree.specs.Actors.{record_of, records_of}

-- the record of a number is that of the actor held under it
pub record_found : (number : ℕ) (actors : List (ℕ × Actor))
    → find (λ (actor : ActorRecord). nat_eq actor.number number) (records_of actors) ≡ option_map (record_of number) (numbered_item number actors)
record_found number [] = refl
record_found number (first ∷ actors) = cases (record_found number actors) (nat_eq first.0 number) refl
  where
    cases : find (λ (actor : ActorRecord). nat_eq actor.number number) (records_of actors) ≡ option_map (record_of number) (numbered_item number actors) → (b : Bool) → nat_eq first.0 number ≡ b
        → cond b (Some (record_of first.0 first.1)) (find (λ (actor : ActorRecord). nat_eq actor.number number) (records_of actors)) ≡ option_map (record_of number) (cond b (Some first.1) (numbered_item number actors))
    cases rest true e = ap (λ (n : ℕ). Some (record_of n first.1)) (eqb-true first.0 number e)
    cases rest false e = rest

-- a word of the record, where the actor is there
pub word_of : {X : Type 0} (word : ActorRecord → X) (none : X) (number : ℕ) (actors : List (ℕ × Actor)) (actor : Actor) → numbered_item number actors ≡ Some actor
    → option_map_or word (find (λ (actor : ActorRecord). nat_eq actor.number number) (records_of actors)) none ≡ word (record_of number actor)
word_of word none number actors actor held =
    ap (λ (o : Option ActorRecord). option_map_or word o none) (record_found number actors ∙ ap (option_map (record_of number)) held)

-- and where there is none
pub word_of_none : {X : Type 0} (word : ActorRecord → X) (none : X) (number : ℕ) (actors : List (ℕ × Actor)) → numbered_item number actors ≡ None
    → option_map_or word (find (λ (actor : ActorRecord). nat_eq actor.number number) (records_of actors)) none ≡ none
word_of_none word none number actors held =
    ap (λ (o : Option ActorRecord). option_map_or word o none) (record_found number actors ∙ ap (option_map (record_of number)) held)

-- the same of a word that may be missing
pub part_of : {X : Type 0} (word : ActorRecord → Option X) (number : ℕ) (actors : List (ℕ × Actor)) (actor : Actor) → numbered_item number actors ≡ Some actor
    → option_and_then word (find (λ (actor : ActorRecord). nat_eq actor.number number) (records_of actors)) ≡ word (record_of number actor)
part_of word number actors actor held = ap (option_and_then word) (record_found number actors ∙ ap (option_map (record_of number)) held)

pub part_of_none : {X : Type 0} (word : ActorRecord → Option X) (number : ℕ) (actors : List (ℕ × Actor)) → numbered_item number actors ≡ None
    → option_and_then word (find (λ (actor : ActorRecord). nat_eq actor.number number) (records_of actors)) ≡ None
part_of_none word number actors held = ap (option_and_then word) (record_found number actors ∙ ap (option_map (record_of number)) held)
