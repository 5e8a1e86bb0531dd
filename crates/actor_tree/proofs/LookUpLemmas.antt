-- Records that are found by number, where records changed.
use Rattle.std.proofs.Common.{◌≡◌, ◌≢◌, ℕ, ◌<◌, Bool, true, false, cond, ◌&&◌, List, [], ◌∷◌, map, refl, sym, ap, ◌∙◌, arith}
use Rattle.std.specs.Prelude.{None, Option, Some, find, is_some, nat_eq, if◌then◌else◌}
use Rattle.std.specs.List.{AllByRecursion}
use Rattle.std.specs.Option.{option_and_then, option_map, option_map_or}
use Rattle.std.proofs.lemmas.Bool.{ne_eqb}
use Rattle.office_types.specs.declared.office.ActorRecord.{ActorRecord}
use Rattle.office_types.specs.declared.office.OfficeState.{OfficeState}
use Rattle.office_types.specs.Ends.{child_id}
use Rattle.office_types.specs.Records.{actor_record, is_active, is_active_machine, parent_actor}

-- the record with this number
abbrev pub record_at : ℕ → List ActorRecord → Option ActorRecord
record_at n actors = find (λ (actor : ActorRecord). nat_eq actor.number n) actors

-- the record, changed if it has the number
abbrev pub changed_at : ℕ → (ActorRecord → ActorRecord) → ActorRecord → ActorRecord
changed_at n change actor = if nat_eq actor.number n then change actor else actor

-- where each record keeps its number, the one found is the changed one
pub record_map : (f : ActorRecord → ActorRecord) → ((a : ActorRecord) → (f a).number ≡ a.number) → (actors : List ActorRecord) (n : ℕ) → record_at n (map f actors) ≡ option_map f (record_at n actors)
record_map f same [] n = refl
record_map f same (a ∷ actors) n = ap (λ (m : ℕ). cond (nat_eq m n) (Some (f a)) (record_at n (map f actors))) (same a) ∙ by_test (record_map f same actors n) (nat_eq a.number n) where
  by_test : record_at n (map f actors) ≡ option_map f (record_at n actors) → (b : Bool) → cond b (Some (f a)) (record_at n (map f actors)) ≡ option_map f (cond b (Some a) (record_at n actors))
  by_test rest true = refl
  by_test rest false = rest

-- what a change keeps of each record is kept of the one that is changed at a number
pub at_kept : {Y : Type 0} (g : ActorRecord → Y) (n : ℕ) (change : ActorRecord → ActorRecord) → ((a : ActorRecord) → g (change a) ≡ g a) → (a : ActorRecord) → g (changed_at n change a) ≡ g a
at_kept g n change same a = by_test (nat_eq a.number n) where
  by_test : (b : Bool) → g (if b then change a else a) ≡ g a
  by_test true = same a
  by_test false = refl

-- a change at a number leaves records that don't have it
pub others_stay : (n : ℕ) (change : ActorRecord → ActorRecord) (actors : List ActorRecord) → AllByRecursion (λ (a : ActorRecord). a.number ≢ n) actors → map (changed_at n change) actors ≡ actors
others_stay n change [] all = refl
others_stay n change (a ∷ actors) all =
    ap (λ (b : Bool). (if b then change a else a) ∷ map (changed_at n change) actors) (ne_eqb a.number n all.0)
    ∙ ap (λ (ys : List ActorRecord). a ∷ ys) (others_stay n change actors all.1)

-- what is read of a record, if there is one
pub read_map : {Y : Type 0} (g : ActorRecord → Y) (f : ActorRecord → ActorRecord) → ((a : ActorRecord) → g (f a) ≡ g a) → (otherwise : Y) (o : Option ActorRecord)
    → option_map_or g (option_map f o) otherwise ≡ option_map_or g o otherwise
read_map g f same otherwise None = refl
read_map g f same otherwise (Some a) = same a

-- a change that keeps of each record its number, its parent and its children
pub record KeepsFamily (f : ActorRecord → ActorRecord) : Type 0 where
  pub number : (a : ActorRecord) → (f a).number ≡ a.number
  pub parent : (a : ActorRecord) → (f a).parent ≡ a.parent
  pub kids : (a : ActorRecord) → (f a).kids ≡ a.kids

module _ (state other : OfficeState) (f : ActorRecord → ActorRecord) (keeps : KeepsFamily f) (actors : other.actors ≡ map f state.actors) where
  found : (n : ℕ) → actor_record other n ≡ option_map f (actor_record state n)
  found n = ap (record_at n) actors ∙ record_map f keeps.number state.actors n

  -- it leaves parents
  pub parent_kept : (n : ℕ) → parent_actor other n ≡ parent_actor state n
  parent_kept n = ap (option_and_then (λ (a : ActorRecord). a.parent)) (found n) ∙ by_record (actor_record state n) where
    by_record : (o : Option ActorRecord) → option_and_then (λ (a : ActorRecord). a.parent) (option_map f o) ≡ option_and_then (λ (a : ActorRecord). a.parent) o
    by_record None = refl
    by_record (Some a) = keeps.parent a

  -- and the ids of children
  pub child_id_kept : (p n : ℕ) → child_id other p n ≡ child_id state p n
  child_id_kept p n =
      let id : ActorRecord → List ℕ = λ (a : ActorRecord). option_map_or (λ (kid : List ℕ × ℕ). kid.0) (find (λ (kid : List ℕ × ℕ). nat_eq kid.1 n) a.kids) [] in
      ap (λ (o : Option ActorRecord). option_map_or id o []) (found p)
      ∙ read_map id f (λ a. ap (λ (kids : List (List ℕ × ℕ)). option_map_or (λ (kid : List ℕ × ℕ). kid.0) (find (λ (kid : List ℕ × ℕ). nat_eq kid.1 n) kids) []) (keeps.kids a)) [] (actor_record state p)

-- a record is that of an active machine actor
abbrev pub runs : ActorRecord → Bool
runs actor = is_active actor && is_some actor.own

-- who is an active machine actor stays so, where records keep their numbers and that
pub machines_kept : (state other : OfficeState) (f : ActorRecord → ActorRecord) → ((a : ActorRecord) → (f a).number ≡ a.number) → ((a : ActorRecord) → runs (f a) ≡ runs a)
    → other.actors ≡ map f state.actors → (n : ℕ) → is_active_machine other n ≡ is_active_machine state n
machines_kept state other f number runs_too actors n =
    ap (λ (o : Option ActorRecord). option_map_or runs o false) (ap (record_at n) actors ∙ record_map f number state.actors n)
    ∙ read_map runs f runs_too false (actor_record state n)
