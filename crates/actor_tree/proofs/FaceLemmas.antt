-- What the notes of a step say of an actor that is found by its number.
use Rattle.std.proofs.Common.{◌≡◌, ◌≢◌, inl, inr, ℕ, suc, zero, ◌+◌, ◌-◌, ◌<◌, ◌≤◌, Bool, true, false, cond, not, true≢false, List, [], ◌∷◌, ◌++◌, length, map, refl, sym, ap, subst, ◌∙◌, arith}
use Rattle.std.specs.Prelude.{Option, None, Some, filter, find, nat_eq, nat_le, slice_get, if◌then◌else◌}
use Rattle.std.specs.List.{AllByRecursion}
use Rattle.std.specs.Option.{option_and_then, option_map, option_map_or, option_or}
use Rattle.std.proofs.lemmas.Bool.{cases_lt, eqb-true, eq-eqb, ne_eqb, leb-true}
use Rattle.office_types.specs.declared.office.ActorRecord.{ActorRecord}
use Rattle.office_types.specs.declared.office.OfficeState.{OfficeState}
use Rattle.actor_tree.specs.Noted.{AreRecordsNoted, Face, FacesRise, Noted, all_faces, face_of, faces_of, made_faces}
use Rattle.actor_tree.proofs.NoteListLemmas.{Rises, each_join, each_look, each_mono, look, look_filter, look_join, look_none, look_through, rises_filter, rises_through}

abbrev pub record_number : ActorRecord → ℕ
record_number actor = actor.number

abbrev pub face_number : Face → ℕ
face_number face = face.number

pub rises_from : (faces : List Face) → FacesRise faces → Rises face_number faces
rises_from [] rise = tt
rises_from (face ∷ faces) rise = (rise.0, rises_from faces rise.1)

-- ---- those that were made

abbrev pub made_face : ℕ → ℕ → Bool → Face
made_face parent number machine = record { number = number; parent = Some parent; active = true; machine = machine }

pub made_from : (parent first : ℕ) (machines : List Bool) → AllByRecursion (λ (face : Face). first ≤ face.number) (made_faces parent first machines)
made_from parent first [] = tt
made_from parent first (machine ∷ machines) = (
  omega arith,
  each_mono (λ (face : Face). first + 1 ≤ face.number) (λ (face : Face). first ≤ face.number) (made_faces parent (first + 1) machines) (λ face less. omega arith) (made_from parent (first + 1) machines),
)

pub made_below : (parent first : ℕ) (machines : List Bool) → AllByRecursion (λ (face : Face). face.number < first + length machines) (made_faces parent first machines)
made_below parent first [] = tt
made_below parent first (machine ∷ machines) = (
  omega arith,
  each_mono (λ (face : Face). face.number < first + 1 + length machines) (λ (face : Face). face.number < first + length (machine ∷ machines)) (made_faces parent (first + 1) machines) (λ face less. omega arith)
      (made_below parent (first + 1) machines),
)

pub made_rise : (parent first : ℕ) (machines : List Bool) → Rises face_number (made_faces parent first machines)
made_rise parent first [] = tt
made_rise parent first (machine ∷ machines) = (
  each_mono (λ (face : Face). first + 1 ≤ face.number) (λ (face : Face). first < face.number) (made_faces parent (first + 1) machines) (λ face less. omega arith) (made_from parent (first + 1) machines),
  made_rise parent (first + 1) machines,
)

-- one more is made
pub made_push : (parent first : ℕ) (machines : List Bool) (machine : Bool) → made_faces parent first (machines ++ machine ∷ []) ≡ made_faces parent first machines ++ made_face parent (first + length machines) machine ∷ []
made_push parent first [] machine = let same : first ≡ first + 0 = omega arith in ap (λ (n : ℕ). made_face parent n machine ∷ []) same
made_push parent first (other ∷ machines) machine =
    let same : first + 1 + length machines ≡ first + length (other ∷ machines) = omega arith in
    ap (λ (faces : List Face). made_face parent first other ∷ faces)
    (made_push parent (first + 1) machines machine ∙ ap (λ (n : ℕ). made_faces parent (first + 1) machines ++ made_face parent n machine ∷ []) same)

-- the one with a number
pub made_look : (parent first : ℕ) (machines : List Bool) (n : ℕ) → first ≤ n → look face_number (made_faces parent first machines) n ≡ option_map (made_face parent n) (slice_get machines (n - first))
made_look parent first [] n from = refl
made_look parent first (machine ∷ machines) n from = elim (cases_lt first n) [
  | inl less ↦ (
      let one : n - first ≡ suc (n - (first + 1)) = omega arith in
      ap (λ (b : Bool). cond b (Some (made_face parent first machine)) (look face_number (made_faces parent (first + 1) machines) n)) (ne_eqb first n (λ e. omega arith))
      ∙ made_look parent (first + 1) machines n (omega arith)
      ∙ ap (λ (k : ℕ). option_map (made_face parent n) (slice_get (machine ∷ machines) k)) (sym one))
  | inr not_less ↦ (
      let same : first ≡ n = omega arith in
      let none : n - first ≡ 0 = omega arith in
      ap (λ (b : Bool). cond b (Some (made_face parent first machine)) (look face_number (made_faces parent (first + 1) machines) n)) (eq-eqb first n same)
      ∙ ap (λ (k : ℕ). Some (made_face parent k machine)) same
      ∙ ap (λ (k : ℕ). option_map (made_face parent n) (slice_get (machine ∷ machines) k)) (sym none))
]

pub made_earlier : (parent first : ℕ) (machines : List Bool) (n : ℕ) → n < first → look face_number (made_faces parent first machines) n ≡ None
made_earlier parent first machines n less =
    look_none face_number (made_faces parent first machines) n (each_mono (λ (face : Face). first ≤ face.number) (λ (face : Face). face.number ≢ n) (made_faces parent first machines) (λ face from e. omega arith) (made_from parent first machines))

rises_join : (first : ℕ) (xs ys : List Face) → Rises face_number xs → Rises face_number ys → AllByRecursion (λ (x : Face). x.number < first) xs → AllByRecursion (λ (y : Face). first ≤ y.number) ys → Rises face_number (xs ++ ys)
rises_join first [] ys rx ry below from = ry
rises_join first (x ∷ xs) ys rx ry below from = (
  each_join (λ (y : Face). x.number < y.number) xs ys rx.0 (each_mono (λ (y : Face). first ≤ y.number) (λ (y : Face). x.number < y.number) ys (λ y is. (let less = below.0 in omega arith)) from),
  rises_join first xs ys rx.1 ry below.1 from,
)

-- ---- all of them

module _ (before : OfficeState) (actor : ℕ) (notes : Noted) (rise : FacesRise (faces_of before.actors)) (given : AllByRecursion (λ (face : Face). face.number < before.next_actor) (faces_of before.actors)) where
  pub all_rise : Rises face_number (all_faces before actor notes)
  all_rise =
      rises_join before.next_actor (faces_of before.actors) (made_faces actor before.next_actor notes.machines) (rises_from (faces_of before.actors) rise) (made_rise actor before.next_actor notes.machines) given
      (made_from actor before.next_actor notes.machines)

  pub none_later : (n : ℕ) → before.next_actor ≤ n → look face_number (faces_of before.actors) n ≡ None
  none_later n from =
      look_none face_number (faces_of before.actors) n (each_mono (λ (face : Face). face.number < before.next_actor) (λ (face : Face). face.number ≢ n) (faces_of before.actors) (λ face less e. omega arith) given)

  pub all_before : (n : ℕ) → n < before.next_actor → look face_number (all_faces before actor notes) n ≡ option_map face_of (look record_number before.actors n)
  all_before n less =
      look_join face_number (faces_of before.actors) (made_faces actor before.next_actor notes.machines) n
      ∙ ap (λ (o : Option Face). option_or (look face_number (faces_of before.actors) n) o) (made_earlier actor before.next_actor notes.machines n less)
      ∙ or_none (look face_number (faces_of before.actors) n) ∙ look_through record_number face_number face_of (λ x. refl) before.actors n where
        or_none : (o : Option Face) → option_or o None ≡ o
        or_none None = refl
        or_none (Some x) = refl

  pub all_made : (n : ℕ) → before.next_actor ≤ n → look face_number (all_faces before actor notes) n ≡ option_map (made_face actor n) (slice_get notes.machines (n - before.next_actor))
  all_made n from =
      look_join face_number (faces_of before.actors) (made_faces actor before.next_actor notes.machines) n
      ∙ ap (λ (o : Option Face). option_or o (look face_number (made_faces actor before.next_actor notes.machines) n)) (none_later n from) ∙ made_look actor before.next_actor notes.machines n from

module _ (before : OfficeState) (actor : ℕ) (notes : Noted) (actors : List ActorRecord) (is : AreRecordsNoted before actor notes actors) where
  pub actors_rise : Rises record_number actors
  actors_rise =
      rises_through record_number face_number face_of (λ x. refl) actors
      (subst (Rises face_number) (sym is.faces) (rises_filter face_number (λ (face : Face). not (notes.gone face.number)) (all_faces before actor notes) (all_rise before actor notes is.rise is.given)))

  pub face_seen : (n : ℕ) → option_map face_of (look record_number actors n) ≡ (if not (notes.gone n) then look face_number (all_faces before actor notes) n else None)
  face_seen n =
      sym (look_through record_number face_number face_of (λ x. refl) actors n) ∙ ap (λ (faces : List Face). look face_number faces n) is.faces
      ∙ look_filter face_number (λ (m : ℕ). not (notes.gone m)) (all_faces before actor notes) n

  pub seen_left : (n : ℕ) → notes.gone n ≡ false → option_map face_of (look record_number actors n) ≡ look face_number (all_faces before actor notes) n
  seen_left n left = face_seen n ∙ ap (λ (b : Bool). if not b then look face_number (all_faces before actor notes) n else None) left

  pub no_record : (n : ℕ) → notes.gone n ≡ true → look record_number actors n ≡ None
  no_record n gone = by_record (look record_number actors n) (face_seen n ∙ ap (λ (b : Bool). if not b then look face_number (all_faces before actor notes) n else None) gone) where
    by_record : (o : Option ActorRecord) → option_map face_of o ≡ None → o ≡ None
    by_record None none = refl
    by_record (Some a) none = absurd (cc)

  -- a word of the face of an actor
  module _ {Y : Type 0} (g : Face → Y) (d : Y) where
    read_face : (o : Option ActorRecord) → option_map_or (λ (a : ActorRecord). g (face_of a)) o d ≡ option_map_or g (option_map face_of o) d
    read_face None = refl
    read_face (Some a) = refl

    -- as it was before
    pub word_before : (n : ℕ) → notes.gone n ≡ false → n < before.next_actor
        → option_map_or (λ (a : ActorRecord). g (face_of a)) (look record_number actors n) d ≡ option_map_or (λ (a : ActorRecord). g (face_of a)) (look record_number before.actors n) d
    word_before n left less =
        read_face (look record_number actors n) ∙ ap (λ (o : Option Face). option_map_or g o d) (seen_left n left ∙ all_before before actor notes is.rise is.given n less) ∙ sym (read_face (look record_number before.actors n))

    -- as it was made
    pub word_made : (n : ℕ) → notes.gone n ≡ false → before.next_actor ≤ n
        → option_map_or (λ (a : ActorRecord). g (face_of a)) (look record_number actors n) d ≡ option_map_or (λ (machine : Bool). g (made_face actor n machine)) (slice_get notes.machines (n - before.next_actor)) d
    word_made n left from =
        read_face (look record_number actors n) ∙ ap (λ (o : Option Face). option_map_or g o d) (seen_left n left ∙ all_made before actor notes is.rise is.given n from) ∙ by_machine (slice_get notes.machines (n - before.next_actor)) where
          by_machine : (o : Option Bool) → option_map_or g (option_map (made_face actor n) o) d ≡ option_map_or (λ (machine : Bool). g (made_face actor n machine)) o d
          by_machine None = refl
          by_machine (Some machine) = refl

    -- or nothing
    pub word_gone : (n : ℕ) → notes.gone n ≡ true → option_map_or (λ (a : ActorRecord). g (face_of a)) (look record_number actors n) d ≡ d
    word_gone n gone = ap (λ (o : Option ActorRecord). option_map_or (λ (a : ActorRecord). g (face_of a)) o d) (no_record n gone)

  pub parent_before : (n : ℕ) → notes.gone n ≡ false → n < before.next_actor
      → option_and_then (λ (a : ActorRecord). a.parent) (look record_number actors n) ≡ option_and_then (λ (a : ActorRecord). a.parent) (look record_number before.actors n)
  parent_before n left less =
      read_parent (look record_number actors n) ∙ word_before (λ (face : Face). face.parent) None n left less ∙ sym (read_parent (look record_number before.actors n)) where
        read_parent : (o : Option ActorRecord) → option_and_then (λ (a : ActorRecord). a.parent) o ≡ option_map_or (λ (a : ActorRecord). (face_of a).parent) o None
        read_parent None = refl
        read_parent (Some a) = refl
