-- The office of a step after its actor made a child.
use Rattle.std.proofs.Common.{◌≡◌, ◌≢◌, ℕ, ◌+◌, ◌<◌, ◌≤◌, Bool, true, false, cond, not, true≢false, List, [], ◌∷◌, ◌++◌, length, refl, sym, ap, subst, ◌∙◌, arith}
use Rattle.std.specs.Prelude.{Option, None, Some, IfSome, is_some, unwrap_or}
use Rattle.std.specs.List.{AllByRecursion}
use Rattle.std.specs.Map.{lookup}
use Rattle.std.specs.Option.{option_and_then, option_map_or, option_or}
use Rattle.std.specs.Str.{bytes_eq}
use Rattle.std.proofs.lemmas.List.{length-append}
use Rattle.office_types.specs.declared.office.ActorRecord.{ActorRecord}
use Rattle.office_types.specs.declared.office.Item.{Item}
use Rattle.office_types.specs.declared.office.OfficeState.{OfficeState}
use Rattle.office_types.specs.Effects.{child_named, is_name_held, with_kid}
use Rattle.office_types.specs.Mailboxes.{has_letter_room}
use Rattle.office_types.specs.Records.{with_actor}
use Rattle.office_types.specs.SystemNames.{holder_of}
use Rattle.actor_tree.specs.declared.notes.Notes.{Notes}
use Rattle.actor_tree.specs.declared.part.Newcomer.{Newcomer}
use Rattle.actor_tree.specs.declared.part.Part.{Part}
use Rattle.actor_tree.specs.declared.part.Part.TheVariants as part
use Rattle.actor_tree.specs.Actors.{record_of}
use Rattle.actor_tree.specs.Changes.{AheadOffice, HasChildRoom}
use Rattle.actor_tree.specs.Noted.{AreGone, Face, Noted, all_faces, faces_of, kid_among, made_faces, next_of}
use Rattle.actor_tree.specs.Notes.{AreNoted, IsAhead, IsKidNoted, IsMakeNoted, noted}
use Rattle.actor_tree.specs.Parts.{CanBeMade, CanPutAll, IsBorn, put, put_part, with_newcomer}
use Rattle.actor_tree.proofs.AheadLemmas.{holder_is}
use Rattle.actor_tree.proofs.AheadStopLemmas.{joined_first}
use Rattle.actor_tree.proofs.FaceLemmas.{made_face, made_push, record_number}
use Rattle.actor_tree.proofs.NoteListLemmas.{each_mono, each_push, look}
use Rattle.actor_tree.proofs.NotedKidLemmas.{kin_pushed}
use Rattle.actor_tree.proofs.NotedValidLemmas.{ready_given}
use Rattle.actor_tree.proofs.NotesLemmas.{actor_left, actor_there, make_noted}
use Rattle.actor_tree.proofs.PartLemmas.{fits_push, put_push}

-- one actor more, below one that isn't gone
gone_made : (before : OfficeState) (actor : ℕ) (notes other : Noted) (machine : Bool) → AreGone before actor notes → notes.gone actor ≡ false → other.machines ≡ notes.machines ++ machine ∷ [] → ((n : ℕ) → other.gone n ≡ notes.gone n) → AreGone before actor other
gone_made before actor notes other machine gone stands machines same = record {
  after = λ n e. (let was = gone.after n (sym (same n) ∙ e) in let longer = ap (λ (ms : List Bool). length ms) machines ∙ length-append notes.machines (machine ∷ []) in (was.0, omega (arith, was.1, longer)));
  below = subst (AllByRecursion (λ (face : Face). (parent : ℕ) → face.parent ≡ Some parent → other.gone parent ≡ true → other.gone face.number ≡ true)) (sym pushed)
      (each_push (λ (face : Face). (parent : ℕ) → face.parent ≡ Some parent → other.gone parent ≡ true → other.gone face.number ≡ true) (all_faces before actor notes) (made_face actor (next_of before notes) machine)
      (each_mono (λ (face : Face). (parent : ℕ) → face.parent ≡ Some parent → notes.gone parent ≡ true → notes.gone face.number ≡ true)
      (λ (face : Face). (parent : ℕ) → face.parent ≡ Some parent → other.gone parent ≡ true → other.gone face.number ≡ true) (all_faces before actor notes)
      (λ face keeps parent e up. same face.number ∙ keeps parent e (sym (same parent) ∙ up)) gone.below)
      (λ parent e up. absurd (let above : actor ≡ parent = cc in true≢false (sym up ∙ same parent ∙ ap notes.gone (sym above) ∙ stands))));
} where
  joined : (xs : List Face) → xs ++ (made_faces actor before.next_actor notes.machines ++ made_face actor (next_of before notes) machine ∷ []) ≡ (xs ++ made_faces actor before.next_actor notes.machines) ++ made_face actor (next_of before notes) machine ∷ []
  joined [] = refl
  joined (x ∷ xs) = ap (λ (faces : List Face). x ∷ faces) (joined xs)

  pushed : all_faces before actor other ≡ all_faces before actor notes ++ made_face actor (next_of before notes) machine ∷ []
  pushed =
      ap (λ (ms : List Bool). faces_of before.actors ++ made_faces actor before.next_actor ms) machines
      ∙ ap (λ (faces : List Face). faces_of before.actors ++ faces) (made_push actor before.next_actor notes.machines machine) ∙ joined (faces_of before.actors)

module _ (before : OfficeState) (actor : ℕ) (parts : List Part) (notes : Notes) (is : IsAhead before actor parts notes) where
  -- a name that nobody holds, nobody holds among those that were made
  pub unheld : (o : Option (List ℕ)) → is_name_held (put before parts) o ≡ false → IfSome o (λ name. holder_of name notes.names.names ≡ None)
  unheld None free = tt
  unheld (Some name) free =
      last (option_and_then (λ (n : ℕ). cond (not ((noted notes).gone n)) (Some n) None) (holder_of name before.names)) (holder_of name notes.names.names)
      (none (holder_of name (put before parts).names) free (holder_is before actor parts notes is name)) where
        none : (o : Option ℕ) {p : Option ℕ} → is_some o ≡ false → o ≡ p → p ≡ None
        none None free e = sym e
        none (Some n) free e = absurd (true≢false free)

        last : (o p : Option ℕ) → option_or o p ≡ None → p ≡ None
        last None p e = e
        last (Some n) p e = absurd (cc)

  pub can_be_made : (newcomer : Newcomer) (letters : ℕ) (system : Option (List ℕ)) → IsBorn actor system letters newcomer → HasChildRoom (record { before = before; actor = actor; office = put before parts }) letters system
      → IfSome newcomer.item (λ item. item.actor ≡ (put before parts).next_actor) → CanBeMade (put before parts) newcomer
  can_be_made newcomer letters system born room item = record {
    complete = born.complete;
    active = born.active;
    item_number = item;
    name_free = ap (is_name_held (put before parts)) born.system_is ∙ room.name_free;
    actor_room = room.actor_room;
    letter_room = ap (has_letter_room (put before parts)) born.letters_are ∙ room.letter_room;
  }

  pub spawned : (newcomer : Newcomer) (id : List ℕ) (letters : ℕ) (system : Option (List ℕ)) (mid new : Notes) (first : ℕ) → IsBorn actor system letters newcomer
      → HasChildRoom (record { before = before; actor = actor; office = put before parts }) letters system
      → IfSome newcomer.item (λ item. item.actor ≡ (put before parts).next_actor) → IsMakeNoted newcomer notes mid → first ≡ unwrap_or (child_named (put before parts) actor id) notes.counts.next_actor
      → IsKidNoted id (Some first) mid new → IsAhead before actor ((parts ++ part.Make newcomer ∷ []) ++ part.Join actor id notes.counts.next_actor ∷ []) new
  spawned newcomer id letters system mid new first born room item made is_first told = record {
    begins = is.begins;
    fits = fits_push before (parts ++ part.Make newcomer ∷ []) (part.Join actor id notes.counts.next_actor) (fits_push before parts (part.Make newcomer) is.fits (can_be_made newcomer letters system born room item)) tt;
    told = subst (AreNoted before actor new) (sym (put_push before (parts ++ part.Make newcomer ∷ []) (part.Join actor id notes.counts.next_actor) ∙ ap (λ (o : OfficeState). with_actor o actor (with_kid id notes.counts.next_actor)) (put_push before parts (part.Make newcomer)))) after;
    gone = subst (λ (n : Notes). AreGone before actor (noted n)) (sym told.same) (record { after = gone_mid.after; below = gone_mid.below });
  } where
    office : OfficeState
    office = put before parts

    later : actor < next_of before (noted notes)
    later = let less = ready_given is.begins.valid.0 before is.begins.valid.1 actor is.begins.ready in omega arith

    counted : notes.counts.next_actor ≡ next_of before (noted notes)
    counted = is.told.counts.next_actor ∙ is.told.next

    longer : length mid.machines ≡ length notes.machines + 1
    longer = ap (λ (ms : List Bool). length ms) made.machines ∙ length-append notes.machines (is_some newcomer.actor.own ∷ [])

    middle : AreNoted before actor mid (with_newcomer (put before parts) newcomer)
    middle = make_noted before actor notes (put before parts) is.begins is.gone is.told mid newcomer letters system made born room.letter_room

    same_record : look record_number (with_newcomer (put before parts) newcomer).actors actor ≡ look record_number (put before parts).actors actor
    same_record = kin_pushed (record_of (put before parts).next_actor newcomer.actor) (put before parts).actors actor (λ e. (let apart = later in let there = is.told.next in omega arith))

    gone_mid : AreGone before actor (noted mid)
    gone_mid = gone_made before actor (noted notes) (noted mid) (is_some newcomer.actor.own) is.gone (actor_left before actor notes (put before parts) is.begins is.gone is.told actor (omega arith)) made.machines (λ n. ap (λ (m : Notes). (noted m).gone n) made.same)

    after : AreNoted before actor new (with_actor (with_newcomer (put before parts) newcomer) actor (with_kid id notes.counts.next_actor))
    after =
        let found = actor_there before actor notes (put before parts) is.begins is.gone is.told in
        joined_first before actor mid new (with_newcomer (put before parts) newcomer) id notes.counts.next_actor first is.begins middle found.0 (same_record ∙ found.1)
        (is_first ∙ ap (λ (o : Option ActorRecord). unwrap_or (option_and_then (λ (a : ActorRecord). lookup (bytes_eq id) a.kids) o) notes.counts.next_actor) (sym same_record))
        told (omega (arith, later, counted)) (omega (arith, counted, longer))
