-- The notes of a step after its actor got a child, or lost one.
use Rattle.std.proofs.Common.{◌≡◌, ◌≢◌, inl, inr, ℕ, ◌+◌, ◌<◌, ◌≤◌, Bool, true, false, cond, ◌||◌, not, true≢false, List, [], ◌∷◌, ◌++◌, length, map, refl, sym, ap, subst, ◌∙◌, arith}
use Rattle.std.specs.Prelude.{Option, None, Some, filter, fold, is_some, nat_eq, sum_by, unwrap_or, if◌then◌else◌}
use Rattle.std.specs.List.{AllByRecursion}
use Rattle.std.specs.Map.{lookup}
use Rattle.std.specs.Option.{option_and_then, option_map, option_map_or, option_or}
use Rattle.std.specs.Str.{bytes_eq}
use Rattle.std.proofs.lemmas.Bool.{cases_Bool}
use Rattle.office_types.specs.declared.office.ActorRecord.{ActorRecord}
use Rattle.office_types.specs.declared.office.OfficeState.{OfficeState}
use Rattle.office_types.specs.Effects.{after_stop, child_named, with_kid, without_kid}
use Rattle.office_types.specs.Ends.{is_among, removed, subtree_of}
use Rattle.office_types.specs.Records.{is_active, with_actor}
use Rattle.actor_tree.specs.declared.notes.Notes.{Notes}
use Rattle.actor_tree.specs.Noted.{AreGone, Face, Noted, face_of, kid_among, next_of, without_actor}
use Rattle.actor_tree.specs.Notes.{AreNoted, IsKidNoted, noted}
use Rattle.actor_tree.proofs.ChangedLemmas.{active_kept}
use Rattle.actor_tree.proofs.FaceLemmas.{actors_rise, record_number}
use Rattle.actor_tree.proofs.NoteListLemmas.{change_at, look, look_beside, sum_at}
use Rattle.actor_tree.proofs.NotedKidLemmas.{bytes_same, kid_joined, kid_left, kids_changed, same_bytes}
use Rattle.actor_tree.proofs.NotedRecordLemmas.{quiet_kept, records_changed}
use Rattle.actor_tree.proofs.NotedStopLemmas.{removed_is}

-- the step's actor's list of children changes, and nothing else
module _ (before : OfficeState) (actor : ℕ) (notes new : Notes) (office : OfficeState) (id : List ℕ) (kid : Option ℕ) (kids : List (List ℕ × ℕ) → List (List ℕ × ℕ)) (is : AreNoted before actor notes office) (told : IsKidNoted id kid notes new) where
  no_faces : (xs : List ActorRecord) → AllByRecursion (λ (a : ActorRecord). a.number ≡ actor → face_of a ≡ face_of a) xs
  no_faces [] = tt
  no_faces (a ∷ xs) = (λ at. refl, no_faces xs)

  same_mail : (xs : List ActorRecord) → AllByRecursion (λ (a : ActorRecord). a.number ≡ actor → (is_active a ≡ false → a.mailbox ≡ []) → is_active a ≡ false → a.mailbox ≡ []) xs
  same_mail [] = tt
  same_mail (a ∷ xs) = (λ at quiet. quiet, same_mail xs)

  pub kid_noted : ((other : List ℕ) → kid_among (map (change_at record_number actor (λ (a : ActorRecord). record a { kids = kids a.kids })) office.actors) actor other ≡ unwrap_or (if bytes_eq id other then Some kid else (noted notes).kids other) (kid_among before.actors actor other))
      → ((n : ℕ) → kid ≡ Some n → (actor < n) × (n < next_of before (noted notes)))
      → AreNoted before actor new (with_actor office actor (λ (a : ActorRecord). record a { kids = kids a.kids }))
  kid_noted among later =
      subst (λ (n : Notes). AreNoted before actor n (with_actor office actor (λ (a : ActorRecord). record a { kids = kids a.kids }))) (sym told.same) (record {
        records = records_changed before actor (noted notes) _ actor (λ (a : ActorRecord). record a { kids = kids a.kids }) office.actors is.records refl (λ m. refl) (λ a. refl) (no_faces office.actors)
            (quiet_kept actor (λ (a : ActorRecord). record a { kids = kids a.kids }) office.actors is.records.quiet (same_mail office.actors)) (λ m left other. refl) (λ left. refl);
        kids = kids_changed before actor (noted notes) _ office.actors (map (change_at record_number actor (λ (a : ActorRecord). record a { kids = kids a.kids })) office.actors) is.kids
            (λ m less. look_beside record_number actor m (λ (a : ActorRecord). record a { kids = kids a.kids }) (λ a. refl) office.actors (λ e. omega arith))
            (λ other. among other ∙ ap (λ (o : Option (Option ℕ)). unwrap_or o (kid_among before.actors actor other)) (sym (told.kids other)))
            (λ other m e. by_test other m (bytes_eq id other) (sym (told.kids other) ∙ e));
        timers = record { own = is.timers.own; others = is.timers.others };
        names = record { same = is.names.same; newer = is.names.newer };
        counts = record {
          moment = is.counts.moment;
          next_actor = is.counts.next_actor;
          next_letter = is.counts.next_letter;
          next_timer = is.counts.next_timer;
          active = is.counts.active ∙ sym (active_kept actor (λ (a : ActorRecord). record a { kids = kids a.kids }) (λ a. refl) office.actors);
          waiting = omega (arith, is.counts.waiting, sum_at record_number (λ (a : ActorRecord). length a.mailbox) actor (λ (a : ActorRecord). record a { kids = kids a.kids }) office.actors (actors_rise before actor (noted notes) office.actors is.records));
          standing = is.counts.standing;
          fits = is.counts.fits;
        };
        next = is.next;
        moment = is.moment;
        few = is.few;
      }) where
        by_test : (other : List ℕ) (m : ℕ) (b : Bool) → (if b then Some kid else (noted notes).kids other) ≡ Some (Some m) → (actor < m) × (m < next_of before (noted notes))
        by_test other m true e = let same : kid ≡ Some m = cc in later m same
        by_test other m false e = is.kids.after other m e

module _ (before : OfficeState) (actor : ℕ) (notes : Notes) (office : OfficeState) (id : List ℕ) (is : AreNoted before actor notes office) where
  differs : (a b : List ℕ) → bytes_eq a b ≡ false → bytes_eq b a ≡ false
  differs a b e = elim (cases_Bool (bytes_eq b a)) [
    | inl same ↦ absurd (true≢false (sym (bytes_same a b (sym (same_bytes b a same))) ∙ e))
    | inr not_same ↦ not_same
  ]

  -- a child that no other child has the id of
  pub joined : (new : Notes) (n : ℕ) → IsKidNoted id (Some n) notes new → (a : ActorRecord) → look record_number office.actors actor ≡ Some a → kid_among office.actors actor id ≡ None → actor < n → n < next_of before (noted notes)
      → AreNoted before actor new (with_actor office actor (with_kid id n))
  joined new n told a seen none later given =
      kid_noted before actor notes new office id (Some n) (λ (kids : List (List ℕ × ℕ)). kids ++ (id, n) ∷ []) is told (λ other. kid_joined actor office.actors id n other ∙ ap (λ (o : Option ActorRecord). option_or (kid_among office.actors actor other) (option_and_then (λ (z : ActorRecord). if bytes_eq other id then Some n else None) o)) seen ∙ by_test other (bytes_eq id other) refl)
      (λ m e. (let same : n ≡ m = cc in (omega arith, omega arith))) where
        or_none : (o : Option ℕ) → option_or o None ≡ o
        or_none None = refl
        or_none (Some x) = refl

        by_test : (other : List ℕ) (b : Bool) → bytes_eq id other ≡ b
            → option_or (kid_among office.actors actor other) (if bytes_eq other id then Some n else None) ≡ unwrap_or (if b then Some (Some n) else (noted notes).kids other) (kid_among before.actors actor other)
        by_test other true e =
            ap (λ (o : Option ℕ). option_or o (if bytes_eq other id then Some n else None)) (ap (kid_among office.actors actor) (sym (same_bytes id other e)) ∙ none)
            ∙ ap (λ (b : Bool). if b then Some n else None) (bytes_same other id (sym (same_bytes id other e)))
        by_test other false e =
            ap (λ (b : Bool). option_or (kid_among office.actors actor other) (if b then Some n else None)) (differs id other e)
            ∙ or_none (kid_among office.actors actor other) ∙ is.kids.kids other

  -- the child of an id is gone from the list
  pub left : (new : Notes) → IsKidNoted id None notes new → AreNoted before actor new (with_actor office actor (without_kid id))
  left new told =
      kid_noted before actor notes new office id None (λ (kids : List (List ℕ × ℕ)). filter (λ (kid : List ℕ × ℕ). not (bytes_eq kid.0 id)) kids) is told (λ other. kid_left actor office.actors id other ∙ by_test other (bytes_eq id other))
      (λ m e. absurd (cc)) where
        by_test : (other : List ℕ) (b : Bool) → (if b then None else kid_among office.actors actor other) ≡ unwrap_or (if b then Some None else (noted notes).kids other) (kid_among before.actors actor other)
        by_test other true = refl
        by_test other false = is.kids.kids other

-- the child of an id is removed with all below it
pub stopped_there : (before : OfficeState) (actor : ℕ) (notes : Notes) (office : OfficeState) (id : List ℕ) (child : ℕ) (new : Notes) → child_named office actor id ≡ Some child
    → AreNoted before actor notes (fold without_actor office (subtree_of office child)) → IsKidNoted id None notes new → AreNoted before actor new (after_stop actor id office)
stopped_there before actor notes office id child new named is told =
    subst (AreNoted before actor new) (sym (ap (λ (o : Option ℕ). option_map_or (λ (c : ℕ). with_actor (removed c office) actor (without_kid id)) o office) named))
    (left before actor notes (removed child office) id (subst (AreNoted before actor notes) (removed_is office child) is) new told)
