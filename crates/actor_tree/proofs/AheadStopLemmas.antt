-- The office of a step after a child was stopped, or made.
use Rattle.std.proofs.Common.{◌≡◌, ◌≢◌, inl, inr, ℕ, suc, ◌+◌, ◌<◌, ◌≤◌, Bool, true, false, cond, ◌||◌, not, true≢false, List, [], ◌∷◌, ◌++◌, length, map, refl, sym, ap, subst, ◌∙◌, arith}
use Rattle.std.specs.Prelude.{Option, None, Some, filter, fold, nat_eq, unwrap_or, if◌then◌else◌}
use Rattle.std.specs.List.{AllByRecursion}
use Rattle.std.specs.Option.{option_and_then, option_map_or, option_or}
use Rattle.std.specs.Str.{bytes_eq}
use Rattle.std.proofs.lemmas.Bool.{eq-eqb}
use Rattle.office_types.specs.declared.office.ActorRecord.{ActorRecord}
use Rattle.office_types.specs.declared.office.OfficeState.{OfficeState}
use Rattle.office_types.specs.Effects.{after_stop, child_named, with_kid, without_kid}
use Rattle.office_types.specs.Ends.{is_among, removed, subtree_of}
use Rattle.office_types.specs.Records.{with_actor}
use Rattle.actor_tree.specs.declared.notes.Notes.{Notes}
use Rattle.actor_tree.specs.declared.part.Part.{Part}
use Rattle.actor_tree.specs.declared.part.Part.TheVariants as part
use Rattle.actor_tree.specs.Noted.{AreGone, Face, Noted, all_faces, faces_of, kid_among, made_faces, next_of, without_actor}
use Rattle.actor_tree.specs.Notes.{AreNoted, CanStep, IsAhead, IsKidNoted, noted}
use Rattle.actor_tree.specs.Parts.{CanPutAll, put, put_part}
use Rattle.actor_tree.proofs.AheadLemmas.{all_newer, kid_given}
use Rattle.actor_tree.proofs.FaceLemmas.{record_number}
use Rattle.actor_tree.proofs.NoteListLemmas.{each_mono, look}
use Rattle.actor_tree.proofs.NotedKidLemmas.{bytes_same, kid_joined, kids_changed, same_bytes}
use Rattle.actor_tree.proofs.NotedStopLemmas.{gone_stopped, removed_later}
use Rattle.actor_tree.proofs.NotedValidLemmas.{valid_kid, valid_kid_given}
use Rattle.actor_tree.proofs.NotesKidLemmas.{joined, kid_noted, stopped_there}
use Rattle.actor_tree.proofs.PartLemmas.{fits_push, put_push}

-- ---- a stop

gone_same : (before : OfficeState) (actor : ℕ) (notes other : Noted) → AreGone before actor notes → other.machines ≡ notes.machines → ((n : ℕ) → other.gone n ≡ notes.gone n) → AreGone before actor other
gone_same before actor notes other gone machines same = record {
  after = λ n e. (let was = gone.after n (sym (same n) ∙ e) in (was.0, subst (λ (ms : List Bool). n < before.next_actor + length ms) (sym machines) was.1));
  below = subst (λ (ms : List Bool). AllByRecursion (λ (face : Face). (parent : ℕ) → face.parent ≡ Some parent → other.gone parent ≡ true → other.gone face.number ≡ true) (faces_of before.actors ++ made_faces actor before.next_actor ms)) (sym machines)
      (each_mono (λ (face : Face). (parent : ℕ) → face.parent ≡ Some parent → notes.gone parent ≡ true → notes.gone face.number ≡ true)
      (λ (face : Face). (parent : ℕ) → face.parent ≡ Some parent → other.gone parent ≡ true → other.gone face.number ≡ true) (all_faces before actor notes)
      (λ face keeps parent e up. same face.number ∙ keeps parent e (sym (same parent) ∙ up)) gone.below);
}

abbrev with_gone : Noted → (ℕ → Bool) → Noted
with_gone notes gone = record notes { gone = gone }

each_among : (P : ℕ → Type 0) (xs : List ℕ) → ((n : ℕ) → is_among xs n ≡ true → P n) → AllByRecursion P xs
each_among P [] each = tt
each_among P (x ∷ xs) each = (
  each x (ap (λ (b : Bool). b || is_among xs x) (eq-eqb x x refl)),
  each_among P xs (λ n e. each n (last (nat_eq n x) e)),
) where
  last : (b : Bool) {c : Bool} → c ≡ true → (b || c) ≡ true
  last true e = refl
  last false e = e

-- where no child has the id, that is noted
none_noted : (before : OfficeState) (actor : ℕ) (notes new : Notes) (office : OfficeState) (id : List ℕ) → AreNoted before actor notes office → kid_among office.actors actor id ≡ None → IsKidNoted id None notes new → AreNoted before actor new office
none_noted before actor notes new office id is none told =
    subst (λ (n : Notes). AreNoted before actor n office) (sym told.same) (record {
      records = record { rise = is.records.rise; given = is.records.given; begun = is.records.begun; faces = is.records.faces; quiet = is.records.quiet; letters = is.records.letters };
      kids = kids_changed before actor (noted notes) _ office.actors office.actors is.kids (λ m less. refl) (λ other. among other (bytes_eq id other) refl) (λ other m e. later other m (bytes_eq id other) (sym (told.kids other) ∙ e));
      timers = record { own = is.timers.own; others = is.timers.others };
      names = record { same = is.names.same; newer = is.names.newer };
      counts = is.counts;
      next = is.next;
      moment = is.moment;
      few = is.few;
    }) where
      later : (other : List ℕ) (m : ℕ) (b : Bool) → (if b then Some None else (noted notes).kids other) ≡ Some (Some m) → (actor < m) × (m < next_of before (noted notes))
      later other m true e = absurd (cc)
      later other m false e = is.kids.after other m e

      among : (other : List ℕ) (b : Bool) → bytes_eq id other ≡ b → kid_among office.actors actor other ≡ unwrap_or ((noted new).kids other) (kid_among before.actors actor other)
      among other true e =
          ap (kid_among office.actors actor) (sym (same_bytes id other e)) ∙ none
          ∙ ap (λ (o : Option (Option ℕ)). unwrap_or o (kid_among before.actors actor other)) (sym (told.kids other ∙ ap (λ (b : Bool). if b then Some None else (noted notes).kids other) e))
      among other false e =
          is.kids.kids other
          ∙ ap (λ (o : Option (Option ℕ)). unwrap_or o (kid_among before.actors actor other)) (sym (told.kids other ∙ ap (λ (b : Bool). if b then Some None else (noted notes).kids other) e))

module _ (before : OfficeState) (actor : ℕ) (parts : List Part) (notes : Notes) (is : IsAhead before actor parts notes) (id : List ℕ) where
  -- all that are removed are newer than the step's actor
  pub doomed_later : (subtree : List ℕ) (o : Option ℕ) → child_named (put before parts) actor id ≡ o → subtree ≡ option_map_or (subtree_of (put before parts)) o [] → AllByRecursion (λ (n : ℕ). actor < n) subtree
  doomed_later subtree None e same = subst (AllByRecursion (λ (n : ℕ). actor < n)) (sym same) tt
  doomed_later subtree (Some child) e same =
      let given = kid_given before actor parts notes is id child e in
      subst (AllByRecursion (λ (n : ℕ). actor < n)) (sym same)
      (each_among (λ (n : ℕ). actor < n) (subtree_of (put before parts) child)
      (removed_later before (put before parts) actor (noted notes) (with_gone (noted notes) (λ (n : ℕ). is_among (subtree_of (put before parts) child) n || (noted notes).gone n)) is.told.records is.gone (all_newer before actor parts notes is) child given.0 given.1 refl (λ n. refl)))

  stop_told : (subtree : List ℕ) (mid new : Notes) (o : Option ℕ) → child_named (put before parts) actor id ≡ o → subtree ≡ option_map_or (subtree_of (put before parts)) o []
      → ((office : OfficeState) → AreNoted before actor notes office → AreNoted before actor mid (fold without_actor office subtree)) → IsKidNoted id None mid new → AreNoted before actor new (after_stop actor id (put before parts))
  stop_told subtree mid new None e same dropped told =
      let office : OfficeState = put before parts in
      let kept : AreNoted before actor mid office = subst (λ (numbers : List ℕ). AreNoted before actor mid (fold without_actor office numbers)) same (dropped office is.told) in
      subst (AreNoted before actor new) (sym (ap (λ (o : Option ℕ). option_map_or (λ (c : ℕ). with_actor (removed c office) actor (without_kid id)) o office) e)) (none_noted before actor mid new office id kept e told)
  stop_told subtree mid new (Some child) e same dropped told =
      let office : OfficeState = put before parts in
      stopped_there before actor mid office id child new e (subst (λ (numbers : List ℕ). AreNoted before actor mid (fold without_actor office numbers)) same (dropped office is.told)) told

  stop_gone : (subtree : List ℕ) (mid : Notes) (o : Option ℕ) → child_named (put before parts) actor id ≡ o → subtree ≡ option_map_or (subtree_of (put before parts)) o []
      → ((n : ℕ) → (noted mid).gone n ≡ (is_among subtree n || (noted notes).gone n)) → mid.machines ≡ notes.machines → AreGone before actor (noted mid)
  stop_gone subtree mid None e same gone machines =
      gone_same before actor (noted notes) (noted mid) is.gone machines (λ n. gone n ∙ ap (λ (numbers : List ℕ). is_among numbers n || (noted notes).gone n) same)
  stop_gone subtree mid (Some child) e same gone machines =
      let given = kid_given before actor parts notes is id child e in
      gone_stopped before (put before parts) actor (noted notes) (noted mid) is.told.records is.gone (all_newer before actor parts notes is) child given.0 given.1 machines
      (λ n. gone n ∙ ap (λ (numbers : List ℕ). is_among numbers n || (noted notes).gone n) same)

  -- the child of an id is stopped
  pub stopped : (subtree : List ℕ) (mid new : Notes) → subtree ≡ option_map_or (subtree_of (put before parts)) (child_named (put before parts) actor id) []
      → ((office : OfficeState) → AreNoted before actor notes office → AreNoted before actor mid (fold without_actor office subtree)) → ((n : ℕ) → (noted mid).gone n ≡ (is_among subtree n || (noted notes).gone n)) → mid.machines ≡ notes.machines
      → IsKidNoted id None mid new → IsAhead before actor (parts ++ part.Stop actor id subtree ∷ []) new
  stopped subtree mid new same dropped gone machines told = record {
    begins = is.begins;
    fits = fits_push before parts (part.Stop actor id subtree) is.fits same;
    told = subst (AreNoted before actor new) (sym (put_push before parts (part.Stop actor id subtree))) (stop_told subtree mid new (child_named (put before parts) actor id) refl same dropped told);
    gone = (let after : AreGone before actor (noted mid) = stop_gone subtree mid (child_named (put before parts) actor id) refl same gone machines in
        subst (λ (n : Notes). AreGone before actor (noted n)) (sym told.same) (record { after = after.after; below = after.below }));
  }

-- ---- a child

-- a child stands last among the others, behind one of its id if there is one
pub joined_first : (before : OfficeState) (actor : ℕ) (notes new : Notes) (office : OfficeState) (id : List ℕ) (n first : ℕ) → CanStep before actor → AreNoted before actor notes office → (a : ActorRecord) → look record_number office.actors actor ≡ Some a
    → first ≡ unwrap_or (kid_among office.actors actor id) n → IsKidNoted id (Some first) notes new → actor < n → n < next_of before (noted notes) → AreNoted before actor new (with_actor office actor (with_kid id n))
joined_first before actor notes new office id n first can is a seen is_first told later given =
    by_kid (kid_among office.actors actor id) refl is_first where
      kid_later : (c : ℕ) → kid_among office.actors actor id ≡ Some c → (actor < c) × (c < next_of before (noted notes))
      kid_later c e = by_note ((noted notes).kids id) refl (sym (is.kids.kids id) ∙ e) where
        by_note : (o : Option (Option ℕ)) → (noted notes).kids id ≡ o → unwrap_or o (kid_among before.actors actor id) ≡ Some c → (actor < c) × (c < next_of before (noted notes))
        by_note None f found = (valid_kid can.valid.0 before can.valid.1 actor id c found, (let less = valid_kid_given can.valid.0 before can.valid.1 actor id c found in omega arith))
        by_note (Some kid) f found = is.kids.after id c (f ∙ ap (λ (o : Option ℕ). Some o) found)

      turned : (other : List ℕ) → bytes_eq id other ≡ false → bytes_eq other id ≡ false
      turned other e = by_test (bytes_eq other id) refl where
        by_test : (b : Bool) → bytes_eq other id ≡ b → b ≡ false
        by_test true f = absurd (true≢false (sym (bytes_same id other (sym (same_bytes other id f))) ∙ e))
        by_test false f = refl

      or_none : (o : Option ℕ) → option_or o None ≡ o
      or_none None = refl
      or_none (Some x) = refl

      by_kid : (o : Option ℕ) → kid_among office.actors actor id ≡ o → first ≡ unwrap_or o n → AreNoted before actor new (with_actor office actor (with_kid id n))
      by_kid None e same = joined before actor notes office id is new n (subst (λ (k : ℕ). IsKidNoted id (Some k) notes new) same told) a seen e later given
      by_kid (Some c) e same =
          kid_noted before actor notes new office id (Some c) (λ (kids : List (List ℕ × ℕ)). kids ++ (id, n) ∷ []) is (subst (λ (k : ℕ). IsKidNoted id (Some k) notes new) same told)
          (λ other. kid_joined actor office.actors id n other ∙ ap (λ (o : Option ActorRecord). option_or (kid_among office.actors actor other) (option_and_then (λ (z : ActorRecord). if bytes_eq other id then Some n else None) o)) seen
          ∙ by_test other (bytes_eq id other) refl)
          (λ m f. (let one : c ≡ m = cc in let late = kid_later c e in (omega (arith, late.0), omega (arith, late.1)))) where
            by_test : (other : List ℕ) (b : Bool) → bytes_eq id other ≡ b
                → option_or (kid_among office.actors actor other) (if bytes_eq other id then Some n else None) ≡ unwrap_or (if b then Some (Some c) else (noted notes).kids other) (kid_among before.actors actor other)
            by_test other true f = ap (λ (o : Option ℕ). option_or o (if bytes_eq other id then Some n else None)) (ap (kid_among office.actors actor) (sym (same_bytes id other f)) ∙ e)
            by_test other false f =
                ap (λ (b : Bool). option_or (kid_among office.actors actor other) (if b then Some n else None)) (turned other f) ∙ or_none (kid_among office.actors actor other) ∙ is.kids.kids other
