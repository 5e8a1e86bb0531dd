-- What the notes of a step say of the records after one was removed, changed or made.
use Rattle.std.proofs.Common.{◌≡◌, ◌≢◌, inl, inr, ℕ, suc, ◌+◌, ◌-◌, ◌<◌, ◌≤◌, Bool, true, false, cond, ◌&&◌, ◌||◌, not, true≢false, List, [], ◌∷◌, ◌++◌, length, map, refl, sym, ap, subst, ◌∙◌, arith}
use Rattle.std.specs.Prelude.{Option, None, Some, IsSome, filter, is_some, nat_eq, slice_get, if◌then◌else◌}
use Rattle.std.specs.List.{AllByRecursion}
use Rattle.std.specs.Option.{option_map, option_map_or, option_or}
use Rattle.std.proofs.lemmas.Bool.{cases_Bool, cases_eq, eqb-true, eq-eqb, ne_eqb}
use Rattle.std.proofs.lemmas.List.{length-append, map-append}
use Rattle.office_types.specs.declared.office.ActorRecord.{ActorRecord}
use Rattle.office_types.specs.declared.office.Letter.{Letter}
use Rattle.office_types.specs.declared.office.OfficeState.{OfficeState}
use Rattle.office_types.specs.Mailboxes.{with_mail}
use Rattle.office_types.specs.Records.{is_active}
use Rattle.actor_tree.specs.Noted.{AreRecordsNoted, Face, Noted, all_faces, face_of, faces_of, is_gone_too, letters_at, made_faces, next_of, taken_by, without_record}
use Rattle.actor_tree.proofs.FaceLemmas.{actors_rise, all_made, face_number, made_face, made_push, none_later, record_number, seen_left}
use Rattle.actor_tree.proofs.NoteListLemmas.{change_at, each_filter, each_map, each_mono, each_push, filter_filter, filter_joined, filter_map_after, filter_same, look, look_at, look_beside, look_filter, look_join, look_through}

pub all_same : (before : OfficeState) (actor : ℕ) (notes other : Noted) → other.machines ≡ notes.machines → all_faces before actor other ≡ all_faces before actor notes
all_same before actor notes other same = ap (λ (machines : List Bool). faces_of before.actors ++ made_faces actor before.next_actor machines) same

-- ---- one less

module _ (before : OfficeState) (actor : ℕ) (notes other : Noted) (n : ℕ) (actors : List ActorRecord) (is : AreRecordsNoted before actor notes actors)
    (machines : other.machines ≡ notes.machines) (sent : (m : ℕ) → other.sent m ≡ notes.sent m) (gone : (m : ℕ) → other.gone m ≡ is_gone_too notes.gone n m) where
  left : (m : ℕ) → other.gone m ≡ false → (notes.gone m ≡ false) × (m ≢ n)
  left m e = by_tests (nat_eq m n) (notes.gone m) refl refl (sym (gone m) ∙ e) where
    by_tests : (b c : Bool) → nat_eq m n ≡ b → notes.gone m ≡ c → (b || c) ≡ false → (notes.gone m ≡ false) × (m ≢ n)
    by_tests true c here there none = absurd (true≢false none)
    by_tests false c here there none = (there ∙ none, λ same. true≢false (sym (eq-eqb m n same) ∙ here))

  both : (face : Face) → (not (notes.gone face.number) && not (nat_eq face.number n)) ≡ not (other.gone face.number)
  both face = by_tests (notes.gone face.number) (nat_eq face.number n) ∙ ap not (sym (gone face.number)) where
    by_tests : (a b : Bool) → (not a && not b) ≡ not (b || a)
    by_tests true true = refl
    by_tests true false = refl
    by_tests false true = refl
    by_tests false false = refl

  pub records_dropped : AreRecordsNoted before actor other (without_record n actors)
  records_dropped = record {
    rise = is.rise;
    given = is.given;
    begun = is.begun;
    faces =
        sym (filter_map_after face_of (λ (face : Face). not (nat_eq face.number n)) actors)
        ∙ ap (filter (λ (face : Face). not (nat_eq face.number n))) is.faces
        ∙ filter_filter (λ (face : Face). not (nat_eq face.number n)) (λ (face : Face). not (notes.gone face.number)) (all_faces before actor notes)
        ∙ filter_same (λ (face : Face). not (notes.gone face.number) && not (nat_eq face.number n)) (λ (face : Face). not (other.gone face.number)) (all_faces before actor notes) both
        ∙ ap (filter (λ (face : Face). not (other.gone face.number))) (sym (all_same before actor notes other machines));
    quiet = each_filter (λ (a : ActorRecord). is_active a ≡ false → a.mailbox ≡ []) (λ (a : ActorRecord). not (nat_eq a.number n)) actors is.quiet;
    letters = λ m e. (
        let still = left m e in
        let seen : look record_number (without_record n actors) m ≡ look record_number actors m =
        look_filter record_number (λ (k : ℕ). not (nat_eq k n)) actors m ∙ ap (λ (b : Bool). if not b then look record_number actors m else None) (ne_eqb m n still.1) in
        ap (λ (o : Option ActorRecord). option_map_or (λ (a : ActorRecord). length a.mailbox) o 0 + taken_by actor m) seen
        ∙ is.letters m still.0 ∙ ap (λ (k : ℕ). letters_at before.actors m + k) (sym (sent m)));
  }

-- ---- one changed

module _ (before : OfficeState) (actor : ℕ) (notes other : Noted) (n : ℕ) (change : ActorRecord → ActorRecord) (actors : List ActorRecord) (is : AreRecordsNoted before actor notes actors)
    (machines : other.machines ≡ notes.machines) (gone : (m : ℕ) → other.gone m ≡ notes.gone m) (number : (a : ActorRecord) → (change a).number ≡ a.number) where
  same_faces : (xs : List ActorRecord) → AllByRecursion (λ (a : ActorRecord). a.number ≡ n → face_of (change a) ≡ face_of a) xs → faces_of (map (change_at record_number n change) xs) ≡ faces_of xs
  same_faces [] same = refl
  same_faces (a ∷ xs) same = by_test (same_faces xs same.1) (nat_eq a.number n) refl where
    by_test : faces_of (map (change_at record_number n change) xs) ≡ faces_of xs → (b : Bool) → nat_eq a.number n ≡ b → face_of (if b then change a else a) ∷ faces_of (map (change_at record_number n change) xs) ≡ face_of a ∷ faces_of xs
    by_test rest true e = ap (λ (face : Face). face ∷ faces_of (map (change_at record_number n change) xs)) (same.0 (eqb-true a.number n e)) ∙ ap (λ (faces : List Face). face_of a ∷ faces) rest
    by_test rest false e = ap (λ (faces : List Face). face_of a ∷ faces) rest

  pub records_changed : AllByRecursion (λ (a : ActorRecord). a.number ≡ n → face_of (change a) ≡ face_of a) actors
      → AllByRecursion (λ (a : ActorRecord). is_active a ≡ false → a.mailbox ≡ []) (map (change_at record_number n change) actors)
      → ((m : ℕ) → notes.gone m ≡ false → m ≢ n → other.sent m ≡ notes.sent m)
      → (notes.gone n ≡ false → option_map_or (λ (a : ActorRecord). length (change a).mailbox) (look record_number actors n) 0 + notes.sent n ≡ letters_at actors n + other.sent n)
      → AreRecordsNoted before actor other (map (change_at record_number n change) actors)
  records_changed faces quiet sent here = record {
    rise = is.rise;
    given = is.given;
    begun = is.begun;
    faces =
        same_faces actors faces ∙ is.faces
        ∙ filter_same (λ (face : Face). not (notes.gone face.number)) (λ (face : Face). not (other.gone face.number)) (all_faces before actor notes) (λ face. ap not (sym (gone face.number)))
        ∙ ap (filter (λ (face : Face). not (other.gone face.number))) (sym (all_same before actor notes other machines));
    quiet = quiet;
    letters = λ m e. (
        let left : notes.gone m ≡ false = sym (gone m) ∙ e in
        elim (cases_eq m n) [
          | inl same ↦ subst (λ (k : ℕ). letters_at (map (change_at record_number n change) actors) k + taken_by actor k ≡ letters_at before.actors k + other.sent k) (sym same)
              (at_it (subst (λ (k : ℕ). notes.gone k ≡ false) same left))
          | inr differs ↦
              ap (λ (o : Option ActorRecord). option_map_or (λ (a : ActorRecord). length a.mailbox) o 0 + taken_by actor m) (look_beside record_number n m change number actors differs)
              ∙ is.letters m left ∙ ap (λ (k : ℕ). letters_at before.actors m + k) (sym (sent m left differs))
        ]);
  } where
    read : (o : Option ActorRecord) → option_map_or (λ (a : ActorRecord). length a.mailbox) (option_map change o) 0 ≡ option_map_or (λ (a : ActorRecord). length (change a).mailbox) o 0
    read None = refl
    read (Some a) = refl

    at_it : notes.gone n ≡ false → letters_at (map (change_at record_number n change) actors) n + taken_by actor n ≡ letters_at before.actors n + other.sent n
    at_it left =
        let seen : letters_at (map (change_at record_number n change) actors) n ≡ option_map_or (λ (a : ActorRecord). length (change a).mailbox) (look record_number actors n) 0 =
        ap (λ (o : Option ActorRecord). option_map_or (λ (a : ActorRecord). length a.mailbox) o 0) (look_at record_number n change number actors) ∙ read (look record_number actors n) in
        let was = is.letters n left in
        let now = here left in
        omega (arith, seen, was, now)

-- where each letter goes to an active actor, who isn't active has none
pub quiet_kept : (n : ℕ) (change : ActorRecord → ActorRecord) (actors : List ActorRecord) → AllByRecursion (λ (a : ActorRecord). is_active a ≡ false → a.mailbox ≡ []) actors
    → AllByRecursion (λ (a : ActorRecord). a.number ≡ n → (is_active a ≡ false → a.mailbox ≡ []) → is_active (change a) ≡ false → (change a).mailbox ≡ []) actors
    → AllByRecursion (λ (a : ActorRecord). is_active a ≡ false → a.mailbox ≡ []) (map (change_at record_number n change) actors)
quiet_kept n change [] quiet at = tt
quiet_kept n change (a ∷ actors) quiet at = (by_test (nat_eq a.number n) refl, quiet_kept n change actors quiet.1 at.1) where
  by_test : (b : Bool) → nat_eq a.number n ≡ b → is_active (if b then change a else a) ≡ false → (if b then change a else a).mailbox ≡ []
  by_test true e = at.0 (eqb-true a.number n e) quiet.0
  by_test false e = quiet.0

-- ---- one made

none_at : (o : Option ActorRecord) → option_map face_of o ≡ None → o ≡ None
none_at None none = refl
none_at (Some a) none = absurd (cc)

end_of : (machines : List Bool) → slice_get machines (length machines) ≡ None
end_of [] = refl
end_of (machine ∷ machines) = end_of machines

-- nobody has the next number, now or before
pub seen_next : (before : OfficeState) (actor : ℕ) (notes : Noted) (actors : List ActorRecord) → AreRecordsNoted before actor notes actors → notes.gone (next_of before notes) ≡ false → look record_number actors (next_of before notes) ≡ None
seen_next before actor notes actors is unused =
    none_at (look record_number actors (next_of before notes))
    (seen_left before actor notes actors is (next_of before notes) unused ∙ all_made before actor notes is.rise is.given (next_of before notes) (omega arith)
    ∙ ap (option_map (made_face actor (next_of before notes))) (past_end (next_of before notes - before.next_actor) (omega arith)))
  where
    past_end : (k : ℕ) → k ≡ length notes.machines → slice_get notes.machines k ≡ None
    past_end k e = ap (slice_get notes.machines) e ∙ end_of notes.machines

pub before_next : (before : OfficeState) (actor : ℕ) (notes : Noted) {actors : List ActorRecord} → AreRecordsNoted before actor notes actors → look record_number before.actors (next_of before notes) ≡ None
before_next before actor notes is =
    none_at (look record_number before.actors (next_of before notes))
    (sym (look_through record_number face_number face_of (λ x. refl) before.actors (next_of before notes)) ∙ none_later before actor notes is.rise is.given (next_of before notes) (omega arith))

module _ (before : OfficeState) (actor : ℕ) (notes other : Noted) (fresh : ActorRecord) (actors : List ActorRecord) (is : AreRecordsNoted before actor notes actors)
    (machines : other.machines ≡ notes.machines ++ is_some fresh.own ∷ []) (gone : (m : ℕ) → other.gone m ≡ notes.gone m) (unused : notes.gone (next_of before notes) ≡ false)
    (number : fresh.number ≡ next_of before notes) (parent : fresh.parent ≡ Some actor) (active : is_active fresh ≡ true) (later : actor < next_of before notes)
    (sent : (m : ℕ) → m ≢ next_of before notes → other.sent m ≡ notes.sent m) (sent_first : other.sent (next_of before notes) ≡ notes.sent (next_of before notes) + length fresh.mailbox) where
  its_face : face_of fresh ≡ made_face actor (next_of before notes) (is_some fresh.own)
  its_face =
      ap (λ (k : ℕ). record { number = k; parent = fresh.parent; active = is_active fresh; machine = is_some fresh.own }) number
      ∙ ap (λ (o : Option ℕ). record { number = next_of before notes; parent = o; active = is_active fresh; machine = is_some fresh.own }) parent
      ∙ ap (λ (b : Bool). record { number = next_of before notes; parent = Some actor; active = b; machine = is_some fresh.own }) active

  pub all_push : all_faces before actor other ≡ all_faces before actor notes ++ face_of fresh ∷ []
  all_push =
      ap (λ (ms : List Bool). faces_of before.actors ++ made_faces actor before.next_actor ms) machines
      ∙ ap (λ (faces : List Face). faces_of before.actors ++ faces) (made_push actor before.next_actor notes.machines (is_some fresh.own))
      ∙ joined (faces_of before.actors)
      ∙ ap (λ (face : Face). all_faces before actor notes ++ face ∷ []) (sym its_face) where
        joined : (xs : List Face) → xs ++ (made_faces actor before.next_actor notes.machines ++ made_face actor (next_of before notes) (is_some fresh.own) ∷ [])
            ≡ (xs ++ made_faces actor before.next_actor notes.machines) ++ made_face actor (next_of before notes) (is_some fresh.own) ∷ []
        joined [] = refl
        joined (x ∷ xs) = ap (λ (faces : List Face). x ∷ faces) (joined xs)

  at_next : look record_number actors (next_of before notes) ≡ None
  at_next = seen_next before actor notes actors is unused

  earlier_next : look record_number before.actors (next_of before notes) ≡ None
  earlier_next = before_next before actor notes is

  at_its_number : look record_number (fresh ∷ []) (next_of before notes) ≡ Some fresh
  at_its_number = ap (λ (b : Bool). cond b (Some fresh) None) (eq-eqb fresh.number (next_of before notes) number)

  elsewhere : (m : ℕ) → m ≢ next_of before notes → look record_number (actors ++ fresh ∷ []) m ≡ look record_number actors m
  elsewhere m other =
      look_join record_number actors (fresh ∷ []) m
      ∙ ap (λ (b : Bool). option_or (look record_number actors m) (cond b (Some fresh) None)) (ne_eqb fresh.number m (λ e. other (sym e ∙ number))) ∙ or_none (look record_number actors m) where
        or_none : (o : Option ActorRecord) → option_or o None ≡ o
        or_none None = refl
        or_none (Some x) = refl

  pub records_made : AreRecordsNoted before actor other (actors ++ fresh ∷ [])
  records_made = record {
    rise = is.rise;
    given = is.given;
    begun = is.begun;
    faces =
        map-append face_of actors (fresh ∷ [])
        ∙ ap (λ (faces : List Face). faces ++ face_of fresh ∷ []) is.faces
        ∙ ap (λ (faces : List Face). filter (λ (face : Face). not (notes.gone face.number)) (all_faces before actor notes) ++ faces)
        (sym (ap (λ (b : Bool). cond (not b) (face_of fresh ∷ []) []) (ap notes.gone number ∙ unused)))
        ∙ sym (filter_joined (λ (face : Face). not (notes.gone face.number)) (all_faces before actor notes) (face_of fresh ∷ []))
        ∙ ap (filter (λ (face : Face). not (notes.gone face.number))) (sym all_push)
        ∙ filter_same (λ (face : Face). not (notes.gone face.number)) (λ (face : Face). not (other.gone face.number)) (all_faces before actor other) (λ face. ap not (sym (gone face.number)));
    quiet = each_push (λ (a : ActorRecord). is_active a ≡ false → a.mailbox ≡ []) actors fresh is.quiet (λ ended. absurd (true≢false (sym active ∙ ended)));
    letters = λ m e. (
        let left : notes.gone m ≡ false = sym (gone m) ∙ e in
        elim (cases_eq m (next_of before notes)) [
          | inl same ↦ subst (λ (k : ℕ). letters_at (actors ++ fresh ∷ []) k + taken_by actor k ≡ letters_at before.actors k + other.sent k) (sym same) here
          | inr differs ↦
              ap (λ (o : Option ActorRecord). option_map_or (λ (a : ActorRecord). length a.mailbox) o 0 + taken_by actor m) (elsewhere m differs)
              ∙ is.letters m left ∙ ap (λ (k : ℕ). letters_at before.actors m + k) (sym (sent m differs))
        ]);
  } where
    here : letters_at (actors ++ fresh ∷ []) (next_of before notes) + taken_by actor (next_of before notes) ≡ letters_at before.actors (next_of before notes) + other.sent (next_of before notes)
    here =
        let next : ℕ = next_of before notes in
        let now : letters_at actors next ≡ 0 = ap (λ (o : Option ActorRecord). option_map_or (λ (a : ActorRecord). length a.mailbox) o 0) at_next in
        let earlier : letters_at before.actors next ≡ 0 = ap (λ (o : Option ActorRecord). option_map_or (λ (a : ActorRecord). length a.mailbox) o 0) earlier_next in
        let taken : taken_by actor next ≡ 0 = ap {B = ℕ} (λ (b : Bool). if b then 1 else 0) (ne_eqb next actor (λ e. omega arith)) in
        let found : look record_number (actors ++ fresh ∷ []) next ≡ Some fresh =
        look_join record_number actors (fresh ∷ []) next ∙ ap (λ (o : Option ActorRecord). option_or o (look record_number (fresh ∷ []) next)) at_next ∙ at_its_number in
        let after : letters_at (actors ++ fresh ∷ []) next ≡ length fresh.mailbox = ap (λ (o : Option ActorRecord). option_map_or (λ (a : ActorRecord). length a.mailbox) o 0) found in
        let was = is.letters next unused in
        omega (arith, now, earlier, taken, after, was, sent_first)
