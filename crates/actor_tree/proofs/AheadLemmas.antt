-- What is looked up in the office of a step so far.
use Rattle.std.proofs.Common.{◌≡◌, ◌≢◌, inl, inr, ℕ, suc, zero, ◌+◌, ◌-◌, ◌<◌, ◌≤◌, Bool, true, false, cond, ◌&&◌, ◌||◌, not, true≢false, List, [], ◌∷◌, ◌++◌, length, map, refl, sym, ap, subst, ◌∙◌, arith}
use Rattle.std.specs.Prelude.{Option, None, Some, IfSome, filter, find, is_some, nat_eq, unwrap_or, if◌then◌else◌}
use Rattle.std.specs.List.{AllByRecursion}
use Rattle.std.specs.Map.{lookup}
use Rattle.std.specs.Option.{option_and_then, option_map, option_map_or, option_or}
use Rattle.std.specs.Str.{bytes_eq}
use Rattle.office_types.specs.declared.office.ActorRecord.{ActorRecord}
use Rattle.office_types.specs.declared.office.OfficeState.{OfficeState}
use Rattle.office_types.specs.declared.outcome.Own.{Own}
use Rattle.office_types.specs.declared.outcome.To.{To}
use Rattle.office_types.specs.Effects.{child_named, is_within_levels}
use Rattle.office_types.specs.Ends.{child_id, subtree_of}
use Rattle.office_types.specs.Observation.{own_of}
use Rattle.office_types.specs.Receivers.{if_active_machine, named_by, receiver_of}
use Rattle.office_types.specs.Records.{actor_record, is_active, is_active_machine, parent_actor}
use Rattle.office_types.specs.SystemNames.{holder_of}
use Rattle.actor_tree.specs.declared.notes.Notes.{Notes}
use Rattle.actor_tree.specs.declared.part.Part.{Part}
use Rattle.actor_tree.specs.Noted.{Face, Kin, all_faces, face_of, faces_of, kin_of, made_faces, next_of, numbers_from, staying}
use Rattle.actor_tree.specs.Notes.{IsAhead, noted}
use Rattle.actor_tree.specs.Parts.{put}
use Rattle.actor_tree.proofs.FaceLemmas.{face_number, made_from, parent_before, record_number}
use Rattle.actor_tree.proofs.NoteListLemmas.{each_join, each_mono, filter_joined, look, look_number}
use Rattle.actor_tree.proofs.NotedLookLemmas.{active_before}
use Rattle.actor_tree.proofs.NotedNumberLemmas.{made_numbers}
use Rattle.actor_tree.proofs.NotedRecordLemmas.{seen_next}
use Rattle.actor_tree.proofs.NotedSubtreeLemmas.{IsNewer, subtree_later, subtree_own}
use Rattle.actor_tree.proofs.NotedValidLemmas.{chained, holder_left, ready_given, ready_parent, valid_kid, valid_kid_given, valid_names, valid_newer, valid_parent}
use Rattle.actor_tree.proofs.NotesLemmas.{actor_left, actor_there}

lookup_join : {X : Type 0} (name : List ℕ) (xs ys : List (List ℕ × X)) → lookup (bytes_eq name) (xs ++ ys) ≡ option_or (lookup (bytes_eq name) xs) (lookup (bytes_eq name) ys)
lookup_join name [] ys = refl
lookup_join {X} name (x ∷ xs) ys = by_test (lookup_join name xs ys) (bytes_eq name x.0) where
  by_test : lookup (bytes_eq name) (xs ++ ys) ≡ option_or (lookup (bytes_eq name) xs) (lookup (bytes_eq name) ys) → (b : Bool)
      → cond b (Some x.1) (lookup (bytes_eq name) (xs ++ ys)) ≡ option_or (cond b (Some x.1) (lookup (bytes_eq name) xs)) (lookup (bytes_eq name) ys)
  by_test rest true = refl
  by_test rest false = rest

made_newer : (actor first : ℕ) (machines : List Bool) → actor < first → AllByRecursion IsNewer (made_faces actor first machines)
made_newer actor first [] less = tt
made_newer actor first (machine ∷ machines) less = (λ p e. (let same : actor ≡ p = cc in omega arith), made_newer actor (first + 1) machines (omega arith))

module _ (before : OfficeState) (actor : ℕ) (parts : List Part) (notes : Notes) (is : IsAhead before actor parts notes) where
  given : actor < before.next_actor
  given = ready_given is.begins.valid.0 before is.begins.valid.1 actor is.begins.ready

  left : (n : ℕ) → n ≤ actor → (noted notes).gone n ≡ false
  left n low = actor_left before actor notes (put before parts) is.begins is.gone is.told n low

  parent_same : (n : ℕ) → n ≤ actor → parent_actor (put before parts) n ≡ parent_actor before n
  parent_same n low = parent_before before actor (noted notes) (put before parts).actors is.told.records n (left n low) (let g = given in omega arith)

  pub parent_is : parent_actor (put before parts) actor ≡ parent_actor before actor
  parent_is = parent_same actor (omega arith)

  pub parent_there : (o : Option ℕ) → parent_actor before actor ≡ o → IfSome o (λ n. option_map_or is_active (actor_record (put before parts) n) false ≡ true)
  parent_there None e = tt
  parent_there (Some p) e =
      let up = ready_parent is.begins.valid.0 before is.begins.valid.1 actor is.begins.ready p e in
      sym (active_before before actor (noted notes) (put before parts).actors is.told.records p (left p (omega (arith, up.0))) (let g = given in omega (arith, up.0))) ∙ up.1

  kin_same : (p : ℕ) → parent_actor before actor ≡ Some p → option_map kin_of (look record_number (put before parts).actors p) ≡ option_map kin_of (look record_number before.actors p)
  kin_same p e = is.told.kids.above p (ready_parent is.begins.valid.0 before is.begins.valid.1 actor is.begins.ready p e).0

  pub own_is : (p : ℕ) → parent_actor before actor ≡ Some p → own_of (put before parts) p ≡ own_of before p
  own_is p e = by_kin (look record_number (put before parts).actors p) ∙ ap (option_and_then (λ (kin : Kin). kin.own)) (kin_same p e) ∙ sym (by_kin (look record_number before.actors p)) where
    by_kin : (o : Option ActorRecord) → option_and_then (λ (a : ActorRecord). a.own) o ≡ option_and_then (λ (kin : Kin). kin.own) (option_map kin_of o)
    by_kin None = refl
    by_kin (Some a) = refl

  pub id_is : (p : ℕ) → parent_actor before actor ≡ Some p → child_id (put before parts) p actor ≡ child_id before p actor
  id_is p e = by_kin (look record_number (put before parts).actors p) ∙ ap id_in (kin_same p e) ∙ sym (by_kin (look record_number before.actors p)) where
    id_in : Option Kin → List ℕ
    id_in o = option_map_or (λ (kin : Kin). option_map_or (λ (kid : List ℕ × ℕ). kid.0) (find (λ (kid : List ℕ × ℕ). nat_eq kid.1 actor) kin.kids) []) o []

    by_kin : (o : Option ActorRecord) → option_map_or (λ (a : ActorRecord). option_map_or (λ (kid : List ℕ × ℕ). kid.0) (find (λ (kid : List ℕ × ℕ). nat_eq kid.1 actor) a.kids) []) o [] ≡ id_in (option_map kin_of o)
    by_kin None = refl
    by_kin (Some a) = refl

  pub next_free : actor_record (put before parts) (put before parts).next_actor ≡ None
  next_free = ap (actor_record (put before parts)) is.told.next ∙ seen_next before actor (noted notes) (put before parts).actors is.told.records (by_test ((noted notes).gone (next_of before (noted notes))) refl) where
    by_test : (b : Bool) → (noted notes).gone (next_of before (noted notes)) ≡ b → b ≡ false
    by_test true e = absurd (let less = (is.gone.after (next_of before (noted notes)) e).1 in omega arith)
    by_test false e = refl

  pub levels_same : (levels n : ℕ) → n ≤ actor → is_within_levels (put before parts) levels n ≡ is_within_levels before levels n
  unfolding is_within_levels
  levels_same zero n low = refl
  levels_same (suc levels) n low =
      ap (λ (o : Option ℕ). option_map_or (is_within_levels (put before parts) levels) o true) (parent_same n low) ∙ by_parent (levels_same levels) (parent_actor before n) refl where
        by_parent : ((m : ℕ) → m ≤ actor → is_within_levels (put before parts) levels m ≡ is_within_levels before levels m) → (o : Option ℕ) → parent_actor before n ≡ o
            → option_map_or (is_within_levels (put before parts) levels) o true ≡ option_map_or (is_within_levels before levels) o true
        by_parent rest None e = refl
        by_parent rest (Some p) e =
            let up = chained (λ (a : ActorRecord). a.parent) (look record_number before.actors n) p e in
            let less = (valid_parent is.begins.valid.0 before is.begins.valid.1 n up.0 p up.1 up.2).smaller in
            let same : up.0.number ≡ n = look_number record_number before.actors n up.0 up.1 in
            rest p (omega arith)

  -- who holds a name
  pub holder_is : (name : List ℕ) → holder_of name (put before parts).names
      ≡ option_or (option_and_then (λ (n : ℕ). if not ((noted notes).gone n) then Some n else None) (holder_of name before.names)) (holder_of name notes.names.names)
  holder_is name =
      ap (lookup (bytes_eq name)) is.told.names.same
      ∙ lookup_join name (filter (λ (h : List ℕ × ℕ). not ((noted notes).gone h.1)) before.names) notes.names.names
      ∙ ap (λ (o : Option ℕ). option_or o (holder_of name notes.names.names)) (holder_left name (λ (n : ℕ). not ((noted notes).gone n)) before.names (valid_names is.begins.valid.0 before is.begins.valid.1))

  -- the child of an id is newer than the step's actor, and has a number that was given
  pub kid_given : (id : List ℕ) (n : ℕ) → child_named (put before parts) actor id ≡ Some n → (actor < n) × (n < next_of before (noted notes))
  kid_given id n named = by_note ((noted notes).kids id) refl (sym (is.told.kids.kids id) ∙ named) where
    by_note : (o : Option (Option ℕ)) → (noted notes).kids id ≡ o → unwrap_or o (child_named before actor id) ≡ Some n → (actor < n) × (n < next_of before (noted notes))
    by_note None e found = (valid_kid is.begins.valid.0 before is.begins.valid.1 actor id n found, (let less = valid_kid_given is.begins.valid.0 before is.begins.valid.1 actor id n found in omega arith))
    by_note (Some kid) e found = is.told.kids.after id n (e ∙ ap (λ (o : Option ℕ). Some o) found)

  pub all_newer : AllByRecursion IsNewer (all_faces before actor (noted notes))
  all_newer = each_join IsNewer (faces_of before.actors) (made_faces actor before.next_actor (noted notes).machines) (valid_newer is.begins.valid.0 before is.begins.valid.1) (made_newer actor before.next_actor (noted notes).machines given)

  -- where a send goes, by whom it names
  pub receiver_is : (target : To) (named : Option ℕ) → ((a : ActorRecord) → actor_record (put before parts) actor ≡ Some a → named ≡ named_by (put before parts) a target)
      → receiver_of (put before parts) actor target ≡ option_and_then (if_active_machine (put before parts)) named
  receiver_is target named is_named =
      let found = actor_there before actor notes (put before parts) is.begins is.gone is.told in
      ap (option_and_then (if_active_machine (put before parts)))
      (ap (option_and_then (λ (a : ActorRecord). named_by (put before parts) a target)) found.1 ∙ sym (is_named found.0 found.1))

-- the child that an id finds, if there is one, is newer
pub kid_later : (before : OfficeState) (actor : ℕ) (parts : List Part) (notes : Notes) (is : IsAhead before actor parts notes) (id : List ℕ) (o : Option ℕ) → child_named (put before parts) actor id ≡ o → IfSome o (λ n. actor < n)
kid_later before actor parts notes is id None e = tt
kid_later before actor parts notes is id (Some n) e = (kid_given before actor parts notes is id n e).0

-- ---- who stands below

module _ (before : OfficeState) (actor : ℕ) (parts : List Part) (notes : Notes) (is : IsAhead before actor parts notes) where
  pub below_later : (n : ℕ) → actor < n → staying (noted notes).gone n (subtree_of before n) ≡ subtree_of (put before parts) n
  below_later n later =
      sym (subtree_later before (put before parts) actor (noted notes) is.told.records.faces (all_newer before actor parts notes is) is.gone.below (valid_newer is.begins.valid.0 before is.begins.valid.1) n later)

  pub below_own : (next : ℕ) → next ≡ next_of before (noted notes)
      → staying (noted notes).gone actor (subtree_of before actor) ++ staying (noted notes).gone actor (numbers_from before.next_actor (next - before.next_actor)) ≡ subtree_of (put before parts) actor
  below_own next same =
      let count : next - before.next_actor ≡ length (noted notes).machines = omega (arith, same) in
      ap (λ (n : ℕ). staying (noted notes).gone actor (subtree_of before actor) ++ staying (noted notes).gone actor (numbers_from before.next_actor n)) count
      ∙ ap (λ (numbers : List ℕ). staying (noted notes).gone actor (subtree_of before actor) ++ staying (noted notes).gone actor numbers) (sym (made_numbers actor before.next_actor (noted notes).machines))
      ∙ sym (filter_joined (λ (n : ℕ). nat_eq n actor || not ((noted notes).gone n)) (subtree_of before actor) (map face_number (made_faces actor before.next_actor (noted notes).machines)))
      ∙ sym (subtree_own before (put before parts) actor (noted notes) is.told.records.faces (all_newer before actor parts notes is) is.gone.below (valid_newer is.begins.valid.0 before is.begins.valid.1))

-- an active machine actor is active
pub machine_active : (office : OfficeState) (n : ℕ) → is_active_machine office n ≡ true → option_map_or is_active (actor_record office n) false ≡ true
machine_active office n runs = by_record (actor_record office n) runs where
  both : (a b : Bool) → (a && b) ≡ true → a ≡ true
  both true b e = refl
  both false b e = e

  by_record : (o : Option ActorRecord) → option_map_or (λ (a : ActorRecord). is_active a && is_some a.own) o false ≡ true → option_map_or is_active o false ≡ true
  by_record None e = e
  by_record (Some a) e = both (is_active a) (is_some a.own) e
