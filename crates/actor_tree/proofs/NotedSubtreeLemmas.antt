-- Which actors stand below one, by the notes of a step.
use Rattle.std.proofs.Common.{◌≡◌, ◌≢◌, ◌⊎◌, inl, inr, ℕ, suc, ◌+◌, ◌<◌, ◌≤◌, Bool, true, false, cond, ◌&&◌, ◌||◌, not, true≢false, List, [], ◌∷◌, ◌++◌, length, map, refl, sym, ap, subst, ◌∙◌, arith}
use Rattle.std.specs.Prelude.{Option, None, Some, filter, fold, nat_eq, if◌then◌else◌}
use Rattle.std.specs.List.{AllByRecursion, list_any}
use Rattle.std.specs.Option.{option_map_or}
use Rattle.std.proofs.lemmas.Bool.{cases_Bool, eqb-true, eq-eqb, ne_eqb}
use Rattle.std.proofs.lemmas.List.{append-nil}
use Rattle.office_types.specs.declared.office.ActorRecord.{ActorRecord}
use Rattle.office_types.specs.declared.office.OfficeState.{OfficeState}
use Rattle.office_types.specs.Ends.{has_parent_among, is_among, subtree_of}
use Rattle.actor_tree.specs.Noted.{Face, Noted, all_faces, faces_of, made_faces}
use Rattle.actor_tree.proofs.FaceLemmas.{face_number, made_face}
use Rattle.actor_tree.proofs.NoteListLemmas.{Rises, each_mono, filter_joined}

-- the actor's parent is among these
abbrev pub has_parent_in : List ℕ → Face → Bool
has_parent_in found face = option_map_or (is_among found) face.parent false

abbrev pub add_face : List ℕ → Face → List ℕ
add_face found face = if has_parent_in found face then found ++ face.number ∷ [] else found

-- those found, and all below them
abbrev pub below : List Face → List ℕ → List ℕ
below faces found = fold add_face found faces

by_faces : (actors : List ActorRecord) (found : List ℕ)
    → fold (λ (found : List ℕ) (actor : ActorRecord). if has_parent_among found actor then found ++ actor.number ∷ [] else found) found actors ≡ below (faces_of actors) found
by_faces [] found = refl
by_faces (actor ∷ actors) found = by_faces actors (if has_parent_among found actor then found ++ actor.number ∷ [] else found)

pub subtree_is : (state : OfficeState) (n : ℕ) → subtree_of state n ≡ below (faces_of state.actors) (n ∷ [])
unfolding subtree_of
subtree_is state n = by_faces state.actors (n ∷ [])

-- ---- who is among those found

pub among_join : (xs ys : List ℕ) (n : ℕ) → is_among (xs ++ ys) n ≡ (is_among xs n || is_among ys n)
among_join [] ys n = refl
among_join (x ∷ xs) ys n = by_test (among_join xs ys n) (nat_eq n x) where
  by_test : is_among (xs ++ ys) n ≡ (is_among xs n || is_among ys n) → (b : Bool) → (b || is_among (xs ++ ys) n) ≡ ((b || is_among xs n) || is_among ys n)
  by_test rest true = refl
  by_test rest false = rest

pub among_itself : (c : ℕ) → is_among (c ∷ []) c ≡ true
among_itself c = ap (λ (b : Bool). b || false) (eq-eqb c c refl)

pub among_one : (c n : ℕ) → is_among (c ∷ []) n ≡ true → n ≡ c
among_one c n is = by_test (nat_eq n c) refl is where
  by_test : (b : Bool) → nat_eq n c ≡ b → (b || false) ≡ true → n ≡ c
  by_test true e is = eqb-true n c e
  by_test false e is = absurd (true≢false (sym is))

pub among_filter : (keep : ℕ → Bool) (xs : List ℕ) (n : ℕ) → is_among (filter keep xs) n ≡ (is_among xs n && keep n)
among_filter keep [] n = refl
among_filter keep (x ∷ xs) n = by_test (among_filter keep xs n) (nat_eq n x) refl where
  kept : is_among (filter keep xs) n ≡ (is_among xs n && keep n) → (b : Bool) → keep n ≡ b → nat_eq n x ≡ true → is_among (cond b (x ∷ filter keep xs) (filter keep xs)) n ≡ b
  kept rest true is same = ap (λ (b : Bool). b || is_among (filter keep xs) n) same
  kept rest false is same = rest ∙ ap (λ (b : Bool). is_among xs n && b) is ∙ never (is_among xs n) where
    never : (b : Bool) → (b && false) ≡ false
    never true = refl
    never false = refl

  other : is_among (filter keep xs) n ≡ (is_among xs n && keep n) → (b : Bool) → nat_eq n x ≡ false → is_among (cond b (x ∷ filter keep xs) (filter keep xs)) n ≡ (is_among xs n && keep n)
  other rest true differs = ap (λ (b : Bool). b || is_among (filter keep xs) n) differs ∙ rest
  other rest false differs = rest

  by_test : is_among (filter keep xs) n ≡ (is_among xs n && keep n) → (b : Bool) → nat_eq n x ≡ b → is_among (cond (keep x) (x ∷ filter keep xs) (filter keep xs)) n ≡ ((b || is_among xs n) && keep n)
  by_test rest true is = ap (λ (m : ℕ). is_among (cond (keep m) (x ∷ filter keep xs) (filter keep xs)) n) (sym (eqb-true n x is)) ∙ kept rest (keep n) refl is
  by_test rest false is = other rest (keep x) is

among_add : (found : List ℕ) (face : Face) (n : ℕ) → is_among found n ≡ true → is_among (add_face found face) n ≡ true
among_add found face n is = by_test (has_parent_in found face) where
  by_test : (b : Bool) → is_among (if b then found ++ face.number ∷ [] else found) n ≡ true
  by_test true = among_join found (face.number ∷ []) n ∙ ap (λ (b : Bool). b || is_among (face.number ∷ []) n) is
  by_test false = is

pub below_found : (faces : List Face) (found : List ℕ) (n : ℕ) → is_among found n ≡ true → is_among (below faces found) n ≡ true
below_found [] found n is = is
below_found (face ∷ faces) found n is = below_found faces (add_face found face) n (among_add found face n is)

pub added : (found : List ℕ) (face : Face) (n : ℕ) → is_among (add_face found face) n ≡ true → (is_among found n ≡ true) ⊎ ((n ≡ face.number) × (has_parent_in found face ≡ true))
added found face n is = by_test (has_parent_in found face) refl is where
  by_part : (b : Bool) → is_among found n ≡ b → (b || is_among (face.number ∷ []) n) ≡ true → has_parent_in found face ≡ true → (is_among found n ≡ true) ⊎ ((n ≡ face.number) × (has_parent_in found face ≡ true))
  by_part true e is child = inl e
  by_part false e is child = inr (among_one face.number n is, child)

  by_test : (b : Bool) → has_parent_in found face ≡ b → is_among (if b then found ++ face.number ∷ [] else found) n ≡ true → (is_among found n ≡ true) ⊎ ((n ≡ face.number) × (has_parent_in found face ≡ true))
  by_test true child is = by_part (is_among found n) refl (sym (among_join found (face.number ∷ []) n) ∙ is) child
  by_test false child is = inl is

pub its_parent : (found : List ℕ) (face : Face) → has_parent_in found face ≡ true → (p : ℕ) × (face.parent ≡ Some p) × (is_among found p ≡ true)
its_parent found face is = by_parent face.parent refl is where
  by_parent : (o : Option ℕ) → face.parent ≡ o → option_map_or (is_among found) o false ≡ true → (p : ℕ) × (face.parent ≡ Some p) × (is_among found p ≡ true)
  by_parent None e is = absurd (true≢false (sym is))
  by_parent (Some p) e is = (p, e, is)

-- an actor's parent has a smaller number
abbrev pub IsNewer : Face → Type 0
IsNewer face = (p : ℕ) → face.parent ≡ Some p → p < face.number

-- all that stand below have numbers from the least one on
pub below_from : (faces : List Face) (found : List ℕ) (least : ℕ) → AllByRecursion IsNewer faces → ((n : ℕ) → is_among found n ≡ true → least ≤ n) → (n : ℕ) → is_among (below faces found) n ≡ true → least ≤ n
below_from [] found least newer from n is = from n is
below_from (face ∷ faces) found least newer from n is =
    below_from faces (add_face found face) least newer.1 (λ m is. elim (added found face m is) [
      | inl before ↦ from m before
      | inr here ↦ (
          let up = its_parent found face here.1 in
          let less : up.0 < face.number = newer.0 up.0 up.1 in
          let low : least ≤ up.0 = from up.0 up.2 in
          let same : m ≡ face.number = here.0 in
          omega arith)
    ]) n is

-- ---- those that are left

module _ (gone : ℕ → Bool) (root : ℕ) where
  -- the root, and who isn't gone
  abbrev pub stays : ℕ → Bool
  stays n = nat_eq n root || not (gone n)

  -- whose parent is gone is so too
  abbrev pub IsBelowGone : Face → Type 0
  IsBelowGone face = (p : ℕ) → face.parent ≡ Some p → gone p ≡ true → gone face.number ≡ true

  left_stays : (n : ℕ) → gone n ≡ false → stays n ≡ true
  left_stays n left = ap (λ (b : Bool). nat_eq n root || not b) left ∙ either (nat_eq n root) where
    either : (b : Bool) → (b || true) ≡ true
    either true = refl
    either false = refl

  one_kept : (n : ℕ) → stays n ≡ true → filter stays (n ∷ []) ≡ n ∷ []
  one_kept n is = ap (λ (b : Bool). cond b (n ∷ []) []) is

  one_dropped : (n : ℕ) → stays n ≡ false → filter stays (n ∷ []) ≡ []
  one_dropped n is = ap (λ (b : Bool). cond b (n ∷ []) []) is

  same_parent : (found : List ℕ) (face : Face) → IsBelowGone face → gone face.number ≡ false → has_parent_in (filter stays found) face ≡ has_parent_in found face
  same_parent found face closed left = by_parent face.parent refl where
    parent_left : (p : ℕ) → face.parent ≡ Some p → gone p ≡ false
    parent_left p e = elim (cases_Bool (gone p)) [ inl is ↦ absurd (true≢false (sym (closed p e is) ∙ left)) | inr is ↦ is ]

    always : (b : Bool) → (b && true) ≡ b
    always true = refl
    always false = refl

    by_parent : (o : Option ℕ) → face.parent ≡ o → option_map_or (is_among (filter stays found)) o false ≡ option_map_or (is_among found) o false
    by_parent None e = refl
    by_parent (Some p) e = among_filter stays found p ∙ ap (λ (b : Bool). is_among found p && b) (left_stays p (parent_left p e)) ∙ always (is_among found p)

  pub below_left : (faces : List Face) (found : List ℕ) → AllByRecursion IsNewer faces → AllByRecursion IsBelowGone faces → ((n : ℕ) → is_among found n ≡ true → root ≤ n)
      → below (filter (λ (face : Face). not (gone face.number)) faces) (filter stays found) ≡ filter stays (below faces found)
  below_left [] found newer closed from = refl
  below_left (face ∷ faces) found newer closed from = by_gone (below_left faces (add_face found face) newer.1 closed.1 from_next) (gone face.number) refl where
    from_next : (n : ℕ) → is_among (add_face found face) n ≡ true → root ≤ n
    from_next n is = below_from (face ∷ []) found root (newer.0, tt) from n is

    dropped : gone face.number ≡ true → (b : Bool) → has_parent_in found face ≡ b → filter stays (if b then found ++ face.number ∷ [] else found) ≡ filter stays found
    dropped is true child =
        let up = its_parent found face child in
        let less : up.0 < face.number = newer.0 up.0 up.1 in
        let low : root ≤ up.0 = from up.0 up.2 in
        let out : stays face.number ≡ false = ap (λ (b : Bool). b || not (gone face.number)) (ne_eqb face.number root (λ e. omega arith)) ∙ ap not is in
        filter_joined stays found (face.number ∷ []) ∙ ap (λ (xs : List ℕ). filter stays found ++ xs) (one_dropped face.number out) ∙ append-nil (filter stays found)
    dropped is false child = refl

    kept : gone face.number ≡ false → (b : Bool) → filter stays (if b then found ++ face.number ∷ [] else found) ≡ (if b then filter stays found ++ face.number ∷ [] else filter stays found)
    kept is true = filter_joined stays found (face.number ∷ []) ∙ ap (λ (xs : List ℕ). filter stays found ++ xs) (one_kept face.number (left_stays face.number is))
    kept is false = refl

    by_gone : below (filter (λ (other : Face). not (gone other.number)) faces) (filter stays (add_face found face)) ≡ filter stays (below faces (add_face found face))
        → (b : Bool) → gone face.number ≡ b
        → below (cond (not b) (face ∷ filter (λ (other : Face). not (gone other.number)) faces) (filter (λ (other : Face). not (gone other.number)) faces)) (filter stays found) ≡ filter stays (below faces (add_face found face))
    by_gone rest true is = ap (below (filter (λ (other : Face). not (gone other.number)) faces)) (sym (dropped is (has_parent_in found face) refl)) ∙ rest
    by_gone rest false is =
        ap (λ (b : Bool). below (filter (λ (other : Face). not (gone other.number)) faces) (if b then filter stays found ++ face.number ∷ [] else filter stays found)) (same_parent found face closed.0 is)
        ∙ ap (below (filter (λ (other : Face). not (gone other.number)) faces)) (sym (kept is (has_parent_in found face))) ∙ rest

-- ---- those that were made

-- who was made stands below its parent
pub below_made : (parent first : ℕ) (machines : List Bool) (found : List ℕ) → below (made_faces parent first machines) found ≡ (if is_among found parent then found ++ map face_number (made_faces parent first machines) else found)
below_made parent first [] found = by_test (is_among found parent) where
  by_test : (b : Bool) → found ≡ (if b then found ++ [] else found)
  by_test true = sym (append-nil found)
  by_test false = refl
below_made parent first (machine ∷ machines) found = by_test (below_made parent (first + 1) machines) (is_among found parent) refl where
  joined : (xs : List ℕ) → (xs ++ first ∷ []) ++ map face_number (made_faces parent (first + 1) machines) ≡ xs ++ first ∷ map face_number (made_faces parent (first + 1) machines)
  joined [] = refl
  joined (x ∷ xs) = ap (λ (ys : List ℕ). x ∷ ys) (joined xs)

  by_test : ((xs : List ℕ) → below (made_faces parent (first + 1) machines) xs ≡ (if is_among xs parent then xs ++ map face_number (made_faces parent (first + 1) machines) else xs))
      → (b : Bool) → is_among found parent ≡ b
      → below (made_faces parent (first + 1) machines) (if b then found ++ first ∷ [] else found) ≡ (if b then found ++ first ∷ map face_number (made_faces parent (first + 1) machines) else found)
  by_test rest true is =
      rest (found ++ first ∷ [])
      ∙ ap (λ (b : Bool). if b then (found ++ first ∷ []) ++ map face_number (made_faces parent (first + 1) machines) else found ++ first ∷ [])
      (among_join found (first ∷ []) parent ∙ ap (λ (b : Bool). b || is_among (first ∷ []) parent) is)
      ∙ joined found
  by_test rest false is = rest found ∙ ap (λ (b : Bool). if b then found ++ map face_number (made_faces parent (first + 1) machines) else found) is

pub below_join : (xs ys : List Face) (found : List ℕ) → below (xs ++ ys) found ≡ below ys (below xs found)
below_join [] ys found = refl
below_join (x ∷ xs) ys found = below_join xs ys (add_face found x)

-- ---- the subtree of an actor in the office by now

module _ (before office : OfficeState) (actor : ℕ) (notes : Noted)
    (faces : faces_of office.actors ≡ filter (λ (face : Face). not (notes.gone face.number)) (all_faces before actor notes))
    (newer : AllByRecursion IsNewer (all_faces before actor notes)) (closed : AllByRecursion (IsBelowGone notes.gone 0) (all_faces before actor notes)) (newer_before : AllByRecursion IsNewer (faces_of before.actors)) where
  from_itself : (n m : ℕ) → is_among (n ∷ []) m ≡ true → n ≤ m
  from_itself n m is = let same : m ≡ n = among_one n m is in omega arith

  either : (n : ℕ) (b : Bool) (xs ys : List ℕ) → (if b then xs ++ ys else xs) ≡ xs ++ (if b then ys else [])
  either n true xs ys = refl
  either n false xs ys = sym (append-nil xs)

  pub subtree_noted : (n : ℕ) → subtree_of office n
      ≡ filter (stays notes.gone n) (subtree_of before n ++ (if is_among (subtree_of before n) actor then map face_number (made_faces actor before.next_actor notes.machines) else []))
  subtree_noted n =
      let whole : List ℕ = subtree_of before n in
      let itself : filter (stays notes.gone n) (n ∷ []) ≡ n ∷ [] = ap (λ (b : Bool). cond (b || not (notes.gone n)) (n ∷ []) []) (eq-eqb n n refl) in
      subtree_is office n ∙ ap (λ (fs : List Face). below fs (n ∷ [])) faces
      ∙ ap (below (filter (λ (face : Face). not (notes.gone face.number)) (all_faces before actor notes))) (sym itself)
      ∙ below_left notes.gone n (all_faces before actor notes) (n ∷ []) newer closed (from_itself n)
      ∙ ap (filter (stays notes.gone n))
      (below_join (faces_of before.actors) (made_faces actor before.next_actor notes.machines) (n ∷ [])
      ∙ ap (below (made_faces actor before.next_actor notes.machines)) (sym (subtree_is before n))
      ∙ below_made actor before.next_actor notes.machines whole
      ∙ either n (is_among whole actor) whole (map face_number (made_faces actor before.next_actor notes.machines)))

  pub among_from : (n m : ℕ) → is_among (subtree_of before n) m ≡ true → n ≤ m
  among_from n m is = below_from (faces_of before.actors) (n ∷ []) n newer_before (from_itself n) m (ap (λ (xs : List ℕ). is_among xs m) (sym (subtree_is before n)) ∙ is)

  -- below one that is newer than the step's actor
  pub subtree_later : (n : ℕ) → actor < n → subtree_of office n ≡ filter (stays notes.gone n) (subtree_of before n)
  subtree_later n later =
      subtree_noted n
      ∙ ap (λ (b : Bool). filter (stays notes.gone n) (subtree_of before n ++ (if b then map face_number (made_faces actor before.next_actor notes.machines) else []))) (outside (is_among (subtree_of before n) actor) refl)
      ∙ ap (filter (stays notes.gone n)) (append-nil (subtree_of before n)) where
        outside : (b : Bool) → is_among (subtree_of before n) actor ≡ b → b ≡ false
        outside true is = absurd (let low : n ≤ actor = among_from n actor is in omega arith)
        outside false is = refl

  -- below the step's actor
  pub subtree_own : subtree_of office actor ≡ filter (stays notes.gone actor) (subtree_of before actor ++ map face_number (made_faces actor before.next_actor notes.machines))
  subtree_own =
      subtree_noted actor
      ∙ ap (λ (b : Bool). filter (stays notes.gone actor) (subtree_of before actor ++ (if b then map face_number (made_faces actor before.next_actor notes.machines) else [])))
      (ap (λ (xs : List ℕ). is_among xs actor) (subtree_is before actor) ∙ below_found (faces_of before.actors) (actor ∷ []) actor (among_itself actor))

-- whoever has its parent below an actor stands below it
pub below_closed : (faces : List Face) (found : List ℕ) → Rises face_number faces → AllByRecursion IsNewer faces
    → AllByRecursion (λ (face : Face). (p : ℕ) → face.parent ≡ Some p → is_among (below faces found) p ≡ true → is_among (below faces found) face.number ≡ true) faces
below_closed [] found rising newer = tt
below_closed (face ∷ faces) found rising newer = (first, below_closed faces (add_face found face) rising.1 newer.1) where
  -- whoever is found below and isn't found yet has a later number
  later : (others : List Face) (so_far : List ℕ) (p : ℕ) → AllByRecursion (λ (other : Face). p < other.number) others → is_among (below others so_far) p ≡ true → is_among so_far p ≡ true
  later [] so_far p above is = is
  later (other ∷ others) so_far p above is = elim (added so_far other p (later others (add_face so_far other) p above.1 is)) [
    | inl before ↦ before
    | inr here ↦ absurd (let less = above.0 in let same : p ≡ other.number = here.0 in omega arith)
  ]

  first : (p : ℕ) → face.parent ≡ Some p → is_among (below faces (add_face found face)) p ≡ true → is_among (below faces (add_face found face)) face.number ≡ true
  first p e is =
      let less : p < face.number = newer.0 p e in
      let so_far : is_among (add_face found face) p ≡ true = later faces (add_face found face) p (each_mono (λ (other : Face). face.number < other.number) (λ (other : Face). p < other.number) faces (λ other more. omega arith) rising.0) is in
      below_found faces (add_face found face) face.number (elim (added found face p so_far) [
        | inl before ↦ (
            let child : has_parent_in found face ≡ true = ap (λ (o : Option ℕ). option_map_or (is_among found) o false) e ∙ before in
            ap (λ (b : Bool). is_among (if b then found ++ face.number ∷ [] else found) face.number) child ∙ among_join found (face.number ∷ []) face.number ∙ either (is_among found face.number) (among_itself face.number))
        | inr here ↦ absurd (let same : p ≡ face.number = here.0 in omega arith)
      ]) where
        either : (b : Bool) → is_among (face.number ∷ []) face.number ≡ true → (b || is_among (face.number ∷ []) face.number) ≡ true
        either true e = refl
        either false e = e
