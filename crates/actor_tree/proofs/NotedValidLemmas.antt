-- What a valid office tells a step of a ready actor.
use Rattle.std.proofs.Common.{◌≡◌, ◌≢◌, inl, inr, ℕ, suc, ◌+◌, ◌<◌, ◌≤◌, Bool, true, false, cond, ◌&&◌, ◌||◌, not, true≢false, List, [], ◌∷◌, length, map, refl, sym, ap, subst, ◌∙◌, arith}
use Rattle.std.specs.Prelude.{Option, None, Some, IfSome, IsTrue, AllPairs, filter, is_some, nat_eq, nat_lt, if◌then◌else◌, ⊤}
use Rattle.std.specs.List.{AllByRecursion, list_any}
use Rattle.std.specs.List.Sorted.{IsStrictlyIncreasing}
use Rattle.std.specs.Map.{lookup}
use Rattle.std.specs.Option.{option_and_then, option_map, option_map_or}
use Rattle.std.specs.Str.{bytes_eq}
use Rattle.std.proofs.lemmas.Bool.{cases_Bool, eqb-true, eq-eqb, ltb-true}
use Rattle.std.proofs.lemmas.List.Elements.{recursion_from_All}
use Rattle.std.proofs.lemmas.List.Kept.{AllPairs-from_increasing}
use Rattle.office_types.specs.declared.office.ActorRecord.{ActorRecord}
use Rattle.office_types.specs.declared.office.OfficeState.{OfficeState}
use Rattle.office_types.specs.declared.office.Timer.{Timer}
use Rattle.office_types.specs.Definitions.{OfficeDefinitions}
use Rattle.office_types.specs.Records.{is_active, is_ready, is_ready_actor, parent_actor}
use Rattle.office_types.specs.Timers.{has_id}
use Rattle.office_types.specs.ValidOffice.{AreOfOneId, HasParent, IsActor, IsChildOf, IsValidOffice}
use Rattle.actor_tree.specs.Noted.{Face, FacesRise, face_of, faces_of, kid_among}
use Rattle.actor_tree.proofs.FaceLemmas.{face_number, record_number}
use Rattle.actor_tree.proofs.NotedKidLemmas.{bytes_same, same_bytes}
use Rattle.actor_tree.proofs.NotedSubtreeLemmas.{IsNewer}
use Rattle.actor_tree.proofs.NoteListLemmas.{any_count, each_look, each_map, each_mono, look, look_number}

-- ---- each two items

-- each item is so related to each later one
abbrev pub EachPair : {X : Type 0} → (X → X → Type 0) → List X → Type 0
EachPair R [] = ⊤
EachPair R (x ∷ xs) = AllByRecursion (R x) xs × EachPair R xs

pub pairs_from : {X : Type 0} (R : X → X → Type 0) (xs : List X) → AllPairs R xs → EachPair R xs
pairs_from R [] all = tt
pairs_from R (x ∷ xs) all =
    (recursion_from_All (R x) xs (λ k d within. all 0 (suc k) d (omega arith) (omega arith)), pairs_from R xs (λ i j d before within. all (suc i) (suc j) d (omega arith) (omega arith)))

faces_rise : (actors : List ActorRecord) → EachPair (λ (m n : ℕ). m < n) (map record_number actors) → FacesRise (faces_of actors)
faces_rise [] pairs = tt
faces_rise (a ∷ actors) pairs = (later actors pairs.0, faces_rise actors pairs.1) where
  later : (others : List ActorRecord) → AllByRecursion (λ (n : ℕ). a.number < n) (map record_number others) → AllByRecursion (λ (other : Face). a.number < other.number) (faces_of others)
  later [] all = tt
  later (other ∷ others) all = (all.0, later others all.1)

at_some : {X : Type 0} (P : X → Type 0) (o : Option X) (x : X) → IfSome o P → o ≡ Some x → P x
at_some P None x is e = absurd (cc)
at_some P (Some y) x is e = let same : y ≡ x = cc in subst P same is

pub chained : {X Y : Type 0} (f : X → Option Y) (o : Option X) (y : Y) → option_and_then f o ≡ Some y → (x : X) × (o ≡ Some x) × (f x ≡ Some y)
chained f None y e = absurd (cc)
chained f (Some x) y e = (x, refl, e)

both_true : (a b : Bool) → (a && b) ≡ true → (a ≡ true) × (b ≡ true)
both_true true b is = (refl, is)
both_true false b is = absurd (true≢false (sym is))

-- ---- timers of one id

pub id_of : (owner : ℕ) (id : List ℕ) (timer : Timer) → has_id owner id timer ≡ true → (timer.owner ≡ owner) × (timer.id ≡ Some id)
id_of owner id timer is = let parts = both_true (nat_eq timer.owner owner) (option_map_or (bytes_eq id) timer.id false) is in (eqb-true timer.owner owner parts.0, by_id timer.id refl parts.1) where
  by_id : (o : Option (List ℕ)) → timer.id ≡ o → option_map_or (bytes_eq id) o false ≡ true → timer.id ≡ Some id
  by_id None e is = absurd (true≢false (sym is))
  by_id (Some own) e is = e ∙ ap (λ (i : List ℕ). Some i) (sym (same_bytes id own is))

counted_once : (owner : ℕ) (id : List ℕ) (timers : List Timer) → EachPair (λ a b. AreOfOneId a b → ⊥) timers → length (filter (has_id owner id) timers) ≡ (if list_any (has_id owner id) timers then 1 else 0)
counted_once owner id [] pairs = refl
counted_once owner id (timer ∷ timers) pairs = by_test (counted_once owner id timers pairs.1) (has_id owner id timer) refl where
  none : has_id owner id timer ≡ true → (others : List Timer) → AllByRecursion (λ (b : Timer). AreOfOneId timer b → ⊥) others → list_any (has_id owner id) others ≡ false
  none is [] all = refl
  none is (other ∷ others) all = by_other (none is others all.1) (has_id owner id other) refl where
    by_other : list_any (has_id owner id) others ≡ false → (b : Bool) → has_id owner id other ≡ b → (b || list_any (has_id owner id) others) ≡ false
    by_other rest true e =
        let one = id_of owner id timer is in
        let two = id_of owner id other e in
        absurd (all.0 (id, one.0 ∙ sym two.0, one.1, two.1))
    by_other rest false e = rest

  by_test : length (filter (has_id owner id) timers) ≡ (if list_any (has_id owner id) timers then 1 else 0) → (b : Bool) → has_id owner id timer ≡ b
      → length (cond b (timer ∷ filter (has_id owner id) timers) (filter (has_id owner id) timers)) ≡ (if b || list_any (has_id owner id) timers then 1 else 0)
  by_test rest true is = let zero : length (filter (has_id owner id) timers) ≡ 0 = any_count (has_id owner id) timers (none is timers pairs.0) in omega (arith, zero)
  by_test rest false is = rest

-- ---- names

-- who holds a name among those that are left
pub holder_left : (name : List ℕ) (keep : ℕ → Bool) (names : List (List ℕ × ℕ)) → EachPair (λ (a b : List ℕ × ℕ). a.0 ≢ b.0) names
    → lookup (bytes_eq name) (filter (λ (h : List ℕ × ℕ). keep h.1) names) ≡ option_and_then (λ (n : ℕ). if keep n then Some n else None) (lookup (bytes_eq name) names)
holder_left name keep [] pairs = refl
holder_left name keep (h ∷ names) pairs = by_tests (holder_left name keep names pairs.1) (keep h.1) refl (bytes_eq name h.0) refl where
  none : bytes_eq name h.0 ≡ true → (others : List (List ℕ × ℕ)) → AllByRecursion (λ (b : List ℕ × ℕ). h.0 ≢ b.0) others → lookup (bytes_eq name) others ≡ None
  none is [] all = refl
  none is (other ∷ others) all = by_other (none is others all.1) (bytes_eq name other.0) refl where
    by_other : lookup (bytes_eq name) others ≡ None → (b : Bool) → bytes_eq name other.0 ≡ b → cond b (Some other.1) (lookup (bytes_eq name) others) ≡ None
    by_other rest true e = absurd (all.0 (sym (same_bytes name h.0 is) ∙ same_bytes name other.0 e))
    by_other rest false e = rest

  by_tests : lookup (bytes_eq name) (filter (λ (other : List ℕ × ℕ). keep other.1) names) ≡ option_and_then (λ (n : ℕ). if keep n then Some n else None) (lookup (bytes_eq name) names)
      → (b : Bool) → keep h.1 ≡ b → (c : Bool) → bytes_eq name h.0 ≡ c
      → lookup (bytes_eq name) (cond b (h ∷ filter (λ (other : List ℕ × ℕ). keep other.1) names) (filter (λ (other : List ℕ × ℕ). keep other.1) names))
      ≡ option_and_then (λ (n : ℕ). if keep n then Some n else None) (cond c (Some h.1) (lookup (bytes_eq name) names))
  by_tests rest true kept true is = ap (λ (b : Bool). cond b (Some h.1) (lookup (bytes_eq name) (filter (λ (other : List ℕ × ℕ). keep other.1) names))) is ∙ sym (ap (λ (b : Bool). if b then Some h.1 else None) kept)
  by_tests rest true kept false is = ap (λ (b : Bool). cond b (Some h.1) (lookup (bytes_eq name) (filter (λ (other : List ℕ × ℕ). keep other.1) names))) is ∙ rest
  by_tests rest false kept true is =
      rest ∙ ap (option_and_then (λ (n : ℕ). if keep n then Some n else None)) (none is names pairs.0) ∙ sym (ap (λ (b : Bool). if b then Some h.1 else None) kept)
  by_tests rest false kept false is = rest

-- what holds of each listed child holds of the one that an id finds
its_kid : (P : ℕ → Type 0) (id : List ℕ) (x : ℕ) (kids : List (List ℕ × ℕ)) → AllByRecursion (λ (kid : List ℕ × ℕ). P kid.1) kids → lookup (bytes_eq id) kids ≡ Some x → P x
its_kid P id x [] all found = absurd (cc)
its_kid P id x (kid ∷ kids) all found = by_test (its_kid P id x kids all.1) (bytes_eq id kid.0) found where
  by_test : (lookup (bytes_eq id) kids ≡ Some x → P x) → (b : Bool) → cond b (Some kid.1) (lookup (bytes_eq id) kids) ≡ Some x → P x
  by_test rest true found = let same : kid.1 ≡ x = cc in subst P same all.0
  by_test rest false found = rest found

-- ---- what follows of a valid office

module _ (definitions : OfficeDefinitions) (before : OfficeState) (valid : IsValidOffice definitions before) where
  each : AllByRecursion (IsActor definitions before) before.actors
  each = recursion_from_All (IsActor definitions before) before.actors valid.actors

  pub valid_rise : FacesRise (faces_of before.actors)
  valid_rise = faces_rise before.actors (pairs_from (λ (m n : ℕ). m < n) (map record_number before.actors) (AllPairs-from_increasing (map record_number before.actors) valid.actors_rise))

  pub valid_given : AllByRecursion (λ (face : Face). face.number < before.next_actor) (faces_of before.actors)
  valid_given =
      each_map (λ (face : Face). face.number < before.next_actor) face_of before.actors
      (each_mono (IsActor definitions before) (λ (a : ActorRecord). a.number < before.next_actor) before.actors (λ a is. is.number.1) each)

  pub valid_newer : AllByRecursion IsNewer (faces_of before.actors)
  valid_newer =
      each_map IsNewer face_of before.actors
      (each_mono (IsActor definitions before) (λ (a : ActorRecord). (p : ℕ) → a.parent ≡ Some p → p < a.number) before.actors (λ a is p e. (at_some (IsChildOf before a) a.parent p is.parent e).smaller) each)

  pub valid_quiet : AllByRecursion (λ (a : ActorRecord). is_active a ≡ false → a.mailbox ≡ []) before.actors
  valid_quiet = each_mono (IsActor definitions before) (λ (a : ActorRecord). is_active a ≡ false → a.mailbox ≡ []) before.actors (λ a is ended. (is.ended ended).letters) each

  pub valid_timers : (owner : ℕ) (id : List ℕ) → length (filter (has_id owner id) before.timers) ≡ (if list_any (has_id owner id) before.timers then 1 else 0)
  valid_timers owner id = counted_once owner id before.timers (pairs_from (λ a b. AreOfOneId a b → ⊥) before.timers valid.timer_ids)

  pub valid_names : EachPair (λ (a b : List ℕ × ℕ). a.0 ≢ b.0) before.names
  valid_names = pairs_from (λ (a b : List ℕ × ℕ). a.0 ≢ b.0) before.names valid.names_once

  -- an actor with a parent is newer, and its parent is active if it is
  pub valid_parent : (n : ℕ) (a : ActorRecord) (p : ℕ) → look record_number before.actors n ≡ Some a → a.parent ≡ Some p → IsChildOf before a p
  valid_parent n a p seen parent = at_some (IsChildOf before a) a.parent p ((each_look record_number (IsActor definitions before) before.actors each n a seen).parent) parent

  -- a listed child is newer
  pub valid_kid : (actor : ℕ) (id : List ℕ) (n : ℕ) → kid_among before.actors actor id ≡ Some n → actor < n
  valid_kid actor id n found =
      let up = chained (λ (a : ActorRecord). lookup (bytes_eq id) a.kids) (look record_number before.actors actor) n found in
      let is : IsActor definitions before up.0 = each_look record_number (IsActor definitions before) before.actors each actor up.0 up.1 in
      let its_parent : HasParent before up.0.number n = its_kid (λ (k : ℕ). HasParent before up.0.number k) id n up.0.kids (recursion_from_All (λ (kid : List ℕ × ℕ). HasParent before up.0.number kid.1) up.0.kids is.kids) up.2 in
      let child = chained (λ (a : ActorRecord). a.parent) (look record_number before.actors n) up.0.number its_parent in
      let less : up.0.number < child.0.number = (valid_parent n child.0 up.0.number child.1 child.2).smaller in
      let there : up.0.number ≡ actor = look_number record_number before.actors actor up.0 up.1 in
      let here : child.0.number ≡ n = look_number record_number before.actors n child.0 child.1 in
      omega arith

  -- and it was given its number
  pub valid_kid_given : (actor : ℕ) (id : List ℕ) (n : ℕ) → kid_among before.actors actor id ≡ Some n → n < before.next_actor
  valid_kid_given actor id n found =
      let up = chained (λ (a : ActorRecord). lookup (bytes_eq id) a.kids) (look record_number before.actors actor) n found in
      let is : IsActor definitions before up.0 = each_look record_number (IsActor definitions before) before.actors each actor up.0 up.1 in
      let its_parent : HasParent before up.0.number n = its_kid (λ (k : ℕ). HasParent before up.0.number k) id n up.0.kids (recursion_from_All (λ (kid : List ℕ × ℕ). HasParent before up.0.number kid.1) up.0.kids is.kids) up.2 in
      let child = chained (λ (a : ActorRecord). a.parent) (look record_number before.actors n) up.0.number its_parent in
      let here : child.0.number ≡ n = look_number record_number before.actors n child.0 child.1 in
      let less : child.0.number < before.next_actor = (each_look record_number (IsActor definitions before) before.actors each n child.0 child.1).number.1 in
      omega arith

  module _ (actor : ℕ) (ready : is_ready before actor ≡ true) where
    pub ready_record : (a : ActorRecord) × (look record_number before.actors actor ≡ Some a) × (is_active a ≡ true) × (is_some a.own ≡ true) × (0 < length a.mailbox)
    ready_record = by_record (look record_number before.actors actor) refl ready where
      by_record : (o : Option ActorRecord) → look record_number before.actors actor ≡ o → option_map_or is_ready_actor o false ≡ true
          → (a : ActorRecord) × (look record_number before.actors actor ≡ Some a) × (is_active a ≡ true) × (is_some a.own ≡ true) × (0 < length a.mailbox)
      by_record None e is = absurd (true≢false (sym is))
      by_record (Some a) e is =
          let one = both_true (is_active a) (is_some a.own && nat_lt 0 (length a.mailbox)) is in
          let two = both_true (is_some a.own) (nat_lt 0 (length a.mailbox)) one.1 in
          (a, e, one.0, two.0, ltb-true 0 (length a.mailbox) two.1)

    pub ready_given : actor < before.next_actor
    ready_given =
        let found = ready_record in
        let same : found.0.number ≡ actor = look_number record_number before.actors actor found.0 found.1 in
        let less : found.0.number < before.next_actor = (each_look record_number (IsActor definitions before) before.actors each actor found.0 found.1).number.1 in
        omega arith

    -- its parent is older and active
    pub ready_parent : (p : ℕ) → parent_actor before actor ≡ Some p → (p < actor) × (option_map_or is_active (look record_number before.actors p) false ≡ true)
    ready_parent p e =
        let found = ready_record in
        let up = chained (λ (a : ActorRecord). a.parent) (look record_number before.actors actor) p e in
        let child : IsChildOf before up.0 p = valid_parent actor up.0 p up.1 up.2 in
        let same : up.0.number ≡ actor = look_number record_number before.actors actor up.0 up.1 in
        let running : is_active up.0 ≡ true = (let both : Some up.0 ≡ Some found.0 = sym up.1 ∙ found.1 in let one : up.0 ≡ found.0 = cc in ap is_active one ∙ found.2) in
        let less : p < up.0.number = child.smaller in
        (omega arith, ap (λ (o : Option ActorRecord). option_map_or is_active o false) child.record' ∙ child.active running)
