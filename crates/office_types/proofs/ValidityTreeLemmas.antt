-- The tree of actors: parents and children fit each other, and no chain of parents is too long.
use Rattle.std.proofs.Common.{◌≡◌, ◌≢◌, ◌⊎◌, inl, inr, ℕ, suc, zero, ◌+◌, ◌<◌, ◌≤◌, Bool, true, false, cond, ◌||◌, true≢false, List, [], ◌∷◌, ◌++◌, map, refl, sym, ap, subst, ◌∙◌, arith}
use Rattle.std.specs.Prelude.{Option, None, Some, fold, count_by, nat_eq, if◌then◌else◌, ⊤}
use Rattle.std.specs.List.{AllByRecursion}
use Rattle.std.specs.Option.{option_and_then, option_map, option_map_or, option_or}
use Rattle.std.proofs.lemmas.Bool.{eqb-true, eq-eqb, ne_eqb}
use Rattle.std.proofs.lemmas.List.Sums.{sum_by-append}
use Rattle.office_types.specs.declared.office.ActorRecord.{ActorRecord}
use Rattle.office_types.specs.declared.office.OfficeState.{OfficeState}
use Rattle.office_types.specs.Effects.{is_within_levels, with_kid}
use Rattle.office_types.specs.Ends.{has_parent_among, is_among}
use Rattle.office_types.specs.Records.{is_active}
use Rattle.office_types.specs.ValidOffice.{IsGiven, is_kid}
use Rattle.office_types.proofs.ValidityListLemmas.{Rises, change_at, at_number, at_same, count_none, each_look, each_map, each_mono, each_push, look, look_each, look_map, look_none, look_number, look_push, pairs_map, pairs_push, rises_at}

-- ---- records by their numbers

abbrev pub number_of : ActorRecord → ℕ
number_of actor = actor.number

-- the record with this number
abbrev pub record_in : List ActorRecord → ℕ → Option ActorRecord
record_in actors n = look number_of actors n

-- the parent of the actor with this number
abbrev pub parent_in : List ActorRecord → ℕ → Option ℕ
parent_in actors n = option_and_then (λ (actor : ActorRecord). actor.parent) (record_in actors n)

pub mapped : {X Y : Type 0} (f : X → Y) (o : Option X) (y : Y) → option_map f o ≡ Some y → (x : X) × (o ≡ Some x) × (f x ≡ y)
mapped f None y e = absurd (cc)
mapped f (Some x) y e = (x, refl, cc)

pub chained : {X Y : Type 0} (f : X → Option Y) (o : Option X) (y : Y) → option_and_then f o ≡ Some y → (x : X) × (o ≡ Some x) × (f x ≡ Some y)
chained f None y e = absurd (cc)
chained f (Some x) y e = (x, refl, e)

-- ---- levels

-- what `is_within_levels` says, of records alone
abbrev pub within : List ActorRecord → ℕ → ℕ → Bool
within actors zero n = false
within actors (suc levels) n = option_map_or (within actors levels) (parent_in actors n) true

pub within_is : (state : OfficeState) (levels n : ℕ) → is_within_levels state levels n ≡ within state.actors levels n
unfolding is_within_levels
within_is state zero n = refl
within_is state (suc levels) n = by_parent (within_is state levels) (parent_in state.actors n) where
  by_parent : ((p : ℕ) → is_within_levels state levels p ≡ within state.actors levels p) → (parent : Option ℕ)
      → option_map_or (is_within_levels state levels) parent true ≡ option_map_or (within state.actors levels) parent true
  by_parent rest None = refl
  by_parent rest (Some p) = rest p

-- what holds of all members of a chain of parents
pub within_same : (P : ℕ → Type 0) (actors others : List ActorRecord) → ((n p : ℕ) → P n → parent_in actors n ≡ Some p → P p) → ((n : ℕ) → P n → parent_in others n ≡ parent_in actors n)
    → (levels n : ℕ) → P n → within others levels n ≡ within actors levels n
within_same P actors others above same zero n is = refl
within_same P actors others above same (suc levels) n is =
    ap (λ (o : Option ℕ). option_map_or (within others levels) o true) (same n is) ∙ by_parent (within_same P actors others above same levels) (parent_in actors n) refl where
      by_parent : ((p : ℕ) → P p → within others levels p ≡ within actors levels p) → (o : Option ℕ) → parent_in actors n ≡ o → option_map_or (within others levels) o true ≡ option_map_or (within actors levels) o true
      by_parent rest None e = refl
      by_parent rest (Some p) e = rest p (above n p is e)

-- ---- those below an actor

-- an actor's parent has a smaller number
abbrev pub ParentIsSmaller : ActorRecord → Type 0
ParentIsSmaller actor = (p : ℕ) → actor.parent ≡ Some p → p < actor.number

-- one more is found below
abbrev pub add_below : List ℕ → ActorRecord → List ℕ
add_below found actor = if has_parent_among found actor then found ++ actor.number ∷ [] else found

-- those found, and all below them
abbrev pub all_below : List ActorRecord → List ℕ → List ℕ
all_below actors found = fold add_below found actors

among_push : (found : List ℕ) (c n : ℕ) → is_among (found ++ c ∷ []) n ≡ (is_among found n || is_among (c ∷ []) n)
among_push [] c n = refl
among_push (m ∷ found) c n = by_test (among_push found c n) (nat_eq n m) where
  by_test : is_among (found ++ c ∷ []) n ≡ (is_among found n || is_among (c ∷ []) n) → (b : Bool) → (b || is_among (found ++ c ∷ []) n) ≡ ((b || is_among found n) || is_among (c ∷ []) n)
  by_test rest true = refl
  by_test rest false = rest

pub among_one : (c n : ℕ) → is_among (c ∷ []) n ≡ true → n ≡ c
among_one c n is = by_test (nat_eq n c) refl is where
  by_test : (b : Bool) → nat_eq n c ≡ b → (b || false) ≡ true → n ≡ c
  by_test true e is = eqb-true n c e
  by_test false e is = absurd (true≢false (sym is))

pub among_itself : (c : ℕ) → is_among (c ∷ []) c ≡ true
among_itself c = ap (λ (b : Bool). b || false) (eq-eqb c c refl)

-- what is among those found after one more was looked at
among_add : (found : List ℕ) (actor : ActorRecord) (n : ℕ) → is_among found n ≡ true → is_among (add_below found actor) n ≡ true
among_add found actor n is = by_test (has_parent_among found actor) where
  by_test : (b : Bool) → is_among (if b then found ++ actor.number ∷ [] else found) n ≡ true
  by_test true = among_push found actor.number n ∙ ap (λ (b : Bool). b || is_among (actor.number ∷ []) n) is
  by_test false = is

among_added : (found : List ℕ) (actor : ActorRecord) (n : ℕ) → is_among (add_below found actor) n ≡ true → (is_among found n ≡ true) ⊎ ((actor.number ≡ n) × (has_parent_among found actor ≡ true))
among_added found actor n is = by_test (has_parent_among found actor) refl is where
  by_part : (b : Bool) → is_among found n ≡ b → (b || is_among (actor.number ∷ []) n) ≡ true → has_parent_among found actor ≡ true → (is_among found n ≡ true) ⊎ ((actor.number ≡ n) × (has_parent_among found actor ≡ true))
  by_part true e is child = inl e
  by_part false e is child = inr (sym (among_one actor.number n is), child)

  by_test : (b : Bool) → has_parent_among found actor ≡ b → is_among (if b then found ++ actor.number ∷ [] else found) n ≡ true → (is_among found n ≡ true) ⊎ ((actor.number ≡ n) × (has_parent_among found actor ≡ true))
  by_test true child is = by_part (is_among found n) refl (sym (among_push found actor.number n) ∙ is) child
  by_test false child is = inl is

pub below_found : (actors : List ActorRecord) (found : List ℕ) (n : ℕ) → is_among found n ≡ true → is_among (all_below actors found) n ≡ true
below_found [] found n is = is
below_found (actor ∷ actors) found n is = below_found actors (add_below found actor) n (among_add found actor n is)

has_parent : (found : List ℕ) (actor : ActorRecord) → has_parent_among found actor ≡ true → (p : ℕ) × (actor.parent ≡ Some p) × (is_among found p ≡ true)
has_parent found actor is = by_parent actor.parent refl is where
  by_parent : (o : Option ℕ) → actor.parent ≡ o → option_map_or (is_among found) o false ≡ true → (p : ℕ) × (actor.parent ≡ Some p) × (is_among found p ≡ true)
  by_parent None e is = absurd (true≢false (sym is))
  by_parent (Some p) e is = (p, e, is)

parent_has : (found : List ℕ) (actor : ActorRecord) (p : ℕ) → actor.parent ≡ Some p → is_among found p ≡ true → has_parent_among found actor ≡ true
parent_has found actor p e is = ap (λ (o : Option ℕ). option_map_or (is_among found) o false) e ∙ is

-- an actor with its parent among some
abbrev pub HasParentAmong : List ActorRecord → List ℕ → ℕ → Type 0
HasParentAmong actors found n = (actor : ActorRecord) × (p : ℕ) × (record_in actors n ≡ Some actor) × (actor.parent ≡ Some p) × (is_among found p ≡ true)

-- whoever stands below was found at first, or its parent stands below
pub below_cases : (actors : List ActorRecord) (found : List ℕ) (n : ℕ) → Rises number_of actors → is_among (all_below actors found) n ≡ true → (is_among found n ≡ true) ⊎ HasParentAmong actors (all_below actors found) n
below_cases [] found n rising is = inl is
below_cases (actor ∷ actors) found n rising is =
    elim (below_cases actors (add_below found actor) n rising.1 is) [
      | inl first ↦ elim (among_added found actor n first) [
        | inl before ↦ inl before
        | inr here ↦ (
            let up = has_parent found actor here.1 in
            inr (actor, up.0, ap (λ (b : Bool). cond b (Some actor) (record_in actors n)) (eq-eqb actor.number n here.0), up.1, below_found actors (add_below found actor) up.0 (among_add found actor up.0 up.2)))
      ]
      | inr (c, p, seen, parent, is) ↦ (
          let same : c.number ≡ n = look_number number_of actors n c seen in
          let less : actor.number < c.number = each_look number_of (λ (z : ActorRecord). actor.number < z.number) actors rising.0 n c seen in
          inr (c, p, ap (λ (b : Bool). cond b (Some actor) (record_in actors n)) (ne_eqb actor.number n (omega arith)) ∙ seen, parent, is))
    ]

-- whoever has its parent below stands below
pub below_closed : (actors : List ActorRecord) (found : List ℕ) (n p : ℕ) (a : ActorRecord) → Rises number_of actors → AllByRecursion ParentIsSmaller actors
    → record_in actors n ≡ Some a → a.parent ≡ Some p → is_among (all_below actors found) p ≡ true → is_among (all_below actors found) n ≡ true
below_closed [] found n p a rising smaller seen parent is = absurd (cc)
below_closed (actor ∷ actors) found n p a rising smaller seen parent is =
    by_number (below_closed actors (add_below found actor) n p a rising.1 smaller.1) (nat_eq actor.number n) refl seen where
      first : actor ≡ a → actor.number ≡ n → is_among (add_below found actor) p ≡ true → is_among (all_below actors (add_below found actor)) n ≡ true
      first same number is =
          let its_parent : actor.parent ≡ Some p = ap (λ (z : ActorRecord). z.parent) same ∙ parent in
          elim (among_added found actor p is) [
            | inl before ↦ below_found actors (add_below found actor) n
                (ap (λ (b : Bool). is_among (if b then found ++ actor.number ∷ [] else found) n) (parent_has found actor p its_parent before) ∙ among_push found actor.number n
                ∙ subst (λ (m : ℕ). (is_among found m || is_among (actor.number ∷ []) m) ≡ true) number (either (is_among found actor.number) (among_itself actor.number)))
            | inr here ↦ absurd (let less : p < actor.number = smaller.0 p its_parent in omega (arith, here.0))
          ] where
            either : (b : Bool) → is_among (actor.number ∷ []) actor.number ≡ true → (b || is_among (actor.number ∷ []) actor.number) ≡ true
            either true e = refl
            either false e = e

      by_number : (record_in actors n ≡ Some a → a.parent ≡ Some p → is_among (all_below actors (add_below found actor)) p ≡ true → is_among (all_below actors (add_below found actor)) n ≡ true)
          → (b : Bool) → nat_eq actor.number n ≡ b → cond b (Some actor) (record_in actors n) ≡ Some a → is_among (all_below actors (add_below found actor)) n ≡ true
      by_number rest false number seen = rest seen parent is
      by_number rest true number seen =
          let same : actor ≡ a = cc in
          let here : actor.number ≡ n = eqb-true actor.number n number in
          let less : p < actor.number = smaller.0 p (ap (λ (z : ActorRecord). z.parent) same ∙ parent) in
          elim (below_cases actors (add_below found actor) p rising.1 is) [
            | inl before ↦ first same here before
            | inr (c, q, there, _, _) ↦ absurd (
                let later : actor.number < c.number = each_look number_of (λ (z : ActorRecord). actor.number < z.number) actors rising.0 p c there in
                let at_p : c.number ≡ p = look_number number_of actors p c there in
                omega arith)
          ]

-- all that stand below have numbers from the least one on
pub below_from : (actors : List ActorRecord) (found : List ℕ) (least : ℕ) → AllByRecursion ParentIsSmaller actors → ((n : ℕ) → is_among found n ≡ true → least ≤ n) → (n : ℕ) → is_among (all_below actors found) n ≡ true → least ≤ n
below_from [] found least smaller from n is = from n is
below_from (actor ∷ actors) found least smaller from n is =
    below_from actors (add_below found actor) least smaller.1 (λ m is. elim (among_added found actor m is) [
      | inl before ↦ from m before
      | inr here ↦ (
          let up = has_parent found actor here.1 in
          let less : up.0 < actor.number = smaller.0 up.0 up.1 in
          let low : least ≤ up.0 = from up.0 up.2 in
          let same : actor.number ≡ m = here.0 in
          omega arith)
    ]) n is

-- ---- trees of actors

-- a parent has a record and a smaller number, lists the child once, and is active if the child is
pub record ChildIn (actors : List ActorRecord) (actor : ActorRecord) (p : ℕ) : Type 0 where
  pub above : ActorRecord
  pub seen : record_in actors p ≡ Some above
  pub smaller : p < actor.number
  pub listed : count_by (is_kid actor.number) above.kids ≡ 1
  pub active : is_active actor ≡ true → is_active above ≡ true

-- the records are by number, and parents and children fit each other
pub record ActorTree (next : ℕ) (actors : List ActorRecord) : Type 0 where
  pub rise : Rises number_of actors
  pub given : AllByRecursion (λ (actor : ActorRecord). IsGiven next actor.number) actors
  pub parents : (n : ℕ) (a : ActorRecord) (p : ℕ) → record_in actors n ≡ Some a → a.parent ≡ Some p → ChildIn actors a p
  pub kids : (n : ℕ) (a : ActorRecord) → record_in actors n ≡ Some a → AllByRecursion (λ (kid : List ℕ × ℕ). parent_in actors kid.1 ≡ Some n) a.kids
  pub levels : (n : ℕ) (a : ActorRecord) → record_in actors n ≡ Some a → within actors 16 n ≡ true

module _ (next : ℕ) (actors : List ActorRecord) (tree : ActorTree next actors) where
  pub parents_smaller : AllByRecursion ParentIsSmaller actors
  parents_smaller = look_each number_of ParentIsSmaller actors tree.rise (λ n a seen p is. (tree.parents n a p seen is).smaller)

  pub given_in : (n : ℕ) (a : ActorRecord) → record_in actors n ≡ Some a → IsGiven next n
  given_in n a seen = subst (IsGiven next) (look_number number_of actors n a seen) (each_look number_of (λ (z : ActorRecord). IsGiven next z.number) actors tree.given n a seen)

  -- who has a parent there is one of the tree, and its parent is too
  pub parent_smaller : (n p : ℕ) → parent_in actors n ≡ Some p → p < n
  parent_smaller n p is =
      let up = chained (λ (a : ActorRecord). a.parent) (record_in actors n) p is in
      let same : up.0.number ≡ n = look_number number_of actors n up.0 up.1 in
      let less : p < up.0.number = (tree.parents n up.0 p up.1 up.2).smaller in
      omega arith

  pub none_from_next : (n : ℕ) → next ≤ n → record_in actors n ≡ None
  none_from_next n large = look_none number_of actors n (each_mono (λ (z : ActorRecord). IsGiven next z.number) (λ (z : ActorRecord). z.number ≢ n) actors (λ z given e. omega (arith, given.1)) tree.given)

  -- a change of records that keeps numbers, parents and children, where no child outlives its parent
  module _ (f : ActorRecord → ActorRecord) (same_number : (a : ActorRecord) → (f a).number ≡ a.number) (same_parent : (a : ActorRecord) → (f a).parent ≡ a.parent) (same_kids : (a : ActorRecord) → (f a).kids ≡ a.kids)
      (outlives : (n : ℕ) (a : ActorRecord) (p : ℕ) (b : ActorRecord) → record_in actors n ≡ Some a → a.parent ≡ Some p → record_in actors p ≡ Some b → is_active (f a) ≡ true → is_active (f b) ≡ true) where
    pub parent_map : (n : ℕ) → parent_in (map f actors) n ≡ parent_in actors n
    parent_map n = ap (option_and_then (λ (a : ActorRecord). a.parent)) (look_map number_of f same_number actors n) ∙ by_record (record_in actors n) where
      by_record : (o : Option ActorRecord) → option_and_then (λ (a : ActorRecord). a.parent) (option_map f o) ≡ option_and_then (λ (a : ActorRecord). a.parent) o
      by_record None = refl
      by_record (Some a) = same_parent a

    seen_map : (n : ℕ) (b : ActorRecord) → record_in (map f actors) n ≡ Some b → (a : ActorRecord) × (record_in actors n ≡ Some a) × (f a ≡ b)
    seen_map n b seen = mapped f (record_in actors n) b (sym (look_map number_of f same_number actors n) ∙ seen)

    pub tree_map : ActorTree next (map f actors)
    tree_map = record {
      rise = pairs_map (λ (x y : ActorRecord). x.number < y.number) (λ (x y : ActorRecord). x.number < y.number) f actors (λ x y less. omega (arith, same_number x, same_number y)) tree.rise;
      given = each_map (λ (z : ActorRecord). IsGiven next z.number) f actors (each_mono (λ (z : ActorRecord). IsGiven next z.number) (λ (z : ActorRecord). IsGiven next (f z).number) actors (λ z given. (omega (arith, given.0, same_number z), omega (arith, given.1, same_number z))) tree.given);
      parents = λ n b p seen parent. (
          let before = seen_map n b seen in
          subst (λ (z : ActorRecord). ChildIn (map f actors) z p) before.2 (above n before.0 p before.1 (sym (same_parent before.0) ∙ ap (λ (z : ActorRecord). z.parent) before.2 ∙ parent)));
      kids = λ n b seen. (
          let before = seen_map n b seen in
          let fits : AllByRecursion (λ (kid : List ℕ × ℕ). parent_in (map f actors) kid.1 ≡ Some n) before.0.kids =
          each_mono (λ (kid : List ℕ × ℕ). parent_in actors kid.1 ≡ Some n) (λ (kid : List ℕ × ℕ). parent_in (map f actors) kid.1 ≡ Some n) before.0.kids (λ kid is. parent_map kid.1 ∙ is) (tree.kids n before.0 before.1) in
          subst (AllByRecursion (λ (kid : List ℕ × ℕ). parent_in (map f actors) kid.1 ≡ Some n)) (sym (same_kids before.0) ∙ ap (λ (z : ActorRecord). z.kids) before.2) fits);
      levels = λ n b seen. (
          let before = seen_map n b seen in
          within_same (λ m. ⊤) actors (map f actors) (λ m p is e. tt) (λ m is. parent_map m) 16 n tt ∙ tree.levels n before.0 before.1);
    } where
      above : (n : ℕ) (a : ActorRecord) (p : ℕ) → record_in actors n ≡ Some a → a.parent ≡ Some p → ChildIn (map f actors) (f a) p
      above n a p seen parent =
          let child = tree.parents n a p seen parent in
          record {
            above = f child.above;
            seen = look_map number_of f same_number actors p ∙ ap (option_map f) child.seen;
            smaller = omega (arith, child.smaller, same_number a);
            listed = ap (λ (m : ℕ). count_by (is_kid m) (f child.above).kids) (same_number a) ∙ ap (count_by (is_kid a.number)) (same_kids child.above) ∙ child.listed;
            active = outlives n a p child.above seen parent child.seen;
          }

-- ---- one actor more

module _ (next : ℕ) (actors : List ActorRecord) (tree : ActorTree next actors) (numbered : 0 < next) (f : ActorRecord → ActorRecord) (fresh : ActorRecord) (others : List ActorRecord)
    (same_number : (a : ActorRecord) → (f a).number ≡ a.number) (same_parent : (a : ActorRecord) → (f a).parent ≡ a.parent) (same_active : (a : ActorRecord) → is_active (f a) ≡ is_active a)
    (fresh_number : fresh.number ≡ next) (fresh_kids : fresh.kids ≡ []) (same_fresh : f fresh ≡ fresh)
    (looks : (m : ℕ) → record_in others m ≡ option_map f (option_or (record_in actors m) (record_in (fresh ∷ []) m)))
    (listed : (m : ℕ) (a : ActorRecord) (c : ℕ) → record_in actors m ≡ Some a → c < next → count_by (is_kid c) (f a).kids ≡ count_by (is_kid c) a.kids)
    (more : (P : List ℕ × ℕ → Type 0) (m : ℕ) (a : ActorRecord) → record_in actors m ≡ Some a → AllByRecursion P a.kids → (fresh.parent ≡ Some m → (id : List ℕ) → P (id, next)) → AllByRecursion P (f a).kids) where
  pub grown_seen : (m : ℕ) (a : ActorRecord) → record_in actors m ≡ Some a → record_in others m ≡ Some (f a)
  grown_seen m a seen = looks m ∙ ap (λ (o : Option ActorRecord). option_map f (option_or o (record_in (fresh ∷ []) m))) seen

  fresh_seen : record_in (fresh ∷ []) next ≡ Some fresh
  fresh_seen = ap (λ (b : Bool). cond b (Some fresh) None) (eq-eqb fresh.number next fresh_number)

  pub grown_new : record_in others next ≡ Some fresh
  grown_new =
      looks next ∙ ap (λ (o : Option ActorRecord). option_map f (option_or o (record_in (fresh ∷ []) next))) (none_from_next next actors tree next (omega arith))
      ∙ ap (option_map f) fresh_seen ∙ ap (λ (a : ActorRecord). Some a) same_fresh

  pub grown_cases : (m : ℕ) (b : ActorRecord) → record_in others m ≡ Some b → ((a : ActorRecord) × (record_in actors m ≡ Some a) × (f a ≡ b)) ⊎ ((m ≡ next) × (fresh ≡ b))
  grown_cases m b seen = by_old (record_in actors m) refl (sym (looks m) ∙ seen) where
    by_new : (t : Bool) → nat_eq fresh.number m ≡ t → option_map f (cond t (Some fresh) None) ≡ Some b → ((a : ActorRecord) × (record_in actors m ≡ Some a) × (f a ≡ b)) ⊎ ((m ≡ next) × (fresh ≡ b))
    by_new true is seen = let same : f fresh ≡ b = cc in inr (sym (eqb-true fresh.number m is) ∙ fresh_number, sym same_fresh ∙ same)
    by_new false is seen = absurd (cc)

    by_old : (o : Option ActorRecord) → record_in actors m ≡ o → option_map f (option_or o (record_in (fresh ∷ []) m)) ≡ Some b → ((a : ActorRecord) × (record_in actors m ≡ Some a) × (f a ≡ b)) ⊎ ((m ≡ next) × (fresh ≡ b))
    by_old (Some a) is seen = inl (a, is, cc)
    by_old None is seen = by_new (nat_eq fresh.number m) refl seen

  pub grown_parent : (m : ℕ) → m < next → parent_in others m ≡ parent_in actors m
  grown_parent m small = ap (option_and_then (λ (a : ActorRecord). a.parent)) (looks m) ∙ by_old (record_in actors m) where
    by_old : (o : Option ActorRecord) → option_and_then (λ (a : ActorRecord). a.parent) (option_map f (option_or o (record_in (fresh ∷ []) m))) ≡ option_and_then (λ (a : ActorRecord). a.parent) o
    by_old (Some a) = same_parent a
    by_old None = ap (λ (t : Bool). option_and_then (λ (a : ActorRecord). a.parent) (option_map f (cond t (Some fresh) None))) (ne_eqb fresh.number m (λ e. omega arith))

  pub grown_within : (levels m : ℕ) → m < next → within others levels m ≡ within actors levels m
  grown_within levels m small =
      within_same (λ (k : ℕ). k < next) actors others (λ k p small is. (let less : p < k = parent_smaller next actors tree k p is in omega arith)) grown_parent levels m small

  pub tree_grow : Rises number_of others → ((p : ℕ) → fresh.parent ≡ Some p → ChildIn others fresh p) → within others 16 next ≡ true → ActorTree (next + 1) others
  tree_grow rising fresh_child level = record {
    rise = rising;
    given = look_each number_of (λ (z : ActorRecord). IsGiven (next + 1) z.number) others rising (λ m b seen. elim (grown_cases m b seen) [
      | inl (a, before, same) ↦ (
          let given : IsGiven next m = given_in next actors tree m a before in
          let at_m : b.number ≡ m = look_number number_of others m b seen in
          (omega (arith, given.0), omega (arith, given.1)))
      | inr (at_next, same) ↦ (let at_m : b.number ≡ m = look_number number_of others m b seen in (omega arith, omega arith))
    ]);
    parents = λ m b p seen parent. elim (grown_cases m b seen) [
      | inl (a, before, same) ↦ subst (λ (z : ActorRecord). ChildIn others z p) same (above m a p before (sym (same_parent a) ∙ ap (λ (z : ActorRecord). z.parent) same ∙ parent))
      | inr (at_next, same) ↦ subst (λ (z : ActorRecord). ChildIn others z p) same (fresh_child p (ap (λ (z : ActorRecord). z.parent) same ∙ parent))
    ];
    kids = λ m b seen. elim (grown_cases m b seen) [
      | inl (a, before, same) ↦ subst (λ (z : ActorRecord). AllByRecursion (λ (kid : List ℕ × ℕ). parent_in others kid.1 ≡ Some m) z.kids) same (below_it m a before)
      | inr (at_next, same) ↦ subst (AllByRecursion (λ (kid : List ℕ × ℕ). parent_in others kid.1 ≡ Some m)) (sym fresh_kids ∙ ap (λ (z : ActorRecord). z.kids) same) tt
    ];
    levels = λ m b seen. elim (grown_cases m b seen) [
      | inl (a, before, same) ↦ (let given : IsGiven next m = given_in next actors tree m a before in grown_within 16 m given.1 ∙ tree.levels m a before)
      | inr (at_next, same) ↦ ap (within others 16) at_next ∙ level
    ];
  } where
    above : (m : ℕ) (a : ActorRecord) (p : ℕ) → record_in actors m ≡ Some a → a.parent ≡ Some p → ChildIn others (f a) p
    above m a p seen parent =
        let child = tree.parents m a p seen parent in
        let given : IsGiven next m = given_in next actors tree m a seen in
        let at_m : a.number ≡ m = look_number number_of actors m a seen in
        record {
          above = f child.above;
          seen = grown_seen p child.above child.seen;
          smaller = omega (arith, child.smaller, same_number a);
          listed = ap (λ (c : ℕ). count_by (is_kid c) (f child.above).kids) (same_number a) ∙ listed p child.above a.number child.seen (omega (arith, given.1)) ∙ child.listed;
          active = λ is. same_active child.above ∙ child.active (sym (same_active a) ∙ is);
        }

    below_it : (m : ℕ) (a : ActorRecord) → record_in actors m ≡ Some a → AllByRecursion (λ (kid : List ℕ × ℕ). parent_in others kid.1 ≡ Some m) (f a).kids
    below_it m a seen =
        more (λ (kid : List ℕ × ℕ). parent_in others kid.1 ≡ Some m) m a seen
        (each_mono (λ (kid : List ℕ × ℕ). parent_in actors kid.1 ≡ Some m) (λ (kid : List ℕ × ℕ). parent_in others kid.1 ≡ Some m) a.kids
        (λ kid is. (
        let up = chained (λ (z : ActorRecord). z.parent) (record_in actors kid.1) m is in
        let given : IsGiven next kid.1 = given_in next actors tree kid.1 up.0 up.1 in
        grown_parent kid.1 given.1 ∙ is)) (tree.kids m a seen))
        (λ parent id. ap (option_and_then (λ (z : ActorRecord). z.parent)) grown_new ∙ parent)

mapped_itself : {X : Type 0} (o : Option X) → o ≡ option_map (λ (x : X). x) o
mapped_itself None = refl
mapped_itself (Some x) = refl

-- an actor without a parent
pub tree_start : (next : ℕ) (actors : List ActorRecord) → ActorTree next actors → 0 < next → (fresh : ActorRecord) → fresh.number ≡ next → fresh.kids ≡ [] → fresh.parent ≡ None → ActorTree (next + 1) (actors ++ fresh ∷ [])
tree_start next actors tree numbered fresh fresh_number fresh_kids no_parent =
    let looks : (m : ℕ) → record_in (actors ++ fresh ∷ []) m ≡ option_map (λ (a : ActorRecord). a) (option_or (record_in actors m) (record_in (fresh ∷ []) m)) =
    λ m. look_push number_of actors fresh m ∙ mapped_itself (option_or (record_in actors m) (record_in (fresh ∷ []) m)) in
    let new : record_in (actors ++ fresh ∷ []) next ≡ Some fresh =
    grown_new next actors tree numbered (λ a. a) fresh (actors ++ fresh ∷ []) (λ a. refl) (λ a. refl) (λ a. refl) fresh_number fresh_kids refl looks (λ m a c seen small. refl) (λ P m a seen all here. all) in
    tree_grow next actors tree numbered (λ a. a) fresh (actors ++ fresh ∷ []) (λ a. refl) (λ a. refl) (λ a. refl) fresh_number fresh_kids refl looks (λ m a c seen small. refl) (λ P m a seen all here. all)
    (pairs_push (λ (x y : ActorRecord). x.number < y.number) actors fresh tree.rise (each_mono (λ (z : ActorRecord). IsGiven next z.number) (λ (z : ActorRecord). z.number < fresh.number) actors (λ z given. omega (arith, given.1)) tree.given))
    (λ p parent. absurd (cc))
    (ap (λ (o : Option ℕ). option_map_or (within (actors ++ fresh ∷ []) 15) o true) (ap (option_and_then (λ (z : ActorRecord). z.parent)) new ∙ no_parent))

-- a child of an active actor
module _ (next : ℕ) (actors : List ActorRecord) (tree : ActorTree next actors) (numbered : 0 < next) (n : ℕ) (parent : ActorRecord) (id : List ℕ) (fresh : ActorRecord)
    (seen : record_in actors n ≡ Some parent) (running : is_active parent ≡ true) (fresh_number : fresh.number ≡ next) (fresh_kids : fresh.kids ≡ []) (fresh_parent : fresh.parent ≡ Some n) where
  abbrev adopt : ActorRecord → ActorRecord
  adopt = change_at number_of n (with_kid id next)

  abbrev pub with_child_in : List ActorRecord
  with_child_in = map adopt (actors ++ fresh ∷ [])

  small : n < next
  small = (given_in next actors tree n parent seen).1

  same_number : (a : ActorRecord) → (adopt a).number ≡ a.number
  same_number a = at_number number_of n (with_kid id next) (λ x. refl) a

  same_parent : (a : ActorRecord) → (adopt a).parent ≡ a.parent
  same_parent a = at_same number_of (λ (z : ActorRecord). z.parent) n (with_kid id next) (λ x. refl) a

  same_active : (a : ActorRecord) → is_active (adopt a) ≡ is_active a
  same_active a = at_same number_of is_active n (with_kid id next) (λ x. refl) a

  same_fresh : adopt fresh ≡ fresh
  same_fresh = ap (λ (b : Bool). if b then with_kid id next fresh else fresh) (ne_eqb fresh.number n (λ e. omega (arith, small)))

  looks : (m : ℕ) → record_in with_child_in m ≡ option_map adopt (option_or (record_in actors m) (record_in (fresh ∷ []) m))
  looks m = look_map number_of adopt same_number (actors ++ fresh ∷ []) m ∙ ap (option_map adopt) (look_push number_of actors fresh m)

  listed : (m : ℕ) (a : ActorRecord) (c : ℕ) → record_in actors m ≡ Some a → c < next → count_by (is_kid c) (adopt a).kids ≡ count_by (is_kid c) a.kids
  listed m a c there below_next = by_test (nat_eq a.number n) where
    by_test : (b : Bool) → count_by (is_kid c) (if b then with_kid id next a else a).kids ≡ count_by (is_kid c) a.kids
    by_test true =
        omega (arith, sum_by-append (λ (kid : List ℕ × ℕ). cond (is_kid c kid) 1 0) a.kids ((id, next) ∷ []), count_none (is_kid c) ((id, next) ∷ []) (ne_eqb next c (λ e. omega arith), tt))
    by_test false = refl

  more : (P : List ℕ × ℕ → Type 0) (m : ℕ) (a : ActorRecord) → record_in actors m ≡ Some a → AllByRecursion P a.kids → (fresh.parent ≡ Some m → (other : List ℕ) → P (other, next)) → AllByRecursion P (adopt a).kids
  more P m a there all here = by_test (nat_eq a.number n) refl where
    by_test : (b : Bool) → nat_eq a.number n ≡ b → AllByRecursion P (if b then with_kid id next a else a).kids
    by_test true is = each_push P a.kids (id, next) all (here (fresh_parent ∙ ap (λ (k : ℕ). Some k) (sym (eqb-true a.number n is) ∙ look_number number_of actors m a there)) id)
    by_test false is = all

  pub spawned_seen : (m : ℕ) (a : ActorRecord) → record_in actors m ≡ Some a → record_in with_child_in m ≡ Some (adopt a)
  spawned_seen = grown_seen next actors tree numbered adopt fresh with_child_in same_number same_parent same_active fresh_number fresh_kids same_fresh looks listed more

  pub spawned_new : record_in with_child_in next ≡ Some fresh
  spawned_new = grown_new next actors tree numbered adopt fresh with_child_in same_number same_parent same_active fresh_number fresh_kids same_fresh looks listed more

  new_child : (p : ℕ) → fresh.parent ≡ Some p → ChildIn with_child_in fresh p
  new_child p is =
      let at_n : n ≡ p = cc in
      let at_parent : parent.number ≡ n = look_number number_of actors n parent seen in
      let kids : (adopt parent).kids ≡ parent.kids ++ (id, next) ∷ [] = ap (λ (b : Bool). (if b then with_kid id next parent else parent).kids) (eq-eqb parent.number n at_parent) in
      let before : count_by (is_kid next) parent.kids ≡ 0 = count_none (is_kid next) parent.kids (each_mono (λ (kid : List ℕ × ℕ). parent_in actors kid.1 ≡ Some n) (λ (kid : List ℕ × ℕ). is_kid next kid ≡ false) parent.kids
      (λ kid is. (
      let up = chained (λ (z : ActorRecord). z.parent) (record_in actors kid.1) n is in
      let given : IsGiven next kid.1 = given_in next actors tree kid.1 up.0 up.1 in
      ne_eqb kid.1 next (λ e. omega (arith, given.1)))) (tree.kids n parent seen)) in
      let one : count_by (is_kid next) ((id, next) ∷ []) ≡ 1 = ap (λ (b : Bool). 0 + cond b 1 0) (eq-eqb next next refl) in
      record {
        above = adopt parent;
        seen = ap (record_in with_child_in) (sym at_n) ∙ spawned_seen n parent seen;
        smaller = omega (arith, small);
        listed = ap (λ (c : ℕ). count_by (is_kid c) (adopt parent).kids) fresh_number ∙ ap (count_by (is_kid next)) kids ∙ (omega (arith, sum_by-append (λ (kid : List ℕ × ℕ). cond (is_kid next kid) 1 0) parent.kids ((id, next) ∷ [])));
        active = λ is. same_active parent ∙ running;
      }

  pub tree_spawn : within actors 15 n ≡ true → ActorTree (next + 1) with_child_in
  tree_spawn level =
      tree_grow next actors tree numbered adopt fresh with_child_in same_number same_parent same_active fresh_number fresh_kids same_fresh looks listed more
      (rises_at number_of n (with_kid id next) (actors ++ fresh ∷ []) (λ x. refl)
      (pairs_push (λ (x y : ActorRecord). x.number < y.number) actors fresh tree.rise (each_mono (λ (z : ActorRecord). IsGiven next z.number) (λ (z : ActorRecord). z.number < fresh.number) actors (λ z given. omega (arith, given.1)) tree.given)))
      new_child
      (ap (λ (o : Option ℕ). option_map_or (within with_child_in 15) o true) (ap (option_and_then (λ (z : ActorRecord). z.parent)) spawned_new ∙ fresh_parent)
      ∙ grown_within next actors tree numbered adopt fresh with_child_in same_number same_parent same_active fresh_number fresh_kids same_fresh looks listed more 15 n small ∙ level)
