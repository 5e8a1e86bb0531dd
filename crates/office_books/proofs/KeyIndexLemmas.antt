-- How the index of names follows the holders, and what it finds.
use Rattle.std.proofs.Common.{◌≡◌, ◌≢◌, ℕ, zero, suc, ◌<◌, ◌≤◌, Bool, true, false, cond, not, List, [], ◌∷◌, ◌++◌, length, get_or, map, filter, nat_eq, bytes_eq, Option, Some, None, ◌⊎◌, Result, Ok, Err, OnOk, ◌+◌, refl, sym, ap, ◌∙◌, subst, inl, inr, arith}
use Rattle.std.specs.declared.cmp.Ordering.{Ordering}
use Rattle.std.specs.declared.cmp.Ordering.TheVariants.{Less, Equal, Greater}
use Rattle.std.specs.Ordering.{nat_cmp, is_eq}
use Rattle.std.specs.List.{All, AllByRecursion, insert, remove}
use Rattle.std.specs.Result.{is_err}
use Rattle.std.specs.List.Sorted.{IsStrictlySortedBy}
use Rattle.std.proofs.lemmas.Bool.{eqb-true, eq-eqb}
use Rattle.std.proofs.lemmas.Cmp.{nat_cmp_total, nat_list_cmp_total, nat_eq_equiv, ranked, tied_itself}
use Rattle.std.proofs.lemmas.List.Elements.{All-head, All-tail}
use Rattle.std.proofs.lemmas.Map.Text.{is_eq-slice_cmp}
use Rattle.std.proofs.lemmas.Slice.Eq.{bytes_eq-Decides}
use Rattle.xs_model.specs.Rising.{key_cmp}
use Rattle.office_types.specs.SystemNames.{holder_of, without_holder}
use Rattle.office_books.specs.KeyIndex.{IsIn, IsKeyIndex, text_of_number}
use Rattle.office_books.specs.Sorted.{RisesBy, IsAt, IsAbsentAt}
use Rattle.office_books.proofs.SortedLemmas.{removed_at, kept_gap, rises_filter, rises_push, rises_insert}
use Rattle.office_books.proofs.ItemLemmas.{same_number, less}

abbrev Holders : Type 0
Holders = List (List ℕ × ℕ)

abbrev number : List ℕ × ℕ → ℕ
number holder = holder.1

-- ---- tests

pub not_both : {b : Bool} → b ≡ true → b ≡ false → ⊥
not_both is_true is_false = cc

pub none_is_some : {X : Type 0} {x : X} → ◌≡◌ {A = Option X} None (Some x) → ⊥
none_is_some e = cc

pub same_bytes : (k : List ℕ) → bytes_eq k k ≡ true
same_bytes k = (bytes_eq-Decides k k).1 refl

pub equal_bytes : (k l : List ℕ) → key_cmp k l ≡ Equal → k ≡ l
equal_bytes k l e = (bytes_eq-Decides k l).0 (sym (is_eq-slice_cmp k l) ∙ ap is_eq e)

pub other_number : (a b : ℕ) → a ≢ b → nat_eq a b ≡ false
other_number a b apart = decided (nat_eq a b) refl
  where
    decided : (t : Bool) → nat_eq a b ≡ t → t ≡ false
    decided true e = absurd (apart (eqb-true a b e))
    decided false e = refl

-- ---- members

module _ {X : Type 0} where
  pub in_filter : (p : X → Bool) (xs : List X) (x : X) → IsIn x xs → p x ≡ true → IsIn x (filter p xs)
  in_filter p [] x is_in passes = absurd is_in
  in_filter p (y ∷ xs) x (inl e) passes = let first : p y ≡ true = ap p e ∙ passes in rw first (inl e)
  in_filter p (y ∷ xs) x (inr later) passes =
      elim (p y) as (λ b. IsIn x (cond b (y ∷ filter p xs) (filter p xs))) [ true ↦ inr (in_filter p xs x later passes) | false ↦ in_filter p xs x later passes ]

  pub from_filter : (p : X → Bool) (xs : List X) (x : X) → IsIn x (filter p xs) → IsIn x xs × (p x ≡ true)
  from_filter p [] x = λ nowhere. absurd nowhere
  from_filter p (y ∷ xs) x = cases (from_filter p xs x) (p y) refl
    where
      cases : (IsIn x (filter p xs) → IsIn x xs × (p x ≡ true)) → (b : Bool) → p y ≡ b → IsIn x (cond b (y ∷ filter p xs) (filter p xs)) → IsIn x (y ∷ xs) × (p x ≡ true)
      cases from true e (inl same) = (inl same, sym (ap p same) ∙ e)
      cases from true e (inr later) = let rest = from later in (inr rest.0, rest.1)
      cases from false e later = let rest = from later in (inr rest.0, rest.1)

  in_push : (xs : List X) (y x : X) → IsIn x xs → IsIn x (xs ++ y ∷ [])
  in_push [] y x is_in = absurd is_in
  in_push (z ∷ xs) y x (inl e) = inl e
  in_push (z ∷ xs) y x (inr later) = inr (in_push xs y x later)

  in_push_last : (xs : List X) (y : X) → IsIn y (xs ++ y ∷ [])
  in_push_last [] y = inl refl
  in_push_last (z ∷ xs) y = inr (in_push_last xs y)

  from_push : (xs : List X) (y x : X) → IsIn x (xs ++ y ∷ []) → IsIn x xs ⊎ (y ≡ x)
  from_push [] y x (inl e) = inr e
  from_push [] y x (inr nowhere) = absurd nowhere
  from_push (z ∷ xs) y x (inl e) = inl (inl e)
  from_push (z ∷ xs) y x (inr later) = elim (from_push xs y x later) [ inl old ↦ inl (inr old) | inr new ↦ inr new ]

  in_insert : (xs : List X) (i : ℕ) (y x : X) → IsIn x xs → IsIn x (insert xs i y)
  in_insert xs zero y x is_in = inr is_in
  in_insert [] (suc i) y x is_in = absurd is_in
  in_insert (z ∷ xs) (suc i) y x (inl e) = inl e
  in_insert (z ∷ xs) (suc i) y x (inr later) = inr (in_insert xs i y x later)

  in_insert_new : (xs : List X) (i : ℕ) (y : X) → IsIn y (insert xs i y)
  in_insert_new xs zero y = inl refl
  in_insert_new [] (suc i) y = inl refl
  in_insert_new (z ∷ xs) (suc i) y = inr (in_insert_new xs i y)

  from_insert : (xs : List X) (i : ℕ) (y x : X) → IsIn x (insert xs i y) → IsIn x xs ⊎ (y ≡ x)
  from_insert xs zero y x (inl e) = inr e
  from_insert xs zero y x (inr later) = inl later
  from_insert [] (suc i) y x (inl e) = inr e
  from_insert [] (suc i) y x (inr nowhere) = absurd nowhere
  from_insert (z ∷ xs) (suc i) y x (inl e) = inl (inl e)
  from_insert (z ∷ xs) (suc i) y x (inr later) = elim (from_insert xs i y x later) [ inl old ↦ inl (inr old) | inr new ↦ inr new ]

  pub in_place : (xs : List X) (i : ℕ) (d : X) → i < length xs → IsIn (get_or xs i d) xs
  in_place [] i d within = absurd (omega arith)
  in_place (x ∷ xs) zero d within = inl refl
  in_place (x ∷ xs) (suc i) d within = inr (in_place xs i d (omega arith))

  -- a key that each item has in common keeps the list of keys
  same_map : {K : Type 0} (f g : X → K) (xs : List X) → ((x : X) → IsIn x xs → f x ≡ g x) → map f xs ≡ map g xs
  same_map f g [] alike = refl
  same_map f g (x ∷ xs) alike = cc (alike x (inl refl), same_map f g xs (λ y later. alike y (inr later)))

  pub all_in : {K : Type 0} (P : K → Type 0) (f : X → K) (xs : List X) (x : X) → AllByRecursion P (map f xs) → IsIn x xs → P (f x)
  all_in P f [] x all is_in = absurd is_in
  all_in P f (y ∷ xs) x all (inl e) = subst (λ (z : X). P (f z)) e all.0
  all_in P f (y ∷ xs) x all (inr later) = all_in P f xs x all.1 later

  above_in : (n : ℕ) (f : X → ℕ) (xs : List X) (x : X) → All (λ (y : X). f y < n) xs → IsIn x xs → f x < n
  above_in n f [] x all is_in = absurd is_in
  above_in n f (y ∷ xs) x all (inl e) = let P : X → Type 0 = λ z. f z < n in subst P e (All-head P y xs all)
  above_in n f (y ∷ xs) x all (inr later) = let P : X → Type 0 = λ z. f z < n in above_in n f xs x (All-tail P y xs all) later

-- no two items of a sorted list have one key
same_key_same : {X : Type 0} (f : X → List ℕ) (xs : List X) (x y : X) → RisesBy key_cmp f xs → IsIn x xs → IsIn y xs → f x ≡ f y → x ≡ y
unfolding IsStrictlySortedBy
same_key_same f [] x y rises x_in y_in e = absurd x_in
same_key_same {X} f (z ∷ xs) x y rises (inl z_x) (inl z_y) e = sym z_x ∙ z_y
same_key_same {X} f (z ∷ xs) x y rises (inl z_x) (inr later) e =
    let lower : key_cmp (f z) (f y) ≡ Less = all_in (λ l. key_cmp (f z) l ≡ Less) f xs y rises.0 later in
    let tied : key_cmp (f y) (f y) ≡ Equal = tied_itself nat_list_cmp_total (f y) in
    let same : f z ≡ f y = ap f z_x ∙ e in
    let low : key_cmp (f y) (f y) ≡ Less = sym (ap (λ (k : List ℕ). key_cmp k (f y)) same) ∙ lower in
    absurd (cc)
same_key_same {X} f (z ∷ xs) x y rises (inr later) (inl z_y) e =
    let lower : key_cmp (f z) (f x) ≡ Less = all_in (λ l. key_cmp (f z) l ≡ Less) f xs x rises.0 later in
    let tied : key_cmp (f x) (f x) ≡ Equal = tied_itself nat_list_cmp_total (f x) in
    let same : f z ≡ f x = ap f z_y ∙ sym e in
    let low : key_cmp (f x) (f x) ≡ Less = sym (ap (λ (k : List ℕ). key_cmp k (f x)) same) ∙ lower in
    absurd (cc)
same_key_same {X} f (z ∷ xs) x y rises (inr x_later) (inr y_later) e = same_key_same f xs x y rises.1 x_later y_later e

-- ---- the name of an actor

pub name_at : (holders : Holders) (actor place : ℕ) (d : List ℕ × ℕ) → IsAt nat_cmp actor place (map number holders) → text_of_number holders actor ≡ (get_or holders place d).0
name_at [] actor place d at = absurd at
name_at (holder ∷ holders) actor zero d at = let this : nat_eq holder.1 actor ≡ true = same_number actor holder.1 ∙ ap is_eq at.0 in rw this refl
name_at (holder ∷ holders) actor (suc place) d at =
    let other : nat_eq holder.1 actor ≡ false = same_number actor holder.1 ∙ ap is_eq at.0 in rw other (name_at holders actor place d at.1)

name_below : (holders : Holders) (actor : ℕ) → AllByRecursion (λ l. nat_cmp actor l ≡ Less) (map number holders) → text_of_number holders actor ≡ []
name_below [] actor all = refl
name_below (holder ∷ holders) actor all =
    let other : nat_eq holder.1 actor ≡ false = same_number actor holder.1 ∙ ap is_eq all.0 in rw other (name_below holders actor all.1)

pub no_name : (holders : Holders) (actor place : ℕ) → IsAbsentAt nat_cmp actor place (map number holders) → text_of_number holders actor ≡ []
no_name holders actor zero gap = name_below holders actor gap
no_name [] actor (suc place) gap = absurd gap
no_name (holder ∷ holders) actor (suc place) gap =
    let other : nat_eq holder.1 actor ≡ false = same_number actor holder.1 ∙ ap is_eq gap.0 in rw other (no_name holders actor place gap.1)

pub name_in : (holders : Holders) (holder : List ℕ × ℕ) → RisesBy nat_cmp number holders → IsIn holder holders → text_of_number holders holder.1 ≡ holder.0
unfolding IsStrictlySortedBy
name_in [] holder rises is_in = absurd is_in
name_in (first ∷ holders) holder rises (inl e) = let this : nat_eq first.1 holder.1 ≡ true = eq-eqb first.1 holder.1 (ap number e) in rw this (ap (λ (h : List ℕ × ℕ). h.0) e)
name_in (first ∷ holders) holder rises (inr later) =
    let lower : nat_cmp first.1 holder.1 ≡ Less = all_in (λ l. nat_cmp first.1 l ≡ Less) number holders holder rises.0 later in
    let other : nat_eq first.1 holder.1 ≡ false = same_other first.1 holder.1 lower in
    rw other (name_in holders holder rises.1 later)
  where
    same_other : (a b : ℕ) → nat_cmp a b ≡ Less → nat_eq a b ≡ false
    same_other a b e = eq_turned a b ∙ (same_number a b ∙ ap is_eq e)
      where
        eq_turned : (a b : ℕ) → nat_eq a b ≡ nat_eq b a
        eq_turned a b = nat_eq_equiv.symm a b

-- a new holder changes no other's name
name_push_other : (holders : Holders) (holder : List ℕ × ℕ) (actor : ℕ) → holder.1 ≢ actor → text_of_number (holders ++ holder ∷ []) actor ≡ text_of_number holders actor
name_push_other [] holder actor apart = rw (other_number holder.1 actor apart) refl
name_push_other (first ∷ holders) holder actor apart = ap (λ (rest : List ℕ). cond (nat_eq first.1 actor) first.0 rest) (name_push_other holders holder actor apart)

name_push : (holders : Holders) (name : List ℕ) (actor : ℕ) → All (λ (h : List ℕ × ℕ). h.1 < actor) holders → text_of_number (holders ++ (name, actor) ∷ []) actor ≡ name
name_push [] name actor above = rw (eq-eqb actor actor refl) refl
name_push (first ∷ holders) name actor above =
    let P : List ℕ × ℕ → Type 0 = λ h. h.1 < actor in
    let lower : first.1 < actor = All-head P first holders above in
    rw (other_number first.1 actor (λ same. omega arith)) (name_push holders name actor (All-tail P first holders above))

name_filter : (holders : Holders) (gone actor : ℕ) → gone ≢ actor → text_of_number (without_holder holders gone) actor ≡ text_of_number holders actor
name_filter [] gone actor apart = refl
name_filter (first ∷ holders) gone actor apart = cases (name_filter holders gone actor apart) (nat_eq first.1 gone) refl
  where
    cases : text_of_number (without_holder holders gone) actor ≡ text_of_number holders actor → (b : Bool) → nat_eq first.1 gone ≡ b
        → text_of_number (cond (not b) (first ∷ without_holder holders gone) (without_holder holders gone)) actor ≡ text_of_number (first ∷ holders) actor
    cases rest true e =
        let other : nat_eq first.1 actor ≡ false = other_number first.1 actor (λ same. apart (sym (eqb-true first.1 gone e) ∙ same)) in
        rw other rest
    cases rest false e = ap (λ (tail : List ℕ). cond (nat_eq first.1 actor) first.0 tail) rest

-- ---- the holder of a name

holder_in : (holders : Holders) (name : List ℕ) (actor : ℕ) → IsIn (name, actor) holders → holder_of name holders ≡ None → ⊥
holder_in [] name actor is_in none = absurd is_in
holder_in (first ∷ holders) name actor (inl e) none =
    let this : bytes_eq name first.0 ≡ true = ap (bytes_eq name) (ap (λ (h : List ℕ × ℕ). h.0) e) ∙ same_bytes name in
    let found : holder_of name (first ∷ holders) ≡ Some first.1 = rw this refl in
    none_is_some (sym none ∙ found)
holder_in (first ∷ holders) name actor (inr later) none = cases (holder_in holders name actor later) (bytes_eq name first.0) none
  where
    cases : (holder_of name holders ≡ None → ⊥) → (b : Bool) → cond b (Some first.1) (holder_of name holders) ≡ None → ⊥
    cases rest true e = none_is_some (sym e)
    cases rest false e = rest e

-- a name that one actor alone holds
holder_alone : (holders : Holders) (name : List ℕ) (actor : ℕ) → IsIn (name, actor) holders → ((b : ℕ) → IsIn (name, b) holders → b ≡ actor) → holder_of name holders ≡ Some actor
holder_alone [] name actor is_in alone = absurd is_in
holder_alone (first ∷ holders) name actor is_in alone =
    cases (λ later. holder_alone holders name actor later (λ b b_later. alone b (inr b_later))) (bytes_eq name first.0) refl is_in
  where
    cases : (IsIn (name, actor) holders → holder_of name holders ≡ Some actor) → (b : Bool) → bytes_eq name first.0 ≡ b → IsIn (name, actor) (first ∷ holders)
        → cond b (Some first.1) (holder_of name holders) ≡ Some actor
    cases rest true e here =
        let same : first ≡ (name, first.1) = ap (λ (k : List ℕ). (k, first.1)) (sym ((bytes_eq-Decides name first.0).0 e)) in
        ap Some (alone first.1 (inl same))
    cases rest false e (inl same) = absurd (not_both (ap (bytes_eq name) (ap (λ (h : List ℕ × ℕ). h.0) same) ∙ same_bytes name) e)
    cases rest false e (inr later) = rest later

no_holder : (holders : Holders) (name : List ℕ) → ((b : ℕ) → IsIn (name, b) holders → ⊥) → holder_of name holders ≡ None
no_holder [] name nobody = refl
no_holder (first ∷ holders) name nobody = cases (no_holder holders name (λ b later. nobody b (inr later))) (bytes_eq name first.0) refl
  where
    cases : holder_of name holders ≡ None → (b : Bool) → bytes_eq name first.0 ≡ b → cond b (Some first.1) (holder_of name holders) ≡ None
    cases rest true e =
        let same : first ≡ (name, first.1) = ap (λ (k : List ℕ). (k, first.1)) (sym ((bytes_eq-Decides name first.0).0 e)) in
        absurd (nobody first.1 (inl same))
    cases rest false e = rest

-- ---- places in the index

pub at_key : {X K : Type 0} {R : K → K → Ordering} → ((k l : K) → R k l ≡ Equal → k ≡ l) → (f : X → K) (xs : List X) (k : K) (i : ℕ) (d : X) → IsAt R k i (map f xs)
    → IsIn (get_or xs i d) xs × (f (get_or xs i d) ≡ k)
at_key same f [] k i d at = absurd at
at_key same f (x ∷ xs) k zero d at = (inl refl, sym (same k (f x) at.0))
at_key same f (x ∷ xs) k (suc i) d at = let rest = at_key same f xs k i d at.1 in (inr rest.0, rest.1)

pub equal_numbers : (k l : ℕ) → nat_cmp k l ≡ Equal → k ≡ l
equal_numbers k l e = ranked k l Equal (sym e)

not_in_gap : {X : Type 0} (f : X → List ℕ) (xs : List X) (name : List ℕ) (i : ℕ) (x : X) → IsAbsentAt key_cmp name i (map f xs) → IsIn x xs → f x ≡ name → ⊥
not_in_gap f xs name zero x gap is_in e =
    let lower : key_cmp name (f x) ≡ Less = all_in (λ l. key_cmp name l ≡ Less) f xs x gap is_in in
    let tied : key_cmp name (f x) ≡ Equal = ap (key_cmp name) e ∙ tied_itself nat_list_cmp_total name in
    cc
not_in_gap f [] name (suc i) x gap is_in e = absurd is_in
not_in_gap f (y ∷ xs) name (suc i) x gap (inl same) e =
    let tied : key_cmp name (f y) ≡ Equal = ap (key_cmp name) (ap f same ∙ e) ∙ tied_itself nat_list_cmp_total name in
    let above : key_cmp name (f y) ≡ Greater = gap.0 in
    cc
not_in_gap f (y ∷ xs) name (suc i) x gap (inr later) e = not_in_gap f xs name i x gap.1 later e

-- what stands at an actor's place is a pair of its name
pub holds_at : (holders : Holders) (name : List ℕ) (actor place : ℕ) → IsAt nat_cmp actor place (map number holders) → text_of_number holders actor ≡ name → IsIn (name, actor) holders
holds_at holders name actor place here name_is =
    let entry = at_key equal_numbers number holders actor place (name, actor) here in
    let named : text_of_number holders actor ≡ (get_or holders place (name, actor)).0 = name_at holders actor place (name, actor) here in
    let first = get_or holders place (name, actor) in
    let this : IsIn (name, first.1) holders = subst (λ (k : List ℕ). IsIn (k, (get_or holders place (name, actor)).1) holders) (sym named ∙ name_is) entry.0 in
    subst (λ (n : ℕ). IsIn (name, n) holders) entry.1 this

module _ (holders : Holders) (by_name : List ℕ) (index : IsKeyIndex holders by_name) where
  -- one name has one holder
  pub one_holder : (name : List ℕ) (a b : ℕ) → IsIn (name, a) holders → IsIn (name, b) holders → a ≡ b
  one_holder name a b a_in b_in =
      same_key_same (text_of_number holders) by_name a b index.keys_rise (index.has_each (name, a) a_in) (index.has_each (name, b) b_in)
      (name_in holders (name, a) index.numbers_rise a_in ∙ sym (name_in holders (name, b) index.numbers_rise b_in))

  pub held_at : (name : List ℕ) (rank : ℕ) (d : ℕ) → IsAt key_cmp name rank (map (text_of_number holders) by_name) → holder_of name holders ≡ Some (get_or by_name rank d)
  held_at name rank d at =
      let entry = at_key equal_bytes (text_of_number holders) by_name name rank d at in
      let actor = get_or by_name rank d in
      let held : IsIn (name, actor) holders = subst (λ (k : List ℕ). IsIn (k, get_or by_name rank d) holders) entry.1 (index.has_only actor entry.0) in
      holder_alone holders name actor held (λ b b_in. one_holder name b actor b_in held)

  pub nobody_at : (name : List ℕ) (rank : ℕ) → IsAbsentAt key_cmp name rank (map (text_of_number holders) by_name) → holder_of name holders ≡ None
  nobody_at name rank gap =
      no_holder holders name (λ b b_in. not_in_gap (text_of_number holders) by_name name rank b gap (index.has_each (name, b) b_in) (name_in holders (name, b) index.numbers_rise b_in))

  -- a name that is held stands in the index
  pub stands : (name : List ℕ) (rank : ℕ) (actor : ℕ) → IsIn (name, actor) holders → IsAbsentAt key_cmp name rank (map (text_of_number holders) by_name) → ⊥
  stands name rank actor is_in gap = holder_in holders name actor is_in (nobody_at name rank gap)

  module _ (name : List ℕ) (actor : ℕ) (above : All (λ (h : List ℕ × ℕ). h.1 < actor) holders) (rank : ℕ) (gap : IsAbsentAt key_cmp name rank (map (text_of_number holders) by_name)) where
    abbrev more : Holders
    more = holders ++ (name, actor) ∷ []

    old_name : (b : ℕ) → IsIn b by_name → text_of_number more b ≡ text_of_number holders b
    old_name b b_in =
        let lower : b < actor = above_in actor number holders (text_of_number holders b, b) above (index.has_only b b_in) in
        name_push_other holders (name, actor) b (λ same. omega arith)

    pub index_hold : IsKeyIndex more (insert by_name rank actor)
    index_hold =
        let alike : map (text_of_number more) by_name ≡ map (text_of_number holders) by_name = same_map (text_of_number more) (text_of_number holders) by_name old_name in
        let new : text_of_number more actor ≡ name = name_push holders name actor above in
        let gap_more : IsAbsentAt key_cmp (text_of_number more actor) rank (map (text_of_number more) by_name) = rw (new, alike) gap in
        let rises_more : RisesBy key_cmp (text_of_number more) by_name = subst (IsStrictlySortedBy key_cmp) (sym alike) index.keys_rise in
        record {
          numbers_rise = rises_push nat_cmp_total number holders (name, actor) index.numbers_rise (all_above holders above);
          keys_rise = rises_insert nat_list_cmp_total (text_of_number more) by_name rank actor rises_more gap_more;
          has_each = λ holder is_in. elim (from_push holders (name, actor) holder is_in) [
            | inl old ↦ in_insert by_name rank actor holder.1 (index.has_each holder old)
            | inr this ↦ subst (λ (h : List ℕ × ℕ). IsIn h.1 (insert by_name rank actor)) this (in_insert_new by_name rank actor)
          ];
          has_only = λ b is_in. elim (from_insert by_name rank actor b is_in) [
            | inl old ↦ rw (old_name b old) (in_push holders (name, actor) (text_of_number holders b, b) (index.has_only b old))
            | inr this ↦ subst (λ (n : ℕ). IsIn (text_of_number more n, n) more) this (rw new (in_push_last holders (name, actor)))
          ];
        }
      where
        all_above : (hs : Holders) → All (λ (h : List ℕ × ℕ). h.1 < actor) hs → AllByRecursion (λ l. nat_cmp l actor ≡ Less) (map number hs)
        all_above [] above = tt
        all_above (h ∷ hs) above =
            let P : List ℕ × ℕ → Type 0 = λ h. h.1 < actor in
            (less h.1 actor (All-head P h hs above), all_above hs (All-tail P h hs above))

  module _ (name : List ℕ) (actor rank : ℕ) (holds : IsIn (name, actor) holders) where
    name_is : text_of_number holders actor ≡ name
    name_is = name_in holders (name, actor) index.numbers_rise holds

    is_other : ℕ → Bool
    is_other b = not (bytes_eq name (text_of_number holders b))

    apart : (b : ℕ) → is_other b ≡ true → actor ≢ b
    unfolding is_other
    apart b other same =
        let equal : bytes_eq name (text_of_number holders b) ≡ true = ap (λ (n : ℕ). bytes_eq name (text_of_number holders n)) (sym same) ∙ (ap (bytes_eq name) name_is ∙ same_bytes name) in
        not_both other (ap not equal)

    new_name : (b : ℕ) → IsIn b (filter is_other by_name) → text_of_number (without_holder holders actor) b ≡ text_of_number holders b
    new_name b b_in = name_filter holders actor b (apart b (from_filter is_other by_name b b_in).1)

    differs : (b : ℕ) → IsIn b by_name → nat_eq b actor ≡ false → is_other b ≡ true
    unfolding is_other
    differs b b_in other = cases (bytes_eq name (text_of_number holders b)) refl
      where
        cases : (t : Bool) → bytes_eq name (text_of_number holders b) ≡ t → not t ≡ true
        cases false e = refl
        cases true e =
            let named : text_of_number holders b ≡ text_of_number holders actor = sym ((bytes_eq-Decides name (text_of_number holders b)).0 e) ∙ sym name_is in
            let same : b ≡ actor = same_key_same (text_of_number holders) by_name b actor index.keys_rise b_in (index.has_each (name, actor) holds) named in
            absurd (not_both (eq-eqb b actor same) other)

    not_gone : (t : Bool) → not t ≡ true → t ≡ false
    not_gone false e = refl
    not_gone true e = sym e

    kept : IsKeyIndex (without_holder holders actor) (filter is_other by_name)
    kept =
        let alike : map (text_of_number (without_holder holders actor)) (filter is_other by_name) ≡ map (text_of_number holders) (filter is_other by_name) =
        same_map (text_of_number (without_holder holders actor)) (text_of_number holders) (filter is_other by_name) new_name in
        let rises : RisesBy key_cmp (text_of_number holders) (filter is_other by_name) = rises_filter nat_list_cmp_total (text_of_number holders) is_other by_name index.keys_rise in
        record {
          numbers_rise = rises_filter nat_cmp_total number (λ h. not (nat_eq h.1 actor)) holders index.numbers_rise;
          keys_rise = subst (IsStrictlySortedBy key_cmp) (sym alike) rises;
          has_each = λ holder is_in.
              let old = from_filter (λ (h : List ℕ × ℕ). not (nat_eq h.1 actor)) holders holder is_in in
              let b_in : IsIn holder.1 by_name = index.has_each holder old.0 in
              in_filter is_other by_name holder.1 b_in (differs holder.1 b_in (not_gone (nat_eq holder.1 actor) old.1));
          has_only = λ b is_in.
              let old = from_filter is_other by_name b is_in in
              let other : nat_eq b actor ≡ false = other_number b actor (λ same. apart b old.1 (sym same)) in
              rw (new_name b is_in) (in_filter (λ (h : List ℕ × ℕ). not (nat_eq h.1 actor)) holders (text_of_number holders b, b) (index.has_only b old.0) (ap not other));
        }

    pub index_free : IsAt key_cmp name rank (map (text_of_number holders) by_name) → IsKeyIndex (without_holder holders actor) (remove by_name rank)
    unfolding is_other
    index_free at =
        let removed : remove by_name rank ≡ filter is_other by_name =
        removed_at nat_list_cmp_total (text_of_number holders) name (λ (b : ℕ). bytes_eq name (text_of_number holders b)) (λ b. sym (is_eq-slice_cmp name (text_of_number holders b))) by_name rank at in
        rw removed kept

pub holders_removed : (holders : Holders) (actor place : ℕ) → IsAt nat_cmp actor place (map number holders) → remove holders place ≡ without_holder holders actor
holders_removed holders actor place at = removed_at nat_cmp_total number actor (λ (h : List ℕ × ℕ). nat_eq h.1 actor) (λ h. same_number actor h.1) holders place at

pub holders_kept : (holders : Holders) (actor place : ℕ) → IsAbsentAt nat_cmp actor place (map number holders) → holders ≡ without_holder holders actor
holders_kept holders actor place gap = sym (kept_gap nat_cmp_total number actor (λ (h : List ℕ × ℕ). nat_eq h.1 actor) (λ h. same_number actor h.1) holders place gap)

pub index_empty : IsKeyIndex [] []
unfolding IsStrictlySortedBy
index_empty = record {
  numbers_rise = tt;
  keys_rise = tt;
  has_each = λ holder nowhere. absurd nowhere;
  has_only = λ b nowhere. absurd nowhere;
}

-- ---- room that was made

pub has_room : {T E : Type 0} (r : Result T E) (len capacity : ℕ) → is_err r ≡ false → OnOk r (len + 1 ≤ capacity) → len < capacity
has_room (Ok x) len capacity e room = omega (arith, room)
has_room (Err y) len capacity e room = absurd (not_both refl e)
