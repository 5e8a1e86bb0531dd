-- What a search by halves finds among sorted pairs, and what a put at that place does.
use Rattle.std.proofs.Common.{unwrap_or, add-one, ◌≡◌, ℕ, zero, suc, ◌<◌, ◌≤◌, true, false, List, [], ◌∷◌, length, get_or, take, drop, slice_get, slice_set, Option, Some, None, Result, Ok, Err, IfOk, IfErr, bytes_eq, refl, sym, ap, ◌∙◌, subst, arith}
use Rattle.std.specs.declared.cmp.Ordering.{Ordering}
use Rattle.std.specs.declared.cmp.Ordering.TheVariants.{Less, Equal, Greater}
use Rattle.std.specs.Ordering.{match_ordering, ordering_reverse, is_lt, is_eq}
use Rattle.std.specs.List.{AllByRecursion, insert}
use Rattle.std.specs.List.Sorted.{IsStrictlySortedBy, IsSortedBy, IsSearchInRange, IsBinarySearchResult}
use Rattle.std.specs.Map.{keys_of}
use Rattle.std.proofs.lemmas.Cmp.{nat_list_cmp_total, tied_itself}
use Rattle.std.proofs.lemmas.Map.Text.{is_eq-slice_cmp}
use Rattle.std.proofs.lemmas.Slice.Eq.{bytes_eq-Decides}
use Rattle.std.proofs.lemmas.List.Sorted.{searchable_from_sorted}
use Rattle.xs_model.specs.Rising.{key_cmp, KeysRise, put, get, HoldsKeyAt, HasGapAt}

abbrev Pairs : Type 0 → Type 0
Pairs X = List (List ℕ × X)

-- ---- the order of keys

none_is_some : {X : Type 0} {x : X} → ◌≡◌ {A = Option X} None (Some x) → ⊥
none_is_some e = cc

turned : (k l : List ℕ) (o : Ordering) → key_cmp l k ≡ o → key_cmp k l ≡ ordering_reverse o
turned k l o e = nat_list_cmp_total.antisymm k l ∙ ap ordering_reverse e

pub same_key : (k l : List ℕ) → key_cmp k l ≡ Equal → k ≡ l
same_key k l e = (bytes_eq-Decides k l).0 (sym (is_eq-slice_cmp k l) ∙ ap is_eq e)

pub differs : (k l : List ℕ) (o : Ordering) → key_cmp k l ≡ o → is_eq o ≡ false → bytes_eq k l ≡ false
differs k l o e other = sym (is_eq-slice_cmp k l) ∙ ap is_eq e ∙ other

pub same_bytes : (k : List ℕ) → bytes_eq k k ≡ true
same_bytes k = (bytes_eq-Decides k k).1 refl

module _ {X : Type 0} where
  first_of : {p q : List ℕ × X} → ◌≡◌ {A = Option (List ℕ × X)} (Some p) (Some q) → p ≡ q
  first_of {p} e = ap (λ o. unwrap_or o p) e

  -- ---- puts

  -- what holds of each key holds of the key at a place
  at_place : (P : List ℕ → Type 0) (pairs : Pairs X) (place : ℕ) (p : List ℕ × X) → AllByRecursion P (keys_of pairs) → slice_get pairs place ≡ Some p → P p.0
  at_place P [] place p all e = absurd (none_is_some e)
  at_place P (q ∷ pairs) zero p all e = subst (λ (r : List ℕ × X). P r.0) (first_of e) all.0
  at_place P (q ∷ pairs) (suc place) p all e = at_place P pairs place p all.1 e

  pub put_held : (pairs : Pairs X) (place : ℕ) (key : List ℕ) (x y : X) → KeysRise pairs → slice_get pairs place ≡ Some (key, y) → slice_set pairs place (key, x) ≡ put pairs key x
  unfolding IsStrictlySortedBy
  put_held [] place key x y rise e = absurd (none_is_some e)
  put_held (p ∷ pairs) zero key x y rise e =
      let same : p.0 ≡ key = ap (λ (r : List ℕ × X). r.0) (first_of e) in
      rw (same, tied_itself nat_list_cmp_total key) refl
  put_held (p ∷ pairs) (suc place) key x y rise e =
      let above : key_cmp key p.0 ≡ Greater = turned key p.0 Less (at_place (λ k. key_cmp p.0 k ≡ Less) pairs place (key, y) rise.0 e) in
      rw above (ap (λ rest. p ∷ rest) (put_held pairs place key x y rise.1 e))

  pub put_gap : (pairs : Pairs X) (place : ℕ) (key : List ℕ) (x : X) → HasGapAt key place pairs → insert pairs place (key, x) ≡ put pairs key x
  put_gap [] zero key x gap = refl
  put_gap [] (suc place) key x gap = refl
  put_gap (p ∷ pairs) zero key x gap = rw gap.below.0 refl
  put_gap (p ∷ pairs) (suc place) key x gap =
      rw gap.above.0 (ap (λ rest. p ∷ rest) (put_gap pairs place key x (record { within = omega (arith, gap.within); above = gap.above.1; below = gap.below })))

  all_put : (P : List ℕ → Type 0) (pairs : Pairs X) (key : List ℕ) (x : X) → AllByRecursion P (keys_of pairs) → P key → AllByRecursion P (keys_of (put pairs key x))
  all_put P [] key x all holds = (holds, tt)
  all_put P (p ∷ pairs) key x all holds = cases (all_put P pairs key x all.1 holds) (key_cmp key p.0)
    where
      cases : AllByRecursion P (keys_of (put pairs key x)) → (o : Ordering) → AllByRecursion P (keys_of (match_ordering o ((key, x) ∷ p ∷ pairs) ((p.0, x) ∷ pairs) (p ∷ put pairs key x)))
      cases rest Less = (holds, all)
      cases rest Equal = all
      cases rest Greater = (all.0, rest)

  below_all : (key : List ℕ) (k : List ℕ) (pairs : Pairs X) → key_cmp key k ≡ Less → AllByRecursion (λ l. key_cmp k l ≡ Less) (keys_of pairs) → AllByRecursion (λ l. key_cmp key l ≡ Less) (keys_of pairs)
  below_all key k [] less all = tt
  below_all key k (p ∷ pairs) less all = (nat_list_cmp_total.trans key k p.0 less all.0, below_all key k pairs less all.1)

  pub rises_put : (pairs : Pairs X) (key : List ℕ) (x : X) → KeysRise pairs → KeysRise (put pairs key x)
  unfolding IsStrictlySortedBy
  rises_put [] key x rise = (tt, tt)
  rises_put (p ∷ pairs) key x rise = cases (rises_put pairs key x rise.1) (key_cmp key p.0) refl
    where
      cases : KeysRise (put pairs key x) → (o : Ordering) → key_cmp key p.0 ≡ o → KeysRise (match_ordering o ((key, x) ∷ p ∷ pairs) ((p.0, x) ∷ pairs) (p ∷ put pairs key x))
      cases rest Less less = ((less, below_all key p.0 pairs less rise.0), rise)
      cases rest Equal same = rise
      cases rest Greater above = (all_put (λ k. key_cmp p.0 k ≡ Less) pairs key x rise.0 (turned p.0 key Greater above), rest)

  -- ---- look-ups

  pub get_held : (pairs : Pairs X) (place : ℕ) (key : List ℕ) (x : X) → KeysRise pairs → slice_get pairs place ≡ Some (key, x) → get key pairs ≡ Some x
  unfolding IsStrictlySortedBy
  get_held [] place key x rise e = absurd (none_is_some e)
  get_held (p ∷ pairs) zero key x rise e =
      let same : p ≡ (key, x) = first_of e in
      rw (same, same_bytes key) refl
  get_held (p ∷ pairs) (suc place) key x rise e =
      let above : key_cmp key p.0 ≡ Greater = turned key p.0 Less (at_place (λ k. key_cmp p.0 k ≡ Less) pairs place (key, x) rise.0 e) in
      let other : bytes_eq key p.0 ≡ false = differs key p.0 Greater above refl in
      rw other (get_held pairs place key x rise.1 e)

  pub get_gap : (pairs : Pairs X) (place : ℕ) (key : List ℕ) → HasGapAt key place pairs → get key pairs ≡ None
  get_gap [] place key gap = refl
  get_gap (p ∷ pairs) zero key gap =
      let other : bytes_eq key p.0 ≡ false = differs key p.0 Less gap.below.0 refl in
      rw other (get_gap pairs zero key (record { within = omega arith; above = tt; below = gap.below.1 }))
  get_gap (p ∷ pairs) (suc place) key gap =
      let other : bytes_eq key p.0 ≡ false = differs key p.0 Greater gap.above.0 refl in
      rw other (get_gap pairs place key (record { within = omega (arith, gap.within); above = gap.above.1; below = gap.below }))

  -- ---- the search

  adjacent : (pairs : Pairs X) → KeysRise pairs → (k : ℕ) (d : List ℕ × X) → suc k < length pairs → is_lt (key_cmp (get_or pairs (suc k) d).0 (get_or pairs k d).0) ≡ false
  unfolding IsStrictlySortedBy
  adjacent [] rise k d within = absurd (omega arith)
  adjacent (p ∷ []) rise k d within = absurd (omega arith)
  adjacent (p ∷ q ∷ pairs) rise zero d within = rw (turned q.0 p.0 Less rise.0.0) refl
  adjacent (p ∷ q ∷ pairs) rise (suc k) d within = adjacent (q ∷ pairs) rise.1 k d (omega arith)

  held_at : (pairs : Pairs X) (place : ℕ) (key : List ℕ) → place < length pairs → ((d : List ℕ × X) → key_cmp (get_or pairs place d).0 key ≡ Equal) → HoldsKeyAt key place pairs
  held_at [] place key within equal = absurd (omega arith)
  held_at (p ∷ pairs) zero key within equal = (p.1, ap (λ k. Some (k, p.1)) (same_key p.0 key (equal p)))
  held_at (p ∷ pairs) (suc place) key within equal = held_at pairs place key (omega arith) equal

  above_from : (pairs : Pairs X) (place : ℕ) (key : List ℕ) → place ≤ length pairs → ((k : ℕ) (d : List ℕ × X) → k < place → key_cmp (get_or pairs k d).0 key ≡ Less)
      → AllByRecursion (λ k. key_cmp key k ≡ Greater) (keys_of (take place pairs))
  above_from [] zero key within less = tt
  above_from [] (suc place) key within less = tt
  above_from (p ∷ pairs) zero key within less = tt
  above_from (p ∷ pairs) (suc place) key within less =
      (turned key p.0 Less (less 0 p (omega arith)), above_from pairs place key (omega arith) (λ k d before. less (suc k) d (omega arith)))

  below_from : (pairs : Pairs X) (place : ℕ) (key : List ℕ) → ((k : ℕ) (d : List ℕ × X) → place ≤ k → k < length pairs → key_cmp (get_or pairs k d).0 key ≡ Greater)
      → AllByRecursion (λ k. key_cmp key k ≡ Less) (keys_of (drop place pairs))
  below_from [] zero key greater = tt
  below_from [] (suc place) key greater = tt
  below_from (p ∷ pairs) zero key greater =
      (turned key p.0 Greater (greater 0 p (omega arith) (omega arith)), below_from pairs zero key (λ k d after within. greater (suc k) d (omega arith) (omega arith)))
  below_from (p ∷ pairs) (suc place) key greater = below_from pairs place key (λ k d after within. greater (suc k) d (omega arith) (omega arith))

  pub searched : (pairs : Pairs X) (key : List ℕ) (r : Result ℕ ℕ) → KeysRise pairs → IsSearchInRange r (length pairs) → IsBinarySearchResult (λ p. key_cmp p.0 key) pairs r
      → IfOk r (λ place. HoldsKeyAt key place pairs) × IfErr r (λ place. HasGapAt key place pairs)
  searched pairs key (Ok place) rise within equal = (held_at pairs place key within equal, tt)
  searched pairs key (Err place) rise within parted =
      let sorted : IsSortedBy (λ a b. is_lt (key_cmp a.0 b.0)) pairs = λ k d low high. rw add-one (adjacent pairs rise k d (omega (arith, high))) in
      let parts = parted (searchable_from_sorted nat_list_cmp_total (λ p. p.0) pairs key sorted) in (
        tt,
        record {
          within = within;
          above = above_from pairs place key within (λ k d before. parts.0 k d (omega arith) before);
          below = below_from pairs place key (λ k d after inside. parts.1 k d after inside);
        },
      )

  -- what an index reads at a place is what is held there
  pub read_at : (pairs : Pairs X) (place : ℕ) (p q : List ℕ × X) → slice_get pairs place ≡ Some p → q ≡ get_or pairs place q → q ≡ p
  read_at [] place p q held read = absurd (none_is_some held)
  read_at (r ∷ pairs) zero p q held read = read ∙ first_of held
  read_at (r ∷ pairs) (suc place) p q held read = read_at pairs place p q held read
