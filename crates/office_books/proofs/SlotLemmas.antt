-- Places for items: what is found in them, and what an edit leaves.
use Rattle.std.proofs.Common.{◌≡◌, ℕ, zero, suc, ◌+◌, ◌-◌, ◌<◌, ◌≤◌, Bool, true, false, cond, not, List, [], ◌∷◌, ◌++◌, length, get_or, set, take, map, filter, nat_eq, Option, Some, None, refl, sym, ap, ◌∙◌, subst, inl, inr, arith}
use Rattle.std.specs.declared.cmp.Ordering.TheVariants.{Less, Equal, Greater}
use Rattle.std.specs.Ordering.{nat_cmp}
use Rattle.std.specs.List.{All, AllByRecursion, cons_option}
use Rattle.std.specs.List.Sorted.{IsStrictlySortedBy}
use Rattle.std.specs.Option.{is_some, option_map}
use Rattle.std.proofs.lemmas.Bool.{eq-eqb}
use Rattle.std.proofs.lemmas.Cmp.{nat_cmp_total, ranked}
use Rattle.std.proofs.lemmas.List.Elements.{All-head, All-tail}
use Rattle.office_books.specs.NumberedItems.{numbered_item, NumbersRise, with_numbered_item, without_numbered_item}
use Rattle.office_books.specs.Slots.{AreSlots, BeginsAt, HoldsItem, in_slots, SlotsRise, with_slot_item}
use Rattle.office_books.specs.Sorted.{IsAt, IsAbsentAt}
use Rattle.office_books.specs.declared.slots.Slot.{Slot}
use Rattle.office_books.proofs.ItemLemmas.{less}
use Rattle.office_books.proofs.KeyIndexLemmas.{other_number}
use Rattle.office_books.proofs.SortedLemmas.{rises_filter, rises_push}

below : (a b : ℕ) → nat_cmp a b ≡ Less → a < b
below a b e = ranked a b Less (sym e)

above : (a b : ℕ) → nat_cmp a b ≡ Greater → b < a
above a b e = ranked a b Greater (sym e)

same : (a b : ℕ) → nat_cmp a b ≡ Equal → a ≡ b
same a b e = ranked a b Equal (sym e)

module _ {X : Type 0} where
  abbrev number_of : Slot X → ℕ
  number_of slot = slot.number

  -- an item, if there is one, with its number
  abbrev pair : ℕ → Option X → Option (ℕ × X)
  pair number item = option_map (λ (x : X). (number, x)) item

  -- an empty place of this number
  abbrev pub empty : ℕ → Slot X
  empty number = record { number = number; item = None }

  -- a place of this number with this item
  abbrev pub full : ℕ → X → Slot X
  full number item = record { number = number; item = Some item }

  pub count_within : (slots : List (Slot X)) → length (in_slots slots) ≤ length slots
  count_within [] = omega arith
  count_within (slot ∷ slots) = cases slot.item (count_within slots)
    where
      cases : (t : Option X) → length (in_slots slots) ≤ length slots → length (cons_option (pair slot.number t) (in_slots slots)) ≤ length (slot ∷ slots)
      cases None rest = omega arith
      cases (Some t) rest = omega arith

  -- the numbers of items are among those of places
  all_in_slots : (P : ℕ → Type 0) (slots : List (Slot X)) → AllByRecursion P (map number_of slots) → AllByRecursion P (map (λ (p : ℕ × X). p.0) (in_slots slots))
  all_in_slots P [] all = tt
  all_in_slots P (slot ∷ slots) all = cases slot.item (all_in_slots P slots all.1)
    where
      cases : (t : Option X) → AllByRecursion P (map (λ (p : ℕ × X). p.0) (in_slots slots)) → AllByRecursion P (map (λ (p : ℕ × X). p.0) (cons_option (pair slot.number t) (in_slots slots)))
      cases None rest = rest
      cases (Some t) rest = (all.0, rest)

  pub numbers_rise : (slots : List (Slot X)) → SlotsRise slots → NumbersRise (in_slots slots)
  unfolding IsStrictlySortedBy
  numbers_rise [] rise = tt
  numbers_rise (slot ∷ slots) rise = cases slot.item (numbers_rise slots rise.1)
    where
      cases : (t : Option X) → NumbersRise (in_slots slots) → NumbersRise (cons_option (pair slot.number t) (in_slots slots))
      cases None rest = rest
      cases (Some t) rest = (all_in_slots (λ l. nat_cmp slot.number l ≡ Less) slots rise.0, rest)

  -- ---- dropping the empty places

  abbrev pub is_filled : Slot X → Bool
  is_filled slot = is_some slot.item

  pub same_items : (slots : List (Slot X)) → in_slots (filter is_filled slots) ≡ in_slots slots
  same_items [] = refl
  same_items (slot ∷ slots) = cases (same_items slots) slot.item refl
    where
      cases : in_slots (filter is_filled slots) ≡ in_slots slots → (t : Option X) → slot.item ≡ t
          → in_slots (cond (is_some t) (slot ∷ filter is_filled slots) (filter is_filled slots)) ≡ cons_option (pair slot.number t) (in_slots slots)
      cases rest None e = rest
      cases rest (Some t) e = rw e (ap (λ l. (slot.number, t) ∷ l) rest)

  pub slots_filter : (slots : List (Slot X)) (filled : ℕ) → AreSlots slots filled → AreSlots (filter is_filled slots) filled
  slots_filter slots filled are = record {
    rise = rises_filter nat_cmp_total number_of is_filled slots are.rise;
    counted = are.counted ∙ sym (ap length (same_items slots));
  }

  -- ---- the item of a number

  skips : (number : ℕ) (slot : Slot X) (slots : List (Slot X)) → nat_eq slot.number number ≡ false → numbered_item number (in_slots (slot ∷ slots)) ≡ numbered_item number (in_slots slots)
  skips number slot slots other = cases slot.item
    where
      cases : (t : Option X) → numbered_item number (cons_option (pair slot.number t) (in_slots slots)) ≡ numbered_item number (in_slots slots)
      cases None = refl
      cases (Some t) = rw other refl

  none_below : (number : ℕ) (slots : List (Slot X)) → AllByRecursion (λ l. nat_cmp number l ≡ Less) (map number_of slots) → numbered_item number (in_slots slots) ≡ None
  none_below number [] all = refl
  none_below number (slot ∷ slots) all =
      let low : number < slot.number = below number slot.number all.0 in
      skips number slot slots (other_number slot.number number (λ e. omega arith)) ∙ none_below number slots all.1

  pub found_slot : (slots : List (Slot X)) (number place : ℕ) (d : Slot X) → IsAt nat_cmp number place (map number_of slots) → numbered_item number (in_slots slots) ≡ (get_or slots place d).item
  found_slot [] number place d at = absurd at
  found_slot (slot ∷ slots) number zero d at = cases slot.item
    where
      cases : (t : Option X) → numbered_item number (cons_option (pair slot.number t) (in_slots slots)) ≡ t
      cases None = none_below number slots at.1
      cases (Some t) = let this : nat_eq slot.number number ≡ true = eq-eqb slot.number number (sym (same number slot.number at.0)) in rw this refl
  found_slot (slot ∷ slots) number (suc place) d at =
      let high : slot.number < number = above number slot.number at.0 in
      skips number slot slots (other_number slot.number number (λ e. omega arith)) ∙ found_slot slots number place d at.1

  pub no_slot : (slots : List (Slot X)) (number place : ℕ) → IsAbsentAt nat_cmp number place (map number_of slots) → numbered_item number (in_slots slots) ≡ None
  no_slot slots number zero gap = none_below number slots gap
  no_slot [] number (suc place) gap = absurd gap
  no_slot (slot ∷ slots) number (suc place) gap =
      let high : slot.number < number = above number slot.number gap.0 in
      skips number slot slots (other_number slot.number number (λ e. omega arith)) ∙ no_slot slots number place gap.1

  pub none_there : (item : Option X) → is_some item ≡ false → item ≡ None
  none_there None e = refl
  none_there (Some t) e = absurd (cc)

  pub none_kept : (number : ℕ) (items : List (ℕ × X)) → numbered_item number items ≡ None → items ≡ without_numbered_item number items
  none_kept number [] = λ e. refl
  none_kept number (first ∷ items) = cases (none_kept number items) (nat_eq first.0 number)
    where
      cases : (numbered_item number items ≡ None → items ≡ without_numbered_item number items) → (b : Bool)
          → cond b (Some first.1) (numbered_item number items) ≡ None → first ∷ items ≡ cond (not b) (first ∷ without_numbered_item number items) (without_numbered_item number items)
      cases rest true e = absurd (cc)
      cases rest false e = ap (λ l. first ∷ l) (rest e)

  -- ---- emptying a place

  stays : (number : ℕ) (slot : Slot X) (slots : List (Slot X)) → nat_eq slot.number number ≡ false
      → without_numbered_item number (in_slots (slot ∷ slots)) ≡ cons_option (pair slot.number slot.item) (without_numbered_item number (in_slots slots))
  stays number slot slots other = cases slot.item
    where
      cases : (t : Option X) → without_numbered_item number (cons_option (pair slot.number t) (in_slots slots)) ≡ cons_option (pair slot.number t) (without_numbered_item number (in_slots slots))
      cases None = refl
      cases (Some t) = rw other refl

  kept_below : (number : ℕ) (slots : List (Slot X)) → AllByRecursion (λ l. nat_cmp number l ≡ Less) (map number_of slots) → in_slots slots ≡ without_numbered_item number (in_slots slots)
  kept_below number [] all = refl
  kept_below number (slot ∷ slots) all =
      let low : number < slot.number = below number slot.number all.0 in
      ap (cons_option (pair slot.number slot.item)) (kept_below number slots all.1) ∙ sym (stays number slot slots (other_number slot.number number (λ e. omega arith)))

  pub emptied : (slots : List (Slot X)) (number place there : ℕ) → IsAt nat_cmp number place (map number_of slots)
      → in_slots (set slots place (empty there)) ≡ without_numbered_item number (in_slots slots)
  emptied [] number place there at = absurd at
  emptied (slot ∷ slots) number zero there at = cases slot.item
    where
      cases : (t : Option X) → in_slots slots ≡ without_numbered_item number (cons_option (pair slot.number t) (in_slots slots))
      cases None = kept_below number slots at.1
      cases (Some t) =
          let this : nat_eq slot.number number ≡ true = eq-eqb slot.number number (sym (same number slot.number at.0)) in
          rw this (kept_below number slots at.1)
  emptied (slot ∷ slots) number (suc place) there at =
      let high : slot.number < number = above number slot.number at.0 in
      ap (cons_option (pair slot.number slot.item)) (emptied slots number place there at.1) ∙ sym (stays number slot slots (other_number slot.number number (λ e. omega arith)))

  -- a place that is written keeps its number
  same_numbers : (slots : List (Slot X)) (place : ℕ) (slot d : Slot X) → slot.number ≡ (get_or slots place d).number → map number_of (set slots place slot) ≡ map number_of slots
  same_numbers [] place slot d e = refl
  same_numbers (other ∷ slots) zero slot d e = ap (λ (n : ℕ). n ∷ map number_of slots) e
  same_numbers (other ∷ slots) (suc place) slot d e = ap (λ (l : List ℕ). other.number ∷ l) (same_numbers slots place slot d e)

  -- how many items a place has
  abbrev pub count_in : Slot X → ℕ
  count_in slot = cond (is_some slot.item) 1 0

  count_cons : (slot : Slot X) (items : List (ℕ × X)) → length (cons_option (pair slot.number slot.item) items) ≡ count_in slot + length items
  count_cons slot items = cases slot.item
    where
      cases : (t : Option X) → length (cons_option (pair slot.number t) items) ≡ cond (is_some t) 1 0 + length items
      cases None = omega arith
      cases (Some t) = omega arith

  count_set : (slots : List (Slot X)) (place : ℕ) (slot d : Slot X) → place < length slots
      → length (in_slots (set slots place slot)) + count_in (get_or slots place d) ≡ length (in_slots slots) + count_in slot
  count_set [] place slot d within = absurd (omega arith)
  count_set (other ∷ slots) zero slot d within = omega (arith, count_cons slot (in_slots slots), count_cons other (in_slots slots))
  count_set (other ∷ slots) (suc place) slot d within =
      omega (arith, count_set slots place slot d (omega arith), count_cons other (in_slots slots), count_cons other (in_slots (set slots place slot)))

  slots_set : (slots : List (Slot X)) (filled after place : ℕ) (slot d : Slot X) → AreSlots slots filled → place < length slots → slot.number ≡ (get_or slots place d).number
      → after + count_in (get_or slots place d) ≡ filled + count_in slot → AreSlots (set slots place slot) after
  slots_set slots filled after place slot d are within number count = record {
    rise = subst (IsStrictlySortedBy nat_cmp) (sym (same_numbers slots place slot d number)) are.rise;
    counted = omega (arith, count_set slots place slot d within, are.counted, count);
  }

  count_at : (slots : List (Slot X)) (place : ℕ) (d : Slot X) → place < length slots → count_in (get_or slots place d) ≤ length (in_slots slots)
  count_at slots place d within = omega (arith, count_set slots place (empty 0) d within)

  module _ (slots : List (Slot X)) (filled number place : ℕ) (are : AreSlots slots filled) (holds : HoldsItem number slots place) where
    one_here : (d : Slot X) → count_in (get_or slots place d) ≡ 1
    one_here d = ap (λ (b : Bool). cond b 1 0) (holds.filled d)

    pub some_filled : 1 ≤ filled
    some_filled = omega (arith, count_at slots place (empty 0) holds.within, are.counted, one_here (empty 0))

    pub slots_emptied : (there : Slot X) → there ≡ get_or slots place there → AreSlots (set slots place (empty there.number)) (filled - 1)
    slots_emptied there e =
        slots_set slots filled (filled - 1) place (empty there.number) there are holds.within (ap number_of e) (omega (arith, one_here there, some_filled))

  -- ---- writing an item

  passes : (number : ℕ) (slot : Slot X) (slots : List (Slot X)) (item : X) → nat_eq slot.number number ≡ false
      → with_numbered_item number item (in_slots (slot ∷ slots)) ≡ cons_option (pair slot.number slot.item) (with_numbered_item number item (in_slots slots))
  passes number slot slots item other = cases slot.item
    where
      cases : (t : Option X) → with_numbered_item number item (cons_option (pair slot.number t) (in_slots slots)) ≡ cons_option (pair slot.number t) (with_numbered_item number item (in_slots slots))
      cases None = refl
      cases (Some t) = rw other refl

  unchanged_below : (number : ℕ) (slots : List (Slot X)) (item : X) → AllByRecursion (λ l. nat_cmp number l ≡ Less) (map number_of slots) → in_slots slots ≡ with_numbered_item number item (in_slots slots)
  unchanged_below number [] item all = refl
  unchanged_below number (slot ∷ slots) item all =
      let low : number < slot.number = below number slot.number all.0 in
      ap (cons_option (pair slot.number slot.item)) (unchanged_below number slots item all.1) ∙ sym (passes number slot slots item (other_number slot.number number (λ e. omega arith)))

  refilled : (slots : List (Slot X)) (number place : ℕ) (d : Slot X) (item : X) → IsAt nat_cmp number place (map number_of slots) → is_some (get_or slots place d).item ≡ true
      → in_slots (set slots place (full (get_or slots place d).number item)) ≡ with_numbered_item number item (in_slots slots)
  refilled [] number place d item at some = absurd at
  refilled (slot ∷ slots) number zero d item at some = cases slot.item some
    where
      cases : (t : Option X) → is_some t ≡ true → (slot.number, item) ∷ in_slots slots ≡ with_numbered_item number item (cons_option (pair slot.number t) (in_slots slots))
      cases None e = absurd (cc)
      cases (Some t) e =
          let this : nat_eq slot.number number ≡ true = eq-eqb slot.number number (sym (same number slot.number at.0)) in
          rw this (ap (λ l. (slot.number, item) ∷ l) (unchanged_below number slots item at.1))
  refilled (slot ∷ slots) number (suc place) d item at some =
      let high : slot.number < number = above number slot.number at.0 in
      ap (cons_option (pair slot.number slot.item)) (refilled slots number place d item at.1 some) ∙ sym (passes number slot slots item (other_number slot.number number (λ e. omega arith)))

  module _ (slots : List (Slot X)) (place : ℕ) (slot d : Slot X) (there : slot ≡ get_or slots place d) (some : is_some slot.item ≡ true) (item : X) where
    pub items_refilled : (number : ℕ) → IsAt nat_cmp number place (map number_of slots) → in_slots (set slots place (with_slot_item slot item)) ≡ with_numbered_item number item (in_slots slots)
    items_refilled number at =
        let some_there : is_some (get_or slots place d).item ≡ true = ap (λ (s : Slot X). is_some s.item) (sym there) ∙ some in
        ap (λ (n : ℕ). in_slots (set slots place (full n item))) (ap number_of there) ∙ refilled slots number place d item at some_there

    pub slots_refilled : (filled : ℕ) → AreSlots slots filled → place < length slots → AreSlots (set slots place (with_slot_item slot item)) filled
    slots_refilled filled are within =
        let here : count_in (get_or slots place d) ≡ 1 = ap count_in (sym there) ∙ ap (λ (b : Bool). cond b 1 0) some in
        slots_set slots filled filled place (with_slot_item slot item) d are within (ap number_of there) (omega (arith, here))

  -- ---- a new item in the last place

  push_slot : (slots : List (Slot X)) (number : ℕ) (item : X) → in_slots (slots ++ full number item ∷ []) ≡ in_slots slots ++ (number, item) ∷ []
  push_slot [] number item = refl
  push_slot (other ∷ slots) number item = cases (push_slot slots number item) other.item
    where
      cases : in_slots (slots ++ full number item ∷ []) ≡ in_slots slots ++ (number, item) ∷ [] → (t : Option X)
          → cons_option (pair other.number t) (in_slots (slots ++ full number item ∷ [])) ≡ cons_option (pair other.number t) (in_slots slots) ++ (number, item) ∷ []
      cases rest None = rest
      cases rest (Some t) = ap (λ l. (other.number, t) ∷ l) rest

  length_push : (items : List (ℕ × X)) (p : ℕ × X) → length (items ++ p ∷ []) ≡ length items + 1
  length_push [] p = omega arith
  length_push (other ∷ items) p = omega (arith, length_push items p)

  abbrev Lower : ℕ → ℕ × X → Type 0
  Lower number p = p.0 < number

  -- where all that are there have lower numbers, the places of a number and above are empty
  all_empty : (number : ℕ) (slots : List (Slot X)) → AllByRecursion (λ l. nat_cmp number l ≡ Less) (map number_of slots) → All (Lower number) (in_slots slots) → in_slots slots ≡ []
  all_empty number [] all newer = refl
  all_empty number (slot ∷ slots) all newer = cases (λ n. all_empty number slots all.1 n) slot.item newer
    where
      cases : (All (Lower number) (in_slots slots) → in_slots slots ≡ []) → (t : Option X) → All (Lower number) (cons_option (pair slot.number t) (in_slots slots)) → cons_option (pair slot.number t) (in_slots slots) ≡ []
      cases rest None newer = rest newer
      cases rest (Some t) newer =
          let low : number < slot.number = below number slot.number all.0 in
          let lower : slot.number < number = All-head (Lower number) (slot.number, t) (in_slots slots) newer in
          absurd (omega arith)

  newer_rest : (number : ℕ) (slot : Slot X) (slots : List (Slot X)) → All (Lower number) (in_slots (slot ∷ slots)) → All (Lower number) (in_slots slots)
  newer_rest number slot slots newer = cases slot.item newer
    where
      cases : (t : Option X) → All (Lower number) (cons_option (pair slot.number t) (in_slots slots)) → All (Lower number) (in_slots slots)
      cases None newer = newer
      cases (Some t) newer = All-tail (Lower number) (slot.number, t) (in_slots slots) newer

  -- what is left before the places of a number that is above all that are there
  record IsBefore (number : ℕ) (slots left : List (Slot X)) : Type 0 where
    pub rise : SlotsRise left
    pub same_pairs : in_slots left ≡ in_slots slots
    pub lower : AllByRecursion (λ l. nat_cmp l number ≡ Less) (map number_of left)
    pub bounds : (n : ℕ) → AllByRecursion (λ l. nat_cmp n l ≡ Less) (map number_of slots) → AllByRecursion (λ l. nat_cmp n l ≡ Less) (map number_of left)

  nothing_left : (number : ℕ) (slots : List (Slot X)) → in_slots slots ≡ [] → IsBefore number slots []
  unfolding IsStrictlySortedBy
  nothing_left number slots e = record { rise = tt; same_pairs = sym e; lower = tt; bounds = λ n all. tt }

  one_more : (number : ℕ) (slot : Slot X) (slots left : List (Slot X)) → SlotsRise (slot ∷ slots) → slot.number < number → IsBefore number slots left → IsBefore number (slot ∷ slots) (slot ∷ left)
  unfolding IsStrictlySortedBy
  one_more number slot slots left rise low rest = record {
    rise = (rest.bounds slot.number rise.0, rest.rise);
    same_pairs = ap (cons_option (pair slot.number slot.item)) rest.same_pairs;
    lower = (less slot.number number low, rest.lower);
    bounds = λ n all. (all.0, rest.bounds n all.1);
  }

  rest_rises : (slot : Slot X) (slots : List (Slot X)) → SlotsRise (slot ∷ slots) → SlotsRise slots
  unfolding IsStrictlySortedBy
  rest_rises slot slots rise = rise.1

  before_at : (slots : List (Slot X)) (number place : ℕ) → SlotsRise slots → All (Lower number) (in_slots slots) → IsAt nat_cmp number place (map number_of slots) → IsBefore number slots (take place slots)
  before_at [] number place rise newer at = absurd at
  before_at (slot ∷ slots) number zero rise newer at = nothing_left number (slot ∷ slots) (cases slot.item newer)
    where
      cases : (t : Option X) → All (Lower number) (cons_option (pair slot.number t) (in_slots slots)) → cons_option (pair slot.number t) (in_slots slots) ≡ []
      cases None newer = all_empty number slots at.1 newer
      cases (Some t) newer =
          let equal : number ≡ slot.number = same number slot.number at.0 in
          let lower : slot.number < number = All-head (Lower number) (slot.number, t) (in_slots slots) newer in
          absurd (omega arith)
  before_at (slot ∷ slots) number (suc place) rise newer at =
      one_more number slot slots (take place slots) rise (above number slot.number at.0)
      (before_at slots number place (rest_rises slot slots rise) (newer_rest number slot slots newer) at.1)

  before_gap : (slots : List (Slot X)) (number place : ℕ) → SlotsRise slots → All (Lower number) (in_slots slots) → IsAbsentAt nat_cmp number place (map number_of slots) → IsBefore number slots (take place slots)
  before_gap slots number zero rise newer gap = nothing_left number slots (all_empty number slots gap newer)
  before_gap [] number (suc place) rise newer gap = absurd gap
  before_gap (slot ∷ slots) number (suc place) rise newer gap =
      one_more number slot slots (take place slots) rise (above number slot.number gap.0)
      (before_gap slots number place (rest_rises slot slots rise) (newer_rest number slot slots newer) gap.1)

  module _ (slots : List (Slot X)) (filled : ℕ) (are : AreSlots slots filled) (number : ℕ) (item : X) (newer : All (Lower number) (in_slots slots)) (place : ℕ) (begins : BeginsAt number place slots) where
    cut : IsBefore number slots (take place slots)
    cut = elim begins [
      | inl at ↦ before_at slots number place are.rise newer at
      | inr gap ↦ before_gap slots number place are.rise newer gap
    ]

    pub with_pair : in_slots (take place slots ++ full number item ∷ []) ≡ in_slots slots ++ (number, item) ∷ []
    with_pair = push_slot (take place slots) number item ∙ ap (λ l. l ++ (number, item) ∷ []) cut.same_pairs

    pub slots_with : AreSlots (take place slots ++ full number item ∷ []) (filled + 1)
    slots_with = record {
      rise = rises_push nat_cmp_total number_of (take place slots) (full number item) cut.rise cut.lower;
      counted = let count = length_push (in_slots slots) (number, item) in ap (λ (n : ℕ). n + 1) are.counted ∙ (sym count ∙ sym (ap length with_pair));
    }
