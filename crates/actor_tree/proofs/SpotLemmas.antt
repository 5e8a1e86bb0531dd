-- Who has which place in the tournament, after an actor enters, leaves or gets another letter, and whose letter is the earliest.
use Rattle.std.proofs.Common.{◌≡◌, ◌≢◌, ℕ, ◌+◌, ◌<◌, Bool, List, [], ◌∷◌, ◌++◌, length, get_or, set, map, filter, replicate, Option, Some, None, IfSome, refl, sym, ap, ◌∙◌, subst, inl, inr, arith, length-set, get_or-set_same, get_or-set_other}
use Rattle.std.specs.Ordering.{nat_cmp}
use Rattle.std.specs.List.{All}
use Rattle.std.specs.List.Sorted.{IsStrictlySortedBy}
use Rattle.std.specs.Option.{option_map, option_map_or, unwrap_or}
use Rattle.std.proofs.lemmas.Bool.{cases_eq, cases_lt}
use Rattle.std.proofs.lemmas.List.{get_or-replicate, get_or_past, length-replicate}
use Rattle.office_types.specs.Ready.{Head, first_of}
use Rattle.office_books.specs.KeyIndex.{IsIn}
use Rattle.office_books.specs.NumberedItems.{NumbersRise, numbered_item, with_numbered_item, without_numbered_item}
use Rattle.actor_tree.specs.declared.heads.Spot.{Spot}
use Rattle.actor_tree.specs.declared.tournament.Entrant.{Entrant}
use Rattle.actor_tree.specs.Heads.{HaveSpots, HaveOwnLetters, entrant_of, heads_among, letters_of_spots, place_of_actor, with_letter_of}
use Rattle.actor_tree.specs.Tournament.{StandsInPlace, IsFirstOf, IsNotAfter}
use Rattle.actor_tree.proofs.EarliestLemmas.{first_is, head_is, head_of_entrant, is_head, is_kept, kept_is}
use Rattle.actor_tree.proofs.NumberedLemmas.{Lower, found_mapped, newer_none, push_other, push_same, rises_newer, rises_with, rises_without, with_mapped, with_none, with_other, with_same, without_other, without_same}

abbrev Places : Type 0
Places = List (Option Entrant)

abbrev Spots : Type 0
Spots = List (ℕ × Spot)

abbrev place_in : Spot → ℕ
place_in spot = spot.place

inside : {X : Type 0} {x y : X} → Some x ≡ Some y → x ≡ y
inside {X} {x} e = ap (λ (o : Option X). unwrap_or o x) e

clash : {X : Type 0} {x : X} → ◌≡◌ {A = Option X} None (Some x) → ⊥
clash {X} {x} e = cc

-- an item of which a word is known
of_word : {X Y : Type 0} (f : X → Y) (o : Option X) (y : Y) → option_map f o ≡ Some y → (x : X) × (o ≡ Some x) × (f x ≡ y)
of_word f None y is = absurd (cc)
of_word f (Some x) y is = (x, refl, inside is)

its_actor : (actor : ℕ) (letter : Option ℕ) (entrant : Entrant) → entrant_of actor letter ≡ Some entrant → (entrant.actor ≡ actor) × (letter ≡ Some entrant.letter)
its_actor actor None entrant is = absurd (cc)
its_actor actor (Some letter) entrant is = let same = inside is in (sym (ap (λ (e : Entrant). e.actor) same), ap (λ (e : Entrant). Some e.letter) same)

empty_places : (count place : ℕ) → get_or {A = Option Entrant} (replicate count None) place None ≡ None
empty_places count place = elim (cases_lt place count) [
  | inl low ↦ get_or-replicate count place None None low
  | inr past ↦ get_or_past (replicate count None) place None (omega (arith, length-replicate {A = Option Entrant}))
]

pub nobody_placed : (count : ℕ) → HaveSpots 0 [] (replicate count None)
unfolding IsStrictlySortedBy
nobody_placed count = record {
  rise = tt;
  within = omega arith;
  taken = λ actor place at. absurd (cc);
  apart = λ actor other place at there. absurd (cc);
  stands = λ actor spot found. absurd (cc);
  known = λ place entrant found. absurd (clash (sym (empty_places count place) ∙ found));
}

module _ (next : ℕ) (spots : Spots) (places : Places) (is : HaveSpots next spots places) where
  at_spot : (actor : ℕ) (spot : Spot) → numbered_item actor spots ≡ Some spot → place_of_actor actor spots ≡ Some spot.place
  at_spot actor spot found = ap (option_map place_in) found

  pub spot_within : (actor : ℕ) (spot : Spot) → numbered_item actor spots ≡ Some spot → spot.place < length places
  spot_within actor spot found = omega (arith, is.taken actor spot.place (at_spot actor spot found), is.within)

  module _ (actor : ℕ) (spot : Spot) (found : numbered_item actor spots ≡ Some spot) where
    -- another one has another place
    elsewhere : (other : ℕ) (its : Spot) → numbered_item other spots ≡ Some its → other ≢ actor → its.place ≢ spot.place
    elsewhere other its there apart same =
        apart (is.apart other actor spot.place (at_spot other its there ∙ ap (λ (n : ℕ). Some n) same) (at_spot actor spot found))

    -- ---- one leaves

    old_place : (other place : ℕ) → place_of_actor other (without_numbered_item actor spots) ≡ Some place → (other ≢ actor) × (place_of_actor other spots ≡ Some place)
    old_place other place at = elim (cases_eq other actor) [
      | inl same ↦ absurd (clash (sym (ap (λ (n : ℕ). place_of_actor n (without_numbered_item actor spots)) same ∙ ap (option_map place_in) (without_same actor spots)) ∙ at))
      | inr apart ↦ (apart, sym (ap (option_map place_in) (without_other actor other apart spots)) ∙ at)
    ]

    pub one_left : HaveSpots next (without_numbered_item actor spots) (set places spot.place None)
    one_left = record {
      rise = rises_without actor spots is.rise;
      within = omega (arith, is.within, length-set places spot.place None);
      taken = λ other place at. is.taken other place (old_place other place at).1;
      apart = λ one other place at there. is.apart one other place (old_place one place at).1 (old_place other place there).1;
      stands = λ other its there.
          let old = old_place other its.place (ap (option_map place_in) there) in
          let was : numbered_item other spots ≡ Some its = sym (without_other actor other old.0 spots) ∙ there in
          get_or-set_other places spot.place its.place None None (elsewhere other its was old.0) ∙ is.stands other its was;
      known = λ place entrant there. elim (cases_eq place spot.place) [
        | inl same ↦
            absurd (clash (sym (ap (λ (n : ℕ). get_or (set places spot.place None) n None) same ∙ get_or-set_same places spot.place None None (spot_within actor spot found)) ∙ there))
        | inr other ↦
            let at = is.known place entrant (sym (get_or-set_other places spot.place place None None other) ∙ there) in
            let apart : entrant.actor ≢ actor = λ same. other (inside (sym at ∙ (ap (λ (n : ℕ). place_of_actor n spots) same ∙ at_spot actor spot found))) in
            ap (option_map place_in) (without_other actor entrant.actor apart spots) ∙ at
      ];
    }

    -- ---- one gets another letter

    module _ (letter : Option ℕ) where
      abbrev changed : Spot
      changed = record spot { letter = letter }

      abbrev others : Spots
      others = with_numbered_item actor changed spots

      same_place : (other : ℕ) → place_of_actor other others ≡ place_of_actor other spots
      same_place other = elim (cases_eq other actor) [
        | inl same ↦ rw same (ap (option_map place_in) (with_same actor changed spot spots found) ∙ sym (at_spot actor spot found))
        | inr apart ↦ ap (option_map place_in) (with_other actor other apart changed spots)
      ]

      pub one_changed : HaveSpots next others (set places spot.place (entrant_of actor letter))
      one_changed = record {
        rise = rises_with actor changed spots is.rise;
        within = omega (arith, is.within, length-set places spot.place (entrant_of actor letter));
        taken = λ other place at. is.taken other place (sym (same_place other) ∙ at);
        apart = λ one other place at there. is.apart one other place (sym (same_place one) ∙ at) (sym (same_place other) ∙ there);
        stands = λ other its there. elim (cases_eq other actor) [
          | inl same ↦
              let here : changed ≡ its = inside (sym (with_same actor changed spot spots found) ∙ (ap (λ (n : ℕ). numbered_item n others) (sym same) ∙ there)) in
              rw (same, ← here) (get_or-set_same places spot.place (entrant_of actor letter) None (spot_within actor spot found))
          | inr apart ↦
              let was : numbered_item other spots ≡ Some its = sym (with_other actor other apart changed spots) ∙ there in
              get_or-set_other places spot.place its.place (entrant_of actor letter) None (elsewhere other its was apart) ∙ is.stands other its was
        ];
        known = λ place entrant there. elim (cases_eq place spot.place) [
          | inl same ↦
              let here : entrant_of actor letter ≡ Some entrant = sym (get_or-set_same places spot.place (entrant_of actor letter) None (spot_within actor spot found)) ∙ (ap (λ (n : ℕ). get_or (set places spot.place (entrant_of actor letter)) n None) (sym same) ∙ there) in
              rw ((its_actor actor letter entrant here).0, same) (same_place actor ∙ at_spot actor spot found)
          | inr other ↦ same_place entrant.actor ∙ is.known place entrant (sym (get_or-set_other places spot.place place (entrant_of actor letter) None other) ∙ there)
        ];
      }

  -- ---- one enters

  module _ (actor : ℕ) (letter : Option ℕ) (newer : All (Lower actor) spots) (room : next < length places) where
    abbrev made : Spot
    made = record { place = next; letter = letter }

    abbrev more : Spots
    more = spots ++ (actor, made) ∷ []

    abbrev after : Places
    after = set places next (entrant_of actor letter)

    is_new : numbered_item actor spots ≡ None
    is_new = newer_none actor spots newer

    found_new : numbered_item actor more ≡ Some made
    found_new = push_same actor made spots is_new

    here : place_of_actor actor more ≡ Some next
    here = ap (option_map place_in) found_new

    there_as_before : (other : ℕ) → other ≢ actor → place_of_actor other more ≡ place_of_actor other spots
    there_as_before other apart = ap (option_map place_in) (push_other actor other apart made spots)

    low : (other place : ℕ) → other ≢ actor → place_of_actor other more ≡ Some place → place < next
    low other place apart at = is.taken other place (sym (there_as_before other apart) ∙ at)

    at_next : (other place : ℕ) → other ≡ actor → place_of_actor other more ≡ Some place → place ≡ next
    at_next other place same at = inside (sym at ∙ (ap (λ (n : ℕ). place_of_actor n more) same ∙ here))

    pub one_entered : HaveSpots (next + 1) more after
    one_entered = record {
      rise = rises_newer actor made spots is.rise newer;
      within = omega (arith, length-set places next (entrant_of actor letter));
      taken = λ other place at. elim (cases_eq other actor) [
        | inl same ↦ let is_next = at_next other place same at in omega arith
        | inr apart ↦ let below = low other place apart at in omega arith
      ];
      apart = λ one other place at there. elim (cases_eq one actor) [
        | inl same ↦ elim (cases_eq other actor) [
          | inl alike ↦ same ∙ sym alike
          | inr apart ↦ absurd (let is_next = at_next one place same at in let below = low other place apart there in omega arith)
        ]
        | inr apart ↦ elim (cases_eq other actor) [
          | inl alike ↦ absurd (let is_next = at_next other place alike there in let below = low one place apart at in omega arith)
          | inr aside ↦ is.apart one other place (sym (there_as_before one apart) ∙ at) (sym (there_as_before other aside) ∙ there)
        ]
      ];
      stands = λ other its there. elim (cases_eq other actor) [
        | inl same ↦
            let this : made ≡ its = inside (sym found_new ∙ (ap (λ (n : ℕ). numbered_item n more) (sym same) ∙ there)) in
            rw (same, ← this) (get_or-set_same places next (entrant_of actor letter) None room)
        | inr apart ↦
            let was : numbered_item other spots ≡ Some its = sym (push_other actor other apart made spots) ∙ there in
            let below = low other its.place apart (ap (option_map place_in) there) in
            let not_next : its.place ≢ next = omega arith in
            get_or-set_other places next its.place (entrant_of actor letter) None not_next ∙ is.stands other its was
      ];
      known = λ place entrant there. elim (cases_eq place next) [
        | inl same ↦
            let this : entrant_of actor letter ≡ Some entrant = sym (get_or-set_same places next (entrant_of actor letter) None room) ∙ (ap (λ (n : ℕ). get_or after n None) (sym same) ∙ there) in
            rw ((its_actor actor letter entrant this).0, same) here
        | inr other ↦
            let at = is.known place entrant (sym (get_or-set_other places next place (entrant_of actor letter) None other) ∙ there) in
            let apart : entrant.actor ≢ actor = λ same. clash (sym (ap (λ (n : ℕ). place_of_actor n spots) same ∙ ap (option_map place_in) is_new) ∙ at) in
            there_as_before entrant.actor apart ∙ at
      ];
    }

  -- ---- the earliest

  letter_in : Spot → Option ℕ
  letter_in spot = spot.letter

  same_numbers : (pairs : Spots) → map (λ (pair : ℕ × Option ℕ). pair.0) (letters_of_spots pairs) ≡ map (λ (pair : ℕ × Spot). pair.0) pairs
  same_numbers [] = refl
  same_numbers (pair ∷ pairs) = ap (λ l. pair.0 ∷ l) (same_numbers pairs)

  pub letters_rise : NumbersRise (letters_of_spots spots)
  letters_rise = subst (IsStrictlySortedBy nat_cmp) (sym (same_numbers spots)) is.rise

  same_head : (a b : Head) → a.actor ≡ b.actor → a.letter ≡ b.letter → a ≡ b
  same_head a b e f = ap (λ (n : ℕ). record a { actor = n }) e ∙ ap (λ (n : ℕ). record b { letter = n }) f

  abbrev heads : List Head
  heads = heads_among (letters_of_spots spots)

  -- who stands in a place has that letter
  stands_as_head : (place : ℕ) (entrant : Entrant) → get_or places place None ≡ Some entrant → IsIn (head_of_entrant entrant) heads
  stands_as_head place entrant there =
      let spot = of_word place_in (numbered_item entrant.actor spots) place (is.known place entrant there) in
      let its : entrant_of entrant.actor spot.0.letter ≡ Some entrant = sym (is.stands entrant.actor spot.0 spot.1) ∙ (ap (λ (n : ℕ). get_or places n None) spot.2 ∙ there) in
      let letter : spot.0.letter ≡ Some entrant.letter = (its_actor entrant.actor spot.0.letter entrant its).1 in
      is_head entrant.actor entrant.letter (letters_of_spots spots)
      (found_mapped (λ (s : Spot). s.letter) entrant.actor spots ∙ (ap (option_map (λ (s : Spot). s.letter)) spot.1 ∙ ap (λ (l : Option ℕ). Some l) letter))

  -- and who has a letter stands in a place
  head_stands : (head : Head) → IsIn head heads → (place : ℕ) × (get_or places place None ≡ Some (record { actor = head.actor; letter = head.letter }))
  head_stands head among =
      let found = head_is head (letters_of_spots spots) letters_rise among in
      let spot = of_word (λ (s : Spot). s.letter) (numbered_item head.actor spots) (Some head.letter) (sym (found_mapped (λ (s : Spot). s.letter) head.actor spots) ∙ found) in
      (spot.0.place, is.stands head.actor spot.0 spot.1 ∙ ap (entrant_of head.actor) spot.2)

  module _ (own : HaveOwnLetters (letters_of_spots spots)) (plays : Entrant → Bool) (keeps : Head → Bool) (alike : (entrant : Entrant) → keeps (head_of_entrant entrant) ≡ plays entrant) where
    pub first_among : (first : Option Entrant) → IsFirstOf plays places first → option_map (λ (entrant : Entrant). entrant.actor) first ≡ first_of (filter keeps heads)
    first_among first of = first_is (filter keeps heads) first (standing first of.stands) least once
      where
        standing : (first : Option Entrant) → IfSome first (StandsInPlace plays places) → IfSome first (λ entrant. IsIn (head_of_entrant entrant) (filter keeps heads))
        standing None stands = tt
        standing (Some entrant) stands = is_kept keeps (head_of_entrant entrant) heads (stands_as_head stands.1.0 entrant stands.1.1) (alike entrant ∙ stands.0)

        least : (other : Head) → IsIn other (filter keeps heads) → IsNotAfter first other.letter
        least other among =
            let kept = kept_is keeps other heads among in
            let at = head_stands other kept.0 in
            of.earliest at.0 (record { actor = other.actor; letter = other.letter }) at.1 (sym (alike (record { actor = other.actor; letter = other.letter })) ∙ kept.1)

        once : (head other : Head) → IsIn head (filter keeps heads) → IsIn other (filter keeps heads) → other.letter ≡ head.letter → other ≡ head
        once head other one two same =
            let its = head_is head (letters_of_spots spots) letters_rise (kept_is keeps head heads one).0 in
            let others = head_is other (letters_of_spots spots) letters_rise (kept_is keeps other heads two).0 in
            same_head other head (own other.actor head.actor head.letter (others ∙ ap (λ (n : ℕ). Some (Some n)) same) its) same

-- the letters after one is set
pub letters_with : (actor : ℕ) (letter : Option ℕ) (spots : Spots) → letters_of_spots (with_letter_of actor letter spots) ≡ with_numbered_item actor letter (letters_of_spots spots)
letters_with actor letter spots = cases (numbered_item actor spots) refl
  where
    cases : (o : Option Spot) → numbered_item actor spots ≡ o
        → letters_of_spots (option_map_or (λ (spot : Spot). with_numbered_item actor (record spot { letter = letter }) spots) o spots) ≡ with_numbered_item actor letter (letters_of_spots spots)
    cases None found = sym (with_none actor letter (letters_of_spots spots) (found_mapped (λ (s : Spot). s.letter) actor spots ∙ ap (option_map (λ (s : Spot). s.letter)) found))
    cases (Some spot) found = with_mapped (λ (s : Spot). s.letter) actor (record spot { letter = letter }) spots

letter_set : (actor : ℕ) (letter : Option ℕ) (spots : Spots) (spot : Spot) → numbered_item actor spots ≡ Some spot → with_letter_of actor letter spots ≡ with_numbered_item actor (record spot { letter = letter }) spots
letter_set actor letter spots spot found = ap (λ (o : Option Spot). option_map_or (λ (spot : Spot). with_numbered_item actor (record spot { letter = letter }) spots) o spots) found

-- the spot of an actor that has a place
pub spot_of : (actor place : ℕ) (spots : Spots) → Some place ≡ place_of_actor actor spots → (spot : Spot) × (numbered_item actor spots ≡ Some spot) × (spot.place ≡ place)
spot_of actor place spots at = of_word place_in (numbered_item actor spots) place (sym at)

-- a letter is set at an actor's place
pub letter_changed : (next : ℕ) (spots : Spots) (places : Places) → HaveSpots next spots places → (actor place : ℕ) (letter : Option ℕ) → Some place ≡ place_of_actor actor spots
    → HaveSpots next (with_letter_of actor letter spots) (set places place (entrant_of actor letter))
letter_changed next spots places is actor place letter at =
    let spot = spot_of actor place spots at in
    subst (λ (n : ℕ). HaveSpots next (with_letter_of actor letter spots) (set places n (entrant_of actor letter))) spot.2
    (subst (λ (after : Spots). HaveSpots next after (set places spot.0.place (entrant_of actor letter))) (sym (letter_set actor letter spots spot.0 spot.1)) (one_changed next spots places is actor spot.0 spot.1 letter))
