-- What the nodes of a tournament say of the places below them.
use Rattle.std.proofs.Common.{◌≡◌, ◌≢◌, ℕ, zero, suc, ◌+◌, ◌-◌, ◌*◌, ◌/◌, ◌<◌, ◌≤◌, Bool, true, false, cond, List, length, get_or, set, nat_lt, Option, Some, None, IfSome, refl, sym, ap, ◌∙◌, subst, ◌⊎◌, inl, inr, arith, length-set, get_or-set_same, get_or-set_other}
use Rattle.std.proofs.lemmas.Bool.{cases_eq, cases_lt}
use Rattle.std.proofs.lemmas.List.{get_or_past}
use borrow.Author.Tests.{ltb-true, ltb-false}
use Rattle.actor_tree.specs.declared.tournament.Entrant.{Entrant}
use Rattle.actor_tree.specs.Tournament.{StandsInPlace, IsFirstBelow, IsFirstOf, IsNotAfter, IsPlayedBut, earlier_entrant, node_above, node_at}

abbrev Places : Type 0
Places = List (Option Entrant)

-- ---- nodes

in_winners : (winners places : Places) (node : ℕ) → node < length winners → node_at winners places node ≡ get_or winners node None
in_winners winners places node within = cases (nat_lt node (length winners)) refl
  where
    cases : (b : Bool) → nat_lt node (length winners) ≡ b → cond b (get_or winners node None) (get_or places (node - length winners) None) ≡ get_or winners node None
    cases true e = refl
    cases false e = absurd (omega (arith, ltb-false node (length winners) e))

in_places : (winners places : Places) (node : ℕ) → length winners ≤ node → node_at winners places node ≡ get_or places (node - length winners) None
in_places winners places node beyond = cases (nat_lt node (length winners)) refl
  where
    cases : (b : Bool) → nat_lt node (length winners) ≡ b → cond b (get_or winners node None) (get_or places (node - length winners) None) ≡ get_or places (node - length winners) None
    cases true e = absurd (omega (arith, ltb-true node (length winners) e))
    cases false e = refl

-- another node than the one that is written
node_played : (winners places : Places) (at other : ℕ) (entrant : Option Entrant) → other ≢ at → node_at (set winners at entrant) places other ≡ node_at winners places other
node_played winners places at other entrant apart = rw (length-set, get_or-set_other winners at other entrant None apart) refl

node_placed : (winners places : Places) (place other : ℕ) (entrant : Option Entrant) → other ≢ length winners + place → node_at winners (set places place entrant) other ≡ node_at winners places other
node_placed winners places place other entrant apart = cases (nat_lt other (length winners)) refl
  where
    cases : (b : Bool) → nat_lt other (length winners) ≡ b
        → cond b (get_or winners other None) (get_or (set places place entrant) (other - length winners) None) ≡ cond b (get_or winners other None) (get_or places (other - length winners) None)
    cases true e = refl
    cases false e =
        let beyond = ltb-false other (length winners) e in
        let elsewhere : other - length winners ≢ place = λ same. apart (omega arith) in
        get_or-set_other places place (other - length winners) entrant None elsewhere

-- ---- playing again

pub placed : (winners places : Places) (place : ℕ) (entrant : Option Entrant) → IsPlayedBut 0 winners places → IsPlayedBut ((length winners + place) / 2) winners (set places place entrant)
placed winners places place entrant is = record {
  same_count = is.same_count ∙ sym (length-set places place entrant);
  played = λ node above within apart.
      let left : 2 * node ≢ length winners + place = λ same. apart (omega arith) in
      let right : 2 * node + 1 ≢ length winners + place = λ same. apart (omega arith) in
      let counted : node ≢ 0 = omega arith in
      rw (node_placed winners places place (2 * node) entrant left, node_placed winners places place (2 * node + 1) entrant right) (is.played node above within counted);
}

module _ (winners places : Places) (at : ℕ) (is : IsPlayedBut at winners places) (above : 0 < at) (within : at < length winners) where
  abbrev winner : Option Entrant
  winner = earlier_entrant (node_at winners places (2 * at)) (node_at winners places (2 * at + 1))

  pub played_up : IsPlayedBut (at / 2) (set winners at winner) places
  played_up = record {
    same_count = length-set winners at winner ∙ is.same_count;
    played = λ node node_above node_within apart.
        let inside : node < length winners = omega (arith, length-set winners at winner) in
        elim (cases_eq node at) [
          | inl same ↦
              let left : 2 * at ≢ at = omega arith in
              let right : 2 * at + 1 ≢ at = omega arith in
              rw (same, get_or-set_same winners at winner None within, node_played winners places at (2 * at) winner left, node_played winners places at (2 * at + 1) winner right) refl
          | inr other ↦
              let left : 2 * node ≢ at = λ same. apart (omega arith) in
              let right : 2 * node + 1 ≢ at = λ same. apart (omega arith) in
              rw (get_or-set_other winners at node winner None other, node_played winners places at (2 * node) winner left, node_played winners places at (2 * node + 1) winner right)
              (is.played node node_above inside other)
        ];
  }

-- ---- the earlier of two

pub earlier_left : (a b : Option Entrant) (letter : ℕ) → IsNotAfter a letter → IsNotAfter (earlier_entrant a b) letter
earlier_left None b letter early = absurd early
earlier_left (Some entrant) None letter early = early
earlier_left (Some entrant) (Some other) letter early = cases (nat_lt other.letter entrant.letter) refl
  where
    cases : (b : Bool) → nat_lt other.letter entrant.letter ≡ b → IsNotAfter (cond b (Some other) (Some entrant)) letter
    cases true e = omega (arith, ltb-true other.letter entrant.letter e)
    cases false e = early

pub earlier_right : (a b : Option Entrant) (letter : ℕ) → IsNotAfter b letter → IsNotAfter (earlier_entrant a b) letter
earlier_right None b letter early = early
earlier_right (Some entrant) None letter early = absurd early
earlier_right (Some entrant) (Some other) letter early = cases (nat_lt other.letter entrant.letter) refl
  where
    cases : (b : Bool) → nat_lt other.letter entrant.letter ≡ b → IsNotAfter (cond b (Some other) (Some entrant)) letter
    cases true e = early
    cases false e = omega (arith, ltb-false other.letter entrant.letter e)

pub earlier_is : (a b : Option Entrant) (entrant : Entrant) → earlier_entrant a b ≡ Some entrant → (a ≡ Some entrant) ⊎ (b ≡ Some entrant)
earlier_is None b entrant is = inr is
earlier_is (Some left) None entrant is = inl is
earlier_is (Some left) (Some right) entrant is = cases (nat_lt right.letter left.letter) is
  where
    cases : (b : Bool) → cond b (Some right) (Some left) ≡ Some entrant → (Some left ≡ Some entrant) ⊎ (Some right ≡ Some entrant)
    cases true e = inr e
    cases false e = inl e

pub earlier_has : (P : Entrant → Type 0) (a b : Option Entrant) → IfSome a P → IfSome b P → IfSome (earlier_entrant a b) P
earlier_has P None b left right = right
earlier_has P (Some entrant) None left right = left
earlier_has P (Some entrant) (Some other) left right = cases (nat_lt other.letter entrant.letter)
  where
    cases : (b : Bool) → IfSome (cond b (Some other) (Some entrant)) P
    cases true = right
    cases false = left

-- ---- up and down

half_above : (levels node : ℕ) → node_above (suc levels) node ≡ node_above levels (node / 2)
half_above zero node = refl
half_above (suc levels) node = ap (λ (n : ℕ). n / 2) (half_above levels node)

not_below : (levels node : ℕ) → node_above levels node ≤ node
not_below zero node = omega arith
not_below (suc levels) node = omega (arith, not_below levels node)

-- node 1 is above all
root : (most node : ℕ) → node ≤ most → 0 < node → (levels : ℕ) × (node_above levels node ≡ 1)
root zero node within above = absurd (omega arith)
root (suc most) node within above = elim (cases_eq node 1) [
  | inl same ↦ (0, same)
  | inr other ↦ let up = root most (node / 2) (omega arith) (omega arith) in (suc up.0, half_above up.0 node ∙ up.1)
]

module _ (winners places : Places) (is : IsPlayedBut 0 winners places) where
  abbrev at : ℕ → Option Entrant
  at node = node_at winners places node

  winner_is : (node : ℕ) → 0 < node → node < length winners → at node ≡ earlier_entrant (at (2 * node)) (at (2 * node + 1))
  winner_is node above within = let counted : node ≢ 0 = omega arith in in_winners winners places node within ∙ is.played node above within counted

  -- a node isn't after those just below it
  one_up : (below letter : ℕ) → 1 < below → below < 2 * length places → IsNotAfter (at below) letter → IsNotAfter (at (below / 2)) letter
  one_up below letter deep within early =
      let node = below / 2 in
      let inside : node < length winners = omega (arith, is.same_count) in
      rw (winner_is node (omega arith) inside) (
      elim (cases_eq below (2 * node)) [
        | inl same ↦ earlier_left (at (2 * node)) (at (2 * node + 1)) letter (subst (λ (n : ℕ). IsNotAfter (at n) letter) same early)
        | inr other ↦
            let same : below ≡ 2 * node + 1 = omega arith in
            earlier_right (at (2 * node)) (at (2 * node + 1)) letter (subst (λ (n : ℕ). IsNotAfter (at n) letter) same early)
      ]
      )

  pub climbs : (levels below letter : ℕ) → below < 2 * length places → 0 < node_above levels below → IsNotAfter (at below) letter → IsNotAfter (at (node_above levels below)) letter
  climbs zero below letter within above early = early
  climbs (suc levels) below letter within above early =
      one_up (node_above levels below) letter (omega arith) (omega (arith, not_below levels below)) (climbs levels below letter within (omega arith) early)

  -- an entrant at a node has a place
  has_place : (most node : ℕ) (entrant : Entrant) → 2 * length places ≤ node + most → 0 < node → node < 2 * length places → at node ≡ Some entrant → (place : ℕ) × (get_or places place None ≡ Some entrant)
  has_place zero node entrant close above within there = absurd (omega arith)
  has_place (suc most) node entrant close above within there = elim (cases_lt node (length winners)) [
    | inl inside ↦ elim (earlier_is (at (2 * node)) (at (2 * node + 1)) entrant (sym (winner_is node above inside) ∙ there)) [
      | inl left ↦ has_place most (2 * node) entrant (omega arith) (omega arith) (omega (arith, is.same_count)) left
      | inr right ↦ has_place most (2 * node + 1) entrant (omega arith) (omega arith) (omega (arith, is.same_count)) right
    ]
    | inr beyond ↦ (node - length winners, sym (in_places winners places node beyond) ∙ there)
  ]

  pub stands_at : (node : ℕ) → 0 < node → node < 2 * length places → (first : Option Entrant) → at node ≡ first → IfSome first (λ entrant. (place : ℕ) × (get_or places place None ≡ Some entrant))
  stands_at node above within None there = tt
  stands_at node above within (Some entrant) there = has_place (2 * length places) node entrant (omega arith) above within there

  -- ---- places

  place_within : (place : ℕ) (entrant : Entrant) → get_or places place None ≡ Some entrant → place < length places
  place_within place entrant there = elim (cases_lt place (length places)) [
    | inl within ↦ within
    | inr past ↦ absurd (let none : get_or places place None ≡ None = get_or_past places place None past in cc)
  ]

  at_place : (place : ℕ) → at (length winners + place) ≡ get_or places place None
  at_place place = let same : length winners + place - length winners ≡ place = omega arith in in_places winners places (length winners + place) (omega arith) ∙ ap (λ (n : ℕ). get_or places n None) same

  -- what is first below node 1 is first of all
  pub first_of_all : (plays : Entrant → Bool) (first : Option Entrant) → IsFirstBelow plays 1 winners places first → IsFirstOf plays places first
  first_of_all plays first below = record {
    stands = below.stands;
    earliest = λ place other there takes_part.
        let within = place_within place other there in
        let node = length winners + place in
        let up = root node node (omega arith) (omega (arith, is.same_count)) in
        below.earliest up.0 node other up.1 (omega (arith, is.same_count)) (at_place place ∙ there) takes_part;
  }

  -- a node that plays is first below itself
  pub first_here : (plays : Entrant → Bool) (node : ℕ) (first : Option Entrant) → 0 < node → node < 2 * length places → at node ≡ first → IfSome first (λ entrant. plays entrant ≡ true) → IsFirstBelow plays node winners places first
  first_here plays node first above within here takes_part = record {
    stands = both first (stands_at node above within first here) takes_part;
    earliest = λ levels below other up inside there others.
        let over : 0 < node_above levels below = subst (λ (n : ℕ). 0 < n) (sym up) above in
        let early : IsNotAfter (at below) other.letter = subst (λ (o : Option Entrant). IsNotAfter o other.letter) (sym there) (omega arith) in
        let climbed : IsNotAfter (at (node_above levels below)) other.letter = climbs levels below other.letter inside over early in
        subst (λ (o : Option Entrant). IsNotAfter o other.letter) here (subst (λ (n : ℕ). IsNotAfter (at n) other.letter) up climbed);
  }
    where
      both : (o : Option Entrant) → IfSome o (λ entrant. (place : ℕ) × (get_or places place None ≡ Some entrant)) → IfSome o (λ entrant. plays entrant ≡ true) → IfSome o (StandsInPlace plays places)
      both None standing playing = tt
      both (Some entrant) standing playing = (playing, standing)

  -- a place whose entrant doesn't play
  pub none_here : (plays : Entrant → Bool) (node : ℕ) (entrant : Entrant) → length winners ≤ node → at node ≡ Some entrant → plays entrant ≡ false → IsFirstBelow plays node winners places None
  none_here plays node entrant beyond here out = record {
    stands = tt;
    earliest = λ levels below other up inside there takes_part. absurd (nobody levels below other up inside there takes_part);
  }
    where
      nobody : (levels below : ℕ) (other : Entrant) → node_above levels below ≡ node → below < 2 * length places → at below ≡ Some other → plays other ≡ true → ⊥
      nobody zero below other up inside there takes_part =
          let same : Some other ≡ Some entrant = sym there ∙ (ap at up ∙ here) in
          let alike : other ≡ entrant = cc in
          let both : plays other ≡ false = ap plays alike ∙ out in cc
      nobody (suc levels) below other up inside there takes_part = omega (arith, not_below levels below, is.same_count)

  -- a node above the places whose entrant doesn't play
  pub first_of_two : (plays : Entrant → Bool) (node : ℕ) (entrant : Entrant) (left right : Option Entrant) → at node ≡ Some entrant → plays entrant ≡ false
      → IsFirstBelow plays (2 * node) winners places left → IsFirstBelow plays (2 * node + 1) winners places right → IsFirstBelow plays node winners places (earlier_entrant left right)
  first_of_two plays node entrant left right here out lower upper = record {
    stands = earlier_has (StandsInPlace plays places) left right lower.stands upper.stands;
    earliest = early;
  }
    where
      early : (levels below : ℕ) (other : Entrant) → node_above levels below ≡ node → below < 2 * length places → at below ≡ Some other → plays other ≡ true → IsNotAfter (earlier_entrant left right) other.letter
      early zero below other up inside there takes_part =
          let same : Some other ≡ Some entrant = sym there ∙ (ap at up ∙ here) in
          let alike : other ≡ entrant = cc in
          let both : plays other ≡ false = ap plays alike ∙ out in absurd (cc)
      early (suc levels) below other up inside there takes_part = elim (cases_eq (node_above levels below) (2 * node)) [
        | inl same ↦ earlier_left left right other.letter (lower.earliest levels below other same inside there takes_part)
        | inr apart ↦
            let same : node_above levels below ≡ 2 * node + 1 = omega arith in
            earlier_right left right other.letter (upper.earliest levels below other same inside there takes_part)
      ]
