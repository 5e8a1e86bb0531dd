-- The active nodes are walked from the last to the first.
use Rattle.std.proofs.Common.{◌≡◌, ◌<◌, ◌≤◌, ◌+◌, ◌-◌, ℕ, zero, suc, List, [], ◌∷◌, ◌++◌, length, map, reverse, get_or, drop, Ok, Err, Some, None, refl, sym, ◌∙◌, ap, subst, arith, inl, inr, add-one}
use Rattle.std.specs.Prelude.{Option, Result}
use Rattle.std.specs.List.{All, Contains}
use Rattle.std.specs.List.Sorted.{IsStrictlyIncreasing}
use Rattle.std.proofs.lemmas.List.{get_or-drop, get_or-map, get_or-reverse, get_or_default, length-drop, length-map, length-reverse, reverse-append, reverse-reverse}
use Rattle.std.proofs.lemmas.List.Kept.{AllPairs-from_increasing}
use Rattle.std.proofs.lemmas.Bool.{cases_lt}
use Rattle.std.proofs.Math.Seq.{drop-cons}
use Rattle.std.proofs.lemmas.List.Elements.{Contains-get_or}
use Rattle.std.proofs.Math.Nat.{eq-or-lt_of_le}
use Rattle.xs_model.specs.declared.env.EvalFault.{EvalFault}
use Rattle.node_tree.specs.Nodes.{IsBelow, IsTree, IsWithin}
use Rattle.node_tree.proofs.RisingLemmas.{rises}
use Rattle.node_tree.proofs.TreeLemmas.{ancestors_first, subtrees_are_runs}
use Rattle.step_sets.proofs.ListLemmas.{Contains-cons_cases, Contains-here, Contains-there}
use Rattle.step_sets.proofs.TreeLemmas.{within_below}
use Rattle.microstep.specs.Readings.{IsPassed, Picks, PicksNone}
use Rattle.microstep.specs.Selection.{ArePicks, HasNoFault, IsAsked, IsAtFault, IsPicked, Looking, Place, Selects, own_transition, fault}

-- one more at the end comes first in the reversed list
pub reversed-push : {X : Type 0} (xs : List X) (x : X) → reverse (xs ++ x ∷ []) ≡ x ∷ reverse xs
reversed-push xs x = reverse-append xs (x ∷ [])

-- a number before all of a rising list
pub rising-cons : (x : ℕ) (xs : List ℕ) → IsStrictlyIncreasing xs → ((m : ℕ) → Contains xs m → x < m) → IsStrictlyIncreasing (x ∷ xs)
rising-cons x xs up before zero inside = before (get_or xs 0 0) (Contains-get_or xs 0 0 (omega (arith, inside)))
rising-cons x xs up before (suc k) inside =
    let next = up k (omega (arith, inside)) in
    rw (add-one (suc k)) (rw (add-one k) at next)

abbrev node_of : Place → ℕ
node_of place = place.0

-- a node of a list of places is that of one of them
place-of : (places : List Place) (m : ℕ) → Contains (map node_of places) m → (q : Place) × Contains places q × (q.0 ≡ m)
place-of places m (k, inside, is) =
    let within : k < length places = omega (arith, inside, length-map places node_of) in
    (get_or places k (m, 0), Contains-get_or places k (m, 0) within, sym (get_or-map node_of places k (m, 0) m within) ∙ is)

-- the nodes of the places rise, so the first one stands before all others
first-least : (first : Place) (rest : List Place) (q : Place) → IsStrictlyIncreasing (map node_of (first ∷ rest)) → Contains (first ∷ rest) q → first.0 ≤ q.0
first-least first rest q up (k, inside, is) =
    let within : k < length (map node_of (first ∷ rest)) = omega (arith, inside, length-map (first ∷ rest) node_of) in
    let least = rises (map node_of (first ∷ rest)) up 0 k (omega arith) within in
    let here = get_or-map node_of (first ∷ rest) k q 0 inside in
    let at : get_or (map node_of (first ∷ rest)) k 0 ≡ q.0 = here ∙ ap node_of is in
    omega (arith, least, at)

-- what is picked by the nodes of the walk so far, in document order
pub record IsWalked (looking : Looking) (later : List ℕ) (places : List Place) : Type 0 where
  pub in_order : IsStrictlyIncreasing (map (λ (place : Place). place.0) places)
  pub picked : (place : Place) → Contains places place → Contains later place.0 × IsPicked looking place
  pub complete : (place : Place) → Contains later place.0 → IsPicked looking place → Contains places place
  pub no_fault : (n : ℕ) (fault : EvalFault) → Contains later n → ¬ IsAtFault looking fault n
  pub inner : (m place : ℕ) → Contains later m → own_transition looking m ≡ Ok (Some place)
      → (q : Place) × Contains places q × IsWithin looking.def.tree q.0 m

pub walked-start : (looking : Looking) → IsWalked looking [] []
walked-start looking = record {
  in_order = λ k inside. absurd (omega (arith, inside));
  picked = λ place (k, inside, is). absurd (omega (arith, inside));
  complete = λ place (k, inside, is) p. absurd (omega (arith, inside));
  no_fault = λ n fault (k, inside, is) p. absurd (omega (arith, inside));
  inner = λ m place (k, inside, is) own. absurd (omega (arith, inside));
}

module _ (looking : Looking) (tree : IsTree looking.def.tree) (n : ℕ) (later : List ℕ) (places : List Place)
    (active : Contains looking.own.nodes n) (after : (m : ℕ) → Contains later m → n < m) (behind : (m : ℕ) → Contains looking.own.nodes m → n < m → Contains later m)
    (walked : IsWalked looking later places) where
  own-at : (m : ℕ) (own : Result (Option ℕ) EvalFault) → n ≡ m → own_transition looking m ≡ own → own_transition looking n ≡ own
  own-at m own same is = ap (own_transition looking) same ∙ is

  asked-at : (m : ℕ) → n ≡ m → IsAsked looking m → IsAsked looking n
  asked-at m same asked = subst (IsAsked looking) (sym same) asked

  -- a node that is passed over isn't asked
  not-asked : (picks : List Place) → picks ≡ places → IsPassed looking.def.tree picks n → ¬ IsAsked looking n
  not-asked [] same passed asked = absurd passed
  not-asked (first ∷ rest) same passed asked =
      let has : Contains places first = let P : List Place → Type 0 = λ l. Contains l first in subst P same (Contains-here first rest) in
      let pick = (walked.picked first has).1 in
      asked.inner first.0 first.1 pick.0.active passed pick.1

  pub walked-passed : IsPassed looking.def.tree places n → IsWalked looking (n ∷ later) places
  walked-passed passed = record {
    in_order = walked.in_order;
    picked = λ place has. let p = walked.picked place has in (Contains-there place.0 n later p.0, p.1);
    complete = λ place has p. elim (Contains-cons_cases place.0 n later has) [
      | inl same ↦ absurd (not-asked places refl passed (asked-at place.0 same p.0))
      | inr there ↦ walked.complete place there p
    ];
    no_fault = λ m fault has p. elim (Contains-cons_cases m n later has) [
      | inl same ↦ not-asked places refl passed (asked-at m same p.0)
      | inr there ↦ walked.no_fault m fault there p
    ];
    inner = λ m place has own. elim (Contains-cons_cases m n later has) [
      | inl same ↦ within-passed places refl passed m same
      | inr there ↦ walked.inner m place there own
    ];
  } where
    within-passed : (picks : List Place) → picks ≡ places → IsPassed looking.def.tree picks n → (m : ℕ) → n ≡ m → (q : Place) × Contains places q × IsWithin looking.def.tree q.0 m
    within-passed [] same passed m is = absurd passed
    within-passed (first ∷ rest) same passed m is =
        let P : List Place → Type 0 = λ l. Contains l first in
        let Q : ℕ → Type 0 = λ k. IsBelow looking.def.tree first.0 k in
        (first, subst P same (Contains-here first rest), inr (subst Q is passed))

  pub walked-none : own_transition looking n ≡ Ok None → IsWalked looking (n ∷ later) places
  walked-none none = record {
    in_order = walked.in_order;
    picked = λ place has. let p = walked.picked place has in (Contains-there place.0 n later p.0, p.1);
    complete = λ place has p. elim (Contains-cons_cases place.0 n later has) [
      | inl same ↦ absurd (let other = own-at place.0 (Ok (Some place.1)) same p.1 in cc)
      | inr there ↦ walked.complete place there p
    ];
    no_fault = λ m fault has p. elim (Contains-cons_cases m n later has) [
      | inl same ↦ (let other = own-at m (Err fault) same p.1 in cc)
      | inr there ↦ walked.no_fault m fault there p
    ];
    inner = λ m place has own. elim (Contains-cons_cases m n later has) [
      | inl same ↦ absurd (let other = own-at m (Ok (Some place)) same own in cc)
      | inr there ↦ walked.inner m place there own
    ];
  }

  -- where a pick is below the node, the first one is
  passes : (picks : List Place) → picks ≡ places → (q : Place) → Contains picks q → IsBelow looking.def.tree q.0 n → IsPassed looking.def.tree picks n
  passes [] same q (k, inside, is) below = absurd (omega (arith, inside))
  passes (first ∷ rest) same q has below =
      let P : List Place → Type 0 = λ l. IsStrictlyIncreasing (map node_of l) in
      let R : List Place → Type 0 = λ l. Contains l first in
      let least = first-least first rest q (subst P (sym same) walked.in_order) has in
      let here = subst R same (Contains-here first rest) in
      let past = after first.0 (walked.picked first here).0 in
      let B : ℕ → Type 0 = λ k. IsBelow looking.def.tree k n in
      elim (eq-or-lt_of_le least) [
        | inl same-node ↦ subst B (sym same-node) below
        | inr less ↦ subtrees_are_runs looking.def.tree tree.outline q.0 n first.0 below past less
      ]

  -- a node that isn't passed over is asked
  pub asks : ¬ IsPassed looking.def.tree places n → IsAsked looking n
  asks open-node = record {
    active = active;
    inner = λ m place has below own.
        let past = ancestors_first looking.def.tree tree.outline m n below in
        let (q, q-has, q-within) = walked.inner m place (behind m has past) own in
        open-node (passes places refl q q-has (within_below looking.def.tree q.0 m n q-within below));
  }

  pub walked-some : (place : ℕ) → ¬ IsPassed looking.def.tree places n → own_transition looking n ≡ Ok (Some place) → IsWalked looking (n ∷ later) ((n, place) ∷ places)
  walked-some place open-node own = record {
    in_order = rising-cons n (map node_of places) walked.in_order
        (λ m has. let (q, q-has, is) = place-of places m has in let past = after q.0 (walked.picked q q-has).0 in omega (arith, past, is));
    picked = λ other has. elim (Contains-cons_cases other (n, place) places has) [
      | inl same ↦ (let P : Place → Type 0 = λ p. Contains (n ∷ later) p.0 × IsPicked looking p in subst P same (Contains-here n later, (asks open-node, own)))
      | inr there ↦ (let p = walked.picked other there in (Contains-there other.0 n later p.0, p.1))
    ];
    complete = λ other has p. elim (Contains-cons_cases other.0 n later has) [
      | inl same ↦ (let also = own-at other.0 (Ok (Some other.1)) same p.1 in
          let place-same : place ≡ other.1 = cc in
          let both : (let P : Place = (n, place) in P) ≡ other = λ i. (same i, place-same i) in
          let C : Place → Type 0 = λ p. Contains ((n, place) ∷ places) p in
          subst C both (Contains-here (n, place) places))
      | inr there ↦ Contains-there other (n, place) places (walked.complete other there p)
    ];
    no_fault = λ m fault has p. elim (Contains-cons_cases m n later has) [
      | inl same ↦ (let other = own-at m (Err fault) same p.1 in cc)
      | inr there ↦ walked.no_fault m fault there p
    ];
    inner = λ m other has is. elim (Contains-cons_cases m n later has) [
      | inl same ↦ ((n, place), Contains-here (n, place) places, inl same)
      | inr there ↦ (let (q, q-has, q-within) = walked.inner m other there is in (q, Contains-there q (n, place) places q-has, q-within))
    ];
  }

  -- a fault of a node that is asked is the last one
  pub walked-fault : (found : EvalFault) → ¬ IsPassed looking.def.tree places n → own_transition looking n ≡ Err found → Selects looking (Err found)
  walked-fault found open-node own =
      fault (asks open-node, own) (λ later-node other past at. walked.no_fault later-node other (behind later-node at.0.active past) at)

-- at the first node the walk has all
pub walked-all : (looking : Looking) (places : List Place) → IsWalked looking looking.own.nodes places → ArePicks looking places × HasNoFault looking
walked-all looking places walked = (
  record {
    in_order = walked.in_order;
    each = λ place. ((λ has. (walked.picked place has).1), (λ p. walked.complete place p.0.active p));
  },
  (λ n fault at. walked.no_fault n fault at.0.active at),
)

-- one step of the walk, to the node at a place of the active nodes
module _ (looking : Looking) (tree : IsTree looking.def.tree) (up : IsStrictlyIncreasing looking.own.nodes) (xs : List ℕ) (is : xs ≡ looking.own.nodes)
    (upper at : ℕ) (next : upper ≡ suc at) (inside : at < length xs) (places : List Place) (walked : IsWalked looking (drop upper xs) places) where
  abbrev pub here : ℕ
  here = get_or xs at 0

  rising : IsStrictlyIncreasing xs
  rising = rw is up

  rest-is : drop at xs ≡ here ∷ drop upper xs
  rest-is = rw next (drop-cons xs at 0 inside)

  pub here-active : Contains looking.own.nodes here
  here-active = let P : List ℕ → Type 0 = λ l. Contains l here in subst P is (Contains-get_or xs at 0 inside)

  past-here : (m : ℕ) → Contains (drop upper xs) m → here < m
  past-here m (k, within, same) =
      let long : upper + k < length xs = omega (arith, within, length-drop upper xs) in
      let less = AllPairs-from_increasing xs rising at (upper + k) 0 (omega (arith, next)) long in
      let value : get_or xs (upper + k) 0 ≡ m = sym (get_or_default xs (upper + k) m 0 long) ∙ (sym (get_or-drop upper xs k m) ∙ same) in
      omega (arith, less, value)

  behind-here : (m : ℕ) → Contains looking.own.nodes m → here < m → Contains (drop upper xs) m
  behind-here m has past =
      let P : List ℕ → Type 0 = λ l. Contains l m in
      let (k, within, same) = subst P (sym is) has in
      let value : get_or xs k 0 ≡ m = sym (get_or_default xs k m 0 within) ∙ same in
      let later : upper ≤ k = elim (cases_lt at k) [
        | inl less ↦ omega (arith, next)
        | inr le ↦ absurd (let before = rises xs rising k at le inside in omega (arith, before, value, past))
      ] in
      let split : upper + (k - upper) ≡ k = omega arith in
      (k - upper, omega (arith, length-drop upper xs), get_or-drop upper xs (k - upper) m ∙ ap (λ i. get_or xs i m) split ∙ same)

  to-here : (picks : List Place) → IsWalked looking (here ∷ drop upper xs) picks → IsWalked looking (drop at xs) picks
  to-here picks walk = let P : List ℕ → Type 0 = λ l. IsWalked looking l picks in subst P (sym rest-is) walk

  pub step-none : PicksNone looking places here → IsWalked looking (drop at xs) places
  step-none (inl passed) = to-here places (walked-passed looking tree here (drop upper xs) places here-active past-here behind-here walked passed)
  step-none (inr none) = to-here places (walked-none looking tree here (drop upper xs) places here-active past-here behind-here walked none)

  pub step-some : (place : ℕ) → Picks looking places here (Ok (Some place)) → IsWalked looking (drop at xs) ((here, place) ∷ places)
  step-some place pick = to-here ((here, place) ∷ places) (walked-some looking tree here (drop upper xs) places here-active past-here behind-here walked place pick.asked pick.own_is)

  pub step-fault : (found : EvalFault) → Picks looking places here (Err found) → Selects looking (Err found)
  step-fault found pick = walked-fault looking tree here (drop upper xs) places here-active past-here behind-here walked found pick.asked pick.own_is

-- the nodes of the picks so far are nodes of the tree
pub picks-inside : (looking : Looking) (legal : (n : ℕ) → Contains looking.own.nodes n → n < length looking.def.tree) (picked : List Place) → ((place : Place) → Contains (reverse picked) place → IsPicked looking place)
    → All (λ (place : Place). place.0 < length looking.def.tree) picked
picks-inside looking legal picked are k d inside =
    let place : Place = get_or picked k d in
    let has : Contains (reverse (reverse picked)) place = let P : List Place → Type 0 = λ l. Contains l place in subst P (sym (reverse-reverse picked)) (Contains-get_or picked k d inside) in
    legal place.0 (are place (Contains-back (reverse picked) place has)).0.active
  where
    Contains-back : (xs : List Place) (x : Place) → Contains (reverse xs) x → Contains xs x
    Contains-back xs x (i, within, same) =
        let short : i < length xs = rw (length-reverse xs) at within in
        (length xs - 1 - i, omega arith, sym (get_or-reverse xs i x short) ∙ same)

-- the same, where the list of nodes is lent and the picks are turned over
pub walked-end : (looking : Looking) (xs : List ℕ) → xs ≡ looking.own.nodes → (i : ℕ) → i ≤ 0 → (places picked : List Place) → picked ≡ places → IsWalked looking (drop i xs) places → ArePicks looking picked × HasNoFault looking
walked-end looking xs is i none places picked same walked =
    let first : i ≡ 0 = omega arith in
    let at : IsWalked looking (drop 0 xs) places = (let P : ℕ → Type 0 = λ k. IsWalked looking (drop k xs) places in subst P first walked) in
    let all : IsWalked looking looking.own.nodes places = (let P : List ℕ → Type 0 = λ l. IsWalked looking l places in subst P is at) in
    let P : List Place → Type 0 = λ l. IsWalked looking looking.own.nodes l in
    walked-all looking picked (subst P (sym same) all)
