-- How legality from one node on down shows at each node of a rising list.
use Rattle.std.proofs.Common.{◌≡◌, ◌≢◌, ◌↔◌, ◌<◌, ◌≤◌, ◌+◌, ℕ, zero, suc, Bool, IsTrue, List, Option, None, Some, Err, length, get_or, arith, inl, inr, refl, sym, ◌∙◌, ap, subst}
use Rattle.std.specs.List.{All, Contains}
use Rattle.std.proofs.lemmas.List.Elements.{All-contains, Contains-get_or}
use Rattle.step_sets.specs.Sets.{IsSetOf}
use Rattle.step_sets.proofs.GoalLemmas.{not_history_by_kind}
use Rattle.std.specs.Prelude.{slice_get}
use Rattle.std.specs.List.Sorted.{IsBinarySearchResult, IsStrictlyIncreasing}
use Rattle.std.specs.Ordering.{nat_cmp}
use Rattle.std.specs.declared.cmp.Ordering.TheVariants.{Equal}
use Rattle.std.proofs.lemmas.Cmp.{ranked}
use Rattle.std.proofs.lemmas.Option.{get_or_from_slice_get, slice_get-get_or, slice_get_within}
use Rattle.node_tree.proofs.RisingLemmas.{found}
use Rattle.std.proofs.lemmas.Bool.{cases_lt}
use Rattle.std.proofs.lemmas.List.{get_or_default}
use Rattle.std.proofs.Math.Nat.{eq-or-lt_of_le}
use Rattle.node_tree.specs.declared.node.Kind.TheVariants.{Compound, Parallel}
use Rattle.node_tree.specs.declared.node.Node.{Node}
use Rattle.node_tree.specs.Kinds.{kind_of, IsHistory}
use Rattle.node_tree.specs.Nodes.{IsBelow, IsChild, IsTree, IsWithin, child, further}
use Rattle.node_tree.proofs.TreeLemmas.{subtrees_are_runs}
use Rattle.step_sets.specs.Configuration.{HasOneChild, IsLegal}
use Rattle.step_sets.proofs.RunLemmas.{rises, rises_upto}
use Rattle.step_sets.proofs.TreeLemmas.{above_child, below_less, child_towards, one_parent, parent_less}
use Rattle.snapshot_text.specs.Configurations.{FitsAt, HasItsChildren, HasItsParent, IsLegalFrom, IsNextIn}

-- ---- places in a rising list

-- where a member stands
pub place_of : (xs : List ℕ) (n : ℕ) → Contains xs n → (k : ℕ) × (k < length xs) × (get_or xs k 0 ≡ n)
place_of xs n (k, inside, is) = (k, inside, sym (get_or_default xs k n 0 inside) ∙ is)

-- what stands at a place is a member
pub member_at : (xs : List ℕ) (n k : ℕ) → k < length xs → get_or xs k 0 ≡ n → Contains xs n
member_at xs n k inside is = (k, inside, get_or_default xs k n 0 inside ∙ is)

-- a smaller member stands before a greater one
pub before_greater : (xs : List ℕ) → IsStrictlyIncreasing xs → (i j : ℕ) → i < length xs → j < length xs → get_or xs i 0 < get_or xs j 0 → i < j
before_greater xs up i j one other less =
    elim (cases_lt i j) [ inl before ↦ before | inr from ↦ absurd (let le = rises_upto xs up j i from one in omega arith) ]

pub next_unique : (xs : List ℕ) → IsStrictlyIncreasing xs → (n a b : ℕ) → IsNextIn xs n a → IsNextIn xs n b → a ≡ b
next_unique xs up n a b (k, inside, here, next) (j, within, there, after) =
    let same : k ≡ j = elim (cases_lt k j) [
      | inl less ↦ absurd (let lt = rises xs up k j less (omega arith) in omega arith)
      | inr from ↦ elim (eq-or-lt_of_le from) [ inl e ↦ sym e | inr less ↦ absurd (let lt = rises xs up j k less (omega arith) in omega arith) ]
    ] in
    sym next ∙ ap (λ (i : ℕ). get_or xs (i + 1) 0) same ∙ after

-- ---- from each node to all

-- a node with its parent within the top is below it
pub below_by_parent : (nodes : List Node) (n p top : ℕ) → IsChild nodes n p → IsWithin nodes p top → IsBelow nodes n top
below_by_parent nodes n p top is (inl same) = let P : ℕ → Type 0 = λ x. IsChild nodes n x in child n top (subst P same is)
below_by_parent nodes n p top is (inr below) = further n p top is below

pub within_upto : (nodes : List Node) → IsTree nodes → (low top : ℕ) → IsWithin nodes low top → top ≤ low
within_upto nodes tree low top (inl same) = omega arith
within_upto nodes tree low top (inr below) = let less = below_less nodes tree low top below in omega arith

module _ (nodes : List Node) (tree : IsTree nodes) (members : List ℕ) (up : IsStrictlyIncreasing members) (top : ℕ) (some : 0 < length members) (first : get_or members 0 0 ≡ top)
    (fits : (n : ℕ) → Contains members n → FitsAt nodes members top n) where
  least : (n : ℕ) → Contains members n → top ≤ n
  least n has =
      let (k, inside, is) = place_of members n has in
      let le = rises_upto members up 0 k (omega arith) inside in
      omega arith

  reaches : (bound n : ℕ) → n < bound → Contains members n → IsWithin nodes n top
  reaches zero n less has = absurd (omega arith)
  reaches (suc bound) n less has = elim ((fits n has).parent) [
    | inl same ↦ inl same
    | inr (p, is, held, next) ↦ inr (
        let before = parent_less nodes tree n p is in
        below_by_parent nodes n p top is (reaches bound p (omega arith) held))
  ]

  parents : (n p : ℕ) → IsChild nodes n p → n ≢ top → Contains members n → Contains members p
  parents n p is other has = elim ((fits n has).parent) [
    | inl same ↦ absurd (other same)
    | inr (q, it, held, next) ↦ let P : ℕ → Type 0 = λ x. Contains members x in subst P (one_parent nodes n q p it is) held
  ]

  only_next : (c initial n : ℕ) → kind_of nodes c ≡ Some (Compound initial) → Contains members c → IsChild nodes n c → Contains members n → IsNextIn members c n
  only_next c initial n kind has is held = elim ((fits n held).parent) [
    | inl same ↦ absurd (let before = parent_less nodes tree n c is in let low = least c has in omega arith)
    | inr (q, it, _, next) ↦ (
        let e : q ≡ c = one_parent nodes n q c it is in
        let P : ℕ → Type 0 = λ x. IsNextIn members x n in
        subst P e (next initial (ap (kind_of nodes) e ∙ kind)))
  ]

  one_child : (c initial : ℕ) → kind_of nodes c ≡ Some (Compound initial) → Contains members c → HasOneChild nodes (Contains members) c
  one_child c initial kind has =
      let (next, after, is) = (fits c has).children.one_child initial kind in
      let (k, inside, here, there) = after in
      (next, is, member_at members next (k + 1) inside there, (λ n child held. next_unique members up c n next (only_next c initial n kind has child held) after))

  pub legal_from_each : IsLegalFrom nodes top (Contains members)
  legal_from_each = record {
    of_tree = λ n has. (fits n has).of_tree;
    has_top = member_at members top 0 some first;
    within = λ n has. reaches (n + 1) n (omega arith) has;
    parents = parents;
    one_child = one_child;
    all_regions = λ p kind has. (fits p has).children.all_regions kind;
    no_history = λ n has. (fits n has).children.no_history;
  }

-- ---- from all to each node

module _ (nodes : List Node) (tree : IsTree nodes) (members : List ℕ) (up : IsStrictlyIncreasing members) (top : ℕ) (legal : IsLegalFrom nodes top (Contains members)) where
  pub top_least : (n : ℕ) → Contains members n → top ≤ n
  top_least n has = within_upto nodes tree n top (legal.within n has)

  members_up : (x y : ℕ) → top < y → IsBelow nodes x y → Contains members x → Contains members y
  members_up x y after (child low high is) has = legal.parents low high is (λ same. let less = parent_less nodes tree low high is in omega arith) has
  members_up x y after (further low parent high is below) has =
      let less = parent_less nodes tree low parent is in
      let more = below_less nodes tree parent high below in
      members_up parent high after below (legal.parents low parent is (λ same. omega arith) has)

  next_in : (c initial n : ℕ) → kind_of nodes c ≡ Some (Compound initial) → Contains members c → IsChild nodes n c → Contains members n → IsNextIn members c n
  next_in c initial n kind has is held =
      let (k, inside, here) = place_of members c has in
      let (j, within, there) = place_of members n held in
      let less : c < n = parent_less nodes tree n c is in
      let order : k < j = before_greater members up k j inside within (omega arith) in
      let low = top_least c has in
      let above : get_or members k 0 < get_or members (k + 1) 0 = rises members up k (k + 1) (omega arith) (omega arith) in
      let upto : get_or members (k + 1) 0 ≤ get_or members j 0 = rises_upto members up (k + 1) j (omega arith) within in
      let x : ℕ = get_or members (k + 1) 0 in
      let le : x ≤ n = omega arith in
      elim (eq-or-lt_of_le le) [
        | inl same ↦ (k, omega arith, here, same)
        | inr before ↦ absurd (
            let below : IsBelow nodes x c = subtrees_are_runs nodes tree.outline n c x (child n c is) (omega arith) before in
            let (y, it, up') = child_towards nodes x c below in
            let first : c < y = parent_less nodes tree y c it in
            let has-x : Contains members x = member_at members x (k + 1) (omega arith) refl in
            let has-y : Contains members y = elim up' [
              | inl e ↦ (let P : ℕ → Type 0 = λ z. Contains members z in subst P e has-x)
              | inr under ↦ members_up x y (omega arith) under has-x
            ] in
            let one = legal.one_child c initial kind has in
            let a = one.3 y it has-y in
            let b = one.3 n is held in
            let last = within_upto nodes tree x y up' in
            omega arith)
      ]

  has_parent : (n : ℕ) → Contains members n → HasItsParent nodes members top n
  has_parent n has = elim (legal.within n has) [
    | inl same ↦ inl same
    | inr below ↦ inr (
        let (p, is, up') = above_child nodes n top below in
        let less = below_less nodes tree n top below in
        let held = legal.parents n p is (λ same. omega arith) has in
        (p, is, held, (λ initial kind. next_in p initial n kind held is has)))
  ]

  pub fits_by_legal : (n : ℕ) → Contains members n → FitsAt nodes members top n
  fits_by_legal n has = record {
    of_tree = legal.of_tree n has;
    parent = has_parent n has;
    children = record {
      no_history = legal.no_history n has;
      one_child = λ initial kind. let (only, is, held, _) = legal.one_child n initial kind has in (only, next_in n initial only kind has is held, is);
      all_regions = λ kind. legal.all_regions n kind has;
    };
  }

  pub top_first : (0 < length members) × (get_or members 0 0 ≡ top)
  top_first =
      let (k, inside, is) = place_of members top legal.has_top in
      let le = rises_upto members up 0 k (omega arith) inside in
      let some : 0 < length members = omega arith in
      let low = top_least (get_or members 0 0) (member_at members (get_or members 0 0) 0 some refl) in
      (some, omega arith)

-- ---- the whole tree

pub within_root : (nodes : List Node) → IsTree nodes → (bound n : ℕ) → n < bound → n < length nodes → IsWithin nodes n 0
within_root nodes tree zero n less inside = absurd (omega arith)
within_root nodes tree (suc bound) zero less inside = inl refl
within_root nodes tree (suc bound) (suc before) less inside =
    let placed = (tree.outline.rows (suc before) inside).placed in
    let first = parent_less nodes tree (suc before) placed.0 placed.1 in
    inr (below_by_parent nodes (suc before) placed.0 0 placed.1 (within_root nodes tree bound placed.0 (omega arith) (omega arith)))

pub legal_of_root : (nodes : List Node) → IsTree nodes → (Member : ℕ → Type 0) → IsLegalFrom nodes 0 Member → IsLegal nodes Member
legal_of_root nodes tree Member legal = record {
  of_tree = legal.of_tree;
  root = legal.has_top;
  parents = λ n p is has. legal.parents n p is (λ same. let less = parent_less nodes tree n p is in omega arith) has;
  one_child = legal.one_child;
  all_regions = legal.all_regions;
  no_history = legal.no_history;
}

pub root_of_legal : (nodes : List Node) → IsTree nodes → (Member : ℕ → Type 0) → IsLegal nodes Member → IsLegalFrom nodes 0 Member
root_of_legal nodes tree Member legal = record {
  of_tree = legal.of_tree;
  has_top = legal.root;
  within = λ n has. within_root nodes tree (n + 1) n (omega arith) (legal.of_tree n has);
  parents = λ n p is other has. legal.parents n p is has;
  one_child = legal.one_child;
  all_regions = legal.all_regions;
  no_history = legal.no_history;
}

-- ---- searches

same_at : (xs : List ℕ) (at x : ℕ) → nat_cmp (get_or xs at 0) x ≡ Equal → get_or xs at 0 ≡ x
same_at xs at x is = grind (arith, ranked (get_or xs at 0) x Equal (sym is))

pub past_end : (xs : List ℕ) (i : ℕ) → length xs ≤ i → None ≡ slice_get xs i
past_end xs i past = by_got (slice_get xs i) refl where
  by_got : (o : Option ℕ) → slice_get xs i ≡ o → None ≡ slice_get xs i
  by_got None is = sym is
  by_got (Some x) is = absurd (let inside = slice_get_within xs i x is in omega arith)

pub next_found : (xs : List ℕ) → IsStrictlyIncreasing xs → (n place : ℕ) (o : Option ℕ) → place < length xs → ((d : ℕ) → nat_cmp (get_or xs place d) n ≡ Equal) → o ≡ slice_get xs (place + 1) → (next : ℕ) → (o ≡ Some next) ↔ IsNextIn xs n next
next_found xs up n place o inside equal is next =
    let here : get_or xs place 0 ≡ n = same_at xs place n (equal 0) in (
      (λ some.
          let got : slice_get xs (place + 1) ≡ Some next = sym is ∙ some in
          let within : place + 1 < length xs = slice_get_within xs (place + 1) next got in
          (place, within, here, get_or_from_slice_get xs (place + 1) next 0 got)),
      (λ (k, within, there, after).
          let same : k ≡ place = elim (cases_lt k place) [
            | inl less ↦ absurd (let lt = rises xs up k place less inside in omega arith)
            | inr from ↦ elim (eq-or-lt_of_le from) [ inl e ↦ sym e | inr less ↦ absurd (let lt = rises xs up place k less (omega arith) in omega arith) ]
          ] in
          let P : ℕ → Type 0 = λ i. (i + 1 < length xs) × (get_or xs (i + 1) 0 ≡ next) in
          let moved = subst P same (within, after) in
          is ∙ slice_get-get_or xs (place + 1) 0 moved.0 ∙ ap Some moved.1),
    )

pub next_absent : (xs : List ℕ) → IsStrictlyIncreasing xs → (n i : ℕ) → IsBinarySearchResult (λ y. nat_cmp y n) xs (Err i) → (next : ℕ) → (◌≡◌ {A = Option ℕ} None (Some next)) ↔ IsNextIn xs n next
next_absent xs up n i parted next = (
  (λ no. absurd cc),
  (λ (k, within, here, after). absurd (let yes = (found xs n (Err i) up parted).1 (member_at xs n k (omega arith) here) in cc)),
)

-- ---- each node on its own

module _ (nodes : List Node) (members : List ℕ) (top n p : ℕ) (other : n ≢ top) (is : IsChild nodes n p) (b : Bool) where
  pub parent_compound : (initial : ℕ) → kind_of nodes p ≡ Some (Compound initial) → IsTrue b ↔ IsNextIn members p n → IsTrue b ↔ HasItsParent nodes members top n
  parent_compound initial kind tells = (
    (λ yes.
        let (k, inside, here, there) = tells.0 yes in
        inr (p, is, member_at members p k (omega arith) here, (λ _ _. (k, inside, here, there)))),
    (λ has. elim has [
      | inl same ↦ absurd (other same)
      | inr (q, it, held, next) ↦ (
          let e : q ≡ p = one_parent nodes n q p it is in
          let P : ℕ → Type 0 = λ x. IsNextIn members x n in
          tells.1 (subst P e (next initial (ap (kind_of nodes) e ∙ kind))))
    ]),
  )

  pub parent_other : ((initial : ℕ) → kind_of nodes p ≡ Some (Compound initial) → ⊥) → IsTrue b ↔ Contains members p → IsTrue b ↔ HasItsParent nodes members top n
  parent_other plain tells = (
    (λ yes. inr (p, is, tells.0 yes, (λ initial kind. absurd (plain initial kind)))),
    (λ has. elim has [
      | inl same ↦ absurd (other same)
      | inr (q, it, held, next) ↦ tells.1 (let P : ℕ → Type 0 = λ x. Contains members x in subst P (one_parent nodes n q p it is) held)
    ]),
  )

pub children_parallel : (nodes : List Node) (members list : List ℕ) (p : ℕ) → kind_of nodes p ≡ Some Parallel → IsSetOf (λ n. IsChild nodes n p × ¬ IsHistory nodes n) list
    → (b : Bool) → IsTrue b ↔ All (Contains members) list → IsTrue b ↔ HasItsChildren nodes members p
children_parallel nodes members list p kind set b tells = (
  (λ yes. record {
    no_history = not_history_by_kind nodes p Parallel kind (λ no. no);
    one_child = λ initial other. absurd cc;
    all_regions = λ _ r is plain. All-contains (Contains members) list r (tells.0 yes) ((set.exact r).1 (is, plain));
  }),
  (λ has. tells.1 (λ k d inside. let at = (set.exact (get_or list k d)).0 (Contains-get_or list k d inside) in has.all_regions kind (get_or list k d) at.0 at.1)),
)
