-- When the list of a history node is what it remembers of some legal configuration.
use Rattle.std.proofs.Common.{◌≡◌, ◌≢◌, ◌↔◌, ◌⊎◌, ◌<◌, ◌≤◌, ◌+◌, ℕ, zero, suc, List, [], ◌∷◌, ◌++◌, Option, Some, length, get_or, take, arith, inl, inr, refl, sym, ap, ◌∙◌, subst}
use Rattle.std.specs.List.{Contains}
use Rattle.std.specs.List.Sorted.{IsStrictlyIncreasing}
use Rattle.std.proofs.lemmas.Bool.{cases_eq}
use Rattle.std.proofs.lemmas.List.Elements.{All-contains, Contains-get_or, Contains-push, Contains-push_cases, Contains-append_left}
use Rattle.node_tree.specs.declared.node.Kind.{Kind}
use Rattle.node_tree.specs.declared.node.Kind.TheVariants.{Atomic, Compound, Parallel, Final, Shallow, Deep}
use Rattle.node_tree.specs.declared.node.Node.{Node}
use Rattle.node_tree.specs.Kinds.{kind_of, IsHistory, IsHistoryKind, IsLeaf, IsLeafKind}
use Rattle.node_tree.specs.Nodes.{IsBelow, IsChild, IsTree, IsWithin, child, further}
use Rattle.step_sets.specs.Configuration.{IsLegal}
use Rattle.step_sets.specs.History.{CanBeRemembered, as_child, as_leaf}
use Rattle.step_sets.specs.Sets.{IsSetOf}
use Rattle.step_sets.specs.Statechart.{IsFitRecord, IsParentKind, IsStatechart}
use Rattle.step_sets.proofs.GoalLemmas.{history_kind, parent_not_history}
use Rattle.step_sets.proofs.ListLemmas.{Contains-cons_cases, Contains-here, Contains-there, decide_any}
use Rattle.step_sets.proofs.RunLemmas.{rises}
use Rattle.std.specs.Option.{IsSomeAnd, option_map}
use Rattle.std.specs.Prelude.{slice_get}
use Rattle.step_sets.proofs.SetLemmas.{front_more}
use Rattle.step_sets.proofs.TreeLemmas.{above_child, above_parent, below_less, below_parent, child_inside, child_towards, comparable, decide_below, one_parent, parent_inside, parent_less, path_child_unique, within_parent, within_trans}
use Rattle.snapshot_text.specs.Configurations.{IsLegalFrom}
use Rattle.snapshot_text.specs.Histories.{IsFitDeep, IsFitShallow, IsRegion, LeadsToSome}
use Rattle.snapshot_text.proofs.ConfigurationLemmas.{below_by_parent, place_of, within_upto}
use Rattle.snapshot_text.proofs.ExtensionLemmas.{extension}

-- ---- paths

pub within_both : (nodes : List Node) → IsTree nodes → (a b : ℕ) → IsWithin nodes a b → IsWithin nodes b a → a ≡ b
within_both nodes tree a b (inl same) other = same
within_both nodes tree a b (inr below) other = absurd (let less = below_less nodes tree a b below in let le = within_upto nodes tree b a other in omega arith)

pub decide_within : (nodes : List Node) → IsTree nodes → (low high : ℕ) → IsWithin nodes low high ⊎ ¬ IsWithin nodes low high
decide_within nodes tree low high = elim (cases_eq low high) [
  | inl same ↦ inl (inl same)
  | inr other ↦ elim (decide_below nodes tree low high) [
    | inl below ↦ inl (inr below)
    | inr fails ↦ inr (λ within. elim within [ inl same ↦ other same | inr below ↦ fails below ])
  ]
]

module _ (nodes : List Node) (tree : IsTree nodes) (old : ℕ → Type 0) (low : ℕ) where
  -- the nodes from before, and those from the low one up to a node
  abbrev pub HasPath : List ℕ → ℕ → Type 0
  HasPath list node = (n : ℕ) → Contains list n ↔ (old n ⊎ (IsWithin nodes low n × IsWithin nodes n node))

  pub path_start : (before list : List ℕ) → ((n : ℕ) → Contains before n ↔ old n) → list ≡ before ++ low ∷ [] → HasPath list low
  path_start before list same is n = (
    (λ has. elim (Contains-push_cases before low n (let P : List ℕ → Type 0 = λ l. Contains l n in subst P is has)) [
      | inl held ↦ inl ((same n).0 held)
      | inr e ↦ inr (inl e, inl (sym e))
    ]),
    (λ h. let P : List ℕ → Type 0 = λ l. Contains l n in subst P (sym is) (elim h [
      | inl held ↦ Contains-append_left before (low ∷ []) n ((same n).1 held)
      | inr (up, down) ↦ (let e : low ≡ n = within_both nodes tree low n up down in let Q : ℕ → Type 0 = λ x. Contains (before ++ low ∷ []) x in subst Q e (Contains-push before low))
    ])),
  )

  pub path_more : (before list : List ℕ) (node parent : ℕ) → IsWithin nodes low node → IsChild nodes node parent → HasPath before node → list ≡ before ++ parent ∷ [] → HasPath list parent
  path_more before list node parent up child-of path is n = (
    (λ has. elim (Contains-push_cases before parent n (let P : List ℕ → Type 0 = λ l. Contains l n in subst P is has)) [
      | inl held ↦ elim ((path n).0 held) [ inl o ↦ inl o | inr (a, b) ↦ inr (a, inr (within_parent nodes n node parent b child-of)) ]
      | inr e ↦ inr (let Q : ℕ → Type 0 = λ x. IsWithin nodes low x × IsWithin nodes x parent in subst Q e (inr (within_parent nodes low node parent up child-of), inl refl))
    ]),
    (λ h. let P : List ℕ → Type 0 = λ l. Contains l n in subst P (sym is) (elim h [
      | inl held ↦ Contains-append_left before (parent ∷ []) n ((path n).1 (inl held))
      | inr (a, b) ↦ elim (comparable nodes low n node a up) [
        | inl within ↦ Contains-append_left before (parent ∷ []) n ((path n).1 (inr (a, within)))
        | inr below ↦ (
            let e : parent ≡ n = within_both nodes tree parent n (above_parent nodes node parent n child-of below) b in
            let Q : ℕ → Type 0 = λ x. Contains (before ++ parent ∷ []) x in subst Q e (Contains-push before parent))
      ]
    ])),
  )

-- no leaf yet
pub leads_none : (nodes : List Node) (leaves list : List ℕ) (top : ℕ) → list ≡ [] → (n : ℕ) → Contains list n ↔ LeadsToSome nodes (take 0 leaves) top n
leads_none nodes leaves list top is n = (
  (λ has. absurd (let P : List ℕ → Type 0 = λ l. Contains l n in let (k, inside, e) = subst P is has in omega arith)),
  (λ (within, low, (k, inside, e), up). absurd (omega arith)),
)

-- one more leaf
pub leads_one_more : (nodes : List Node) (leaves new old : List ℕ) (top i : ℕ) → i < length leaves
    → ((n : ℕ) → Contains old n ↔ LeadsToSome nodes (take i leaves) top n)
    → ((n : ℕ) → Contains new n ↔ (Contains old n ⊎ (IsWithin nodes (get_or leaves i 0) n × IsWithin nodes n top)))
    → (n : ℕ) → Contains new n ↔ LeadsToSome nodes (take (i + 1) leaves) top n
leads_one_more nodes leaves new old top i inside before more n = (
  (λ has. elim ((more n).0 has) [
    | inl held ↦ (let (within, low, among, up) = (before n).0 held in (within, low, (front_more leaves i low inside).1 (inl among), up))
    | inr (up, within) ↦ (within, get_or leaves i 0, (front_more leaves i (get_or leaves i 0) inside).1 (inr refl), up)
  ]),
  (λ (within, low, among, up). (more n).1 (elim ((front_more leaves i low inside).0 among) [
    | inl earlier ↦ inl ((before n).1 (within, low, earlier, up))
    | inr same ↦ inr ((let P : ℕ → Type 0 = λ x. IsWithin nodes x n in subst P same up), within)
  ])),
)

-- legality from a node on down is that of a set, whatever it is called
pub from_other : (nodes : List Node) (top : ℕ) (M N : ℕ → Type 0) → ((n : ℕ) → M n ↔ N n) → IsLegalFrom nodes top M → IsLegalFrom nodes top N
from_other nodes top M N same legal = record {
  of_tree = λ n has. legal.of_tree n ((same n).1 has);
  has_top = (same top).0 legal.has_top;
  within = λ n has. legal.within n ((same n).1 has);
  parents = λ n p is other has. (same p).0 (legal.parents n p is other ((same n).1 has));
  one_child = λ c initial kind has. let (only, is, held, single) = legal.one_child c initial kind ((same c).1 has) in (only, is, (same only).0 held, (λ n child member. single n child ((same n).1 member)));
  all_regions = λ p kind has r is plain. (same r).0 (legal.all_regions p kind ((same p).1 has) r is plain);
  no_history = λ n has. legal.no_history n ((same n).1 has);
}

-- a node of another kind is no history node
pub other_kind : (nodes : List Node) (h : ℕ) (node : Node) → slice_get nodes h ≡ Some node → ((default : Option ℕ) → node.kind ≡ Shallow default → ⊥) → ((default : Option ℕ) → node.kind ≡ Deep default → ⊥) → ¬ IsHistory nodes h
other_kind nodes h node is not-shallow not-deep history =
    let (k, known, kind) = history_kind nodes h history in
    let e : Some node.kind ≡ Some k = ap (option_map (λ (node : Node). node.kind)) (sym is) ∙ known in
    by_kind k (let f : node.kind ≡ k = cc in f) kind
  where
    by_kind : (k : Kind) → node.kind ≡ k → IsHistoryKind k → ⊥
    by_kind (Shallow default) same kind = not-shallow default same
    by_kind (Deep default) same kind = not-deep default same
    by_kind Atomic same kind = kind
    by_kind (Compound initial) same kind = kind
    by_kind Parallel same kind = kind
    by_kind Final same kind = kind

-- ---- one set, one list

rising_tail : (x : ℕ) (xs : List ℕ) → IsStrictlyIncreasing (x ∷ xs) → IsStrictlyIncreasing xs
rising_tail x xs up k within = rises (x ∷ xs) up (suc k) (suc (k + 1)) (omega arith) (omega arith)

above_head : (x n : ℕ) (xs : List ℕ) → IsStrictlyIncreasing (x ∷ xs) → Contains xs n → x < n
above_head x n xs up has =
    let (k, inside, is) = place_of xs n has in
    let less = rises (x ∷ xs) up 0 (suc k) (omega arith) (omega arith) in
    omega arith

same_items : (xs ys : List ℕ) → IsStrictlyIncreasing xs → IsStrictlyIncreasing ys → ((n : ℕ) → Contains xs n ↔ Contains ys n) → xs ≡ ys
same_items [] [] one other same = refl
same_items [] (y ∷ ys) one other same = absurd (let (k, inside, is) = (same y).1 (Contains-here y ys) in omega arith)
same_items (x ∷ xs) [] one other same = absurd (let (k, inside, is) = (same x).0 (Contains-here x xs) in omega arith)
same_items (x ∷ xs) (y ∷ ys) one other same =
    ap (λ (n : ℕ). n ∷ xs) heads ∙ ap (λ (l : List ℕ). y ∷ l) (same_items xs ys (rising_tail x xs one) (rising_tail y ys other) tails)
  where
    heads : x ≡ y
    heads = elim (Contains-cons_cases x y ys ((same x).0 (Contains-here x xs))) [
      | inl e ↦ sym e
      | inr later ↦ elim (Contains-cons_cases y x xs ((same y).1 (Contains-here y ys))) [
        | inl e ↦ e
        | inr also ↦ absurd (let a = above_head y x ys other later in let b = above_head x y xs one also in omega arith)
      ]
    ]

    tails : (n : ℕ) → Contains xs n ↔ Contains ys n
    tails n = (
      (λ has. elim (Contains-cons_cases n y ys ((same n).0 (Contains-there n x xs has))) [ inl e ↦ absurd (let less = above_head x n xs one has in omega (arith, heads)) | inr there ↦ there ]),
      (λ has. elim (Contains-cons_cases n x xs ((same n).1 (Contains-there n y ys has))) [ inl e ↦ absurd (let less = above_head y n ys other has in omega (arith, heads)) | inr there ↦ there ]),
    )

-- two rising lists with the same items are one
pub one_list : (F : ℕ → Type 0) (xs ys : List ℕ) → IsSetOf F xs → IsSetOf F ys → xs ≡ ys
one_list F xs ys one other = same_items xs ys one.in_order other.in_order (λ n. ((λ has. (other.exact n).1 ((one.exact n).0 has)), (λ has. (one.exact n).1 ((other.exact n).0 has))))

one_item : (x : ℕ) → IsSetOf (λ n. n ≡ x) (x ∷ [])
one_item x = record {
  in_order = λ k within. absurd (omega arith);
  exact = λ n. (
    (λ has. elim (Contains-cons_cases n x [] has) [ inl e ↦ sym e | inr (k, inside, is) ↦ absurd (omega arith) ]),
    (λ same. let P : ℕ → Type 0 = λ z. Contains (x ∷ []) z in subst P (sym same) (Contains-here x [])),
  );
}

-- the kind of a node
kind_known : (nodes : List Node) (n : ℕ) → n < length nodes → (k : Kind) × (kind_of nodes n ≡ Some k)
kind_known [] n inside = absurd (omega arith)
kind_known (node ∷ nodes) zero inside = (node.kind, refl)
kind_known (node ∷ nodes) (suc n) inside = kind_known nodes n (omega arith)

-- ---- legality from a node on down, and of the whole

module _ (nodes : List Node) (tree : IsTree nodes) (chart : IsStatechart nodes) where
  -- what is above an active node is active
  active_up : (M : ℕ → Type 0) → IsLegal nodes M → (low high : ℕ) → IsBelow nodes low high → M low → M high
  active_up M legal low high (child l h is) has = legal.parents low high is has
  active_up M legal low high (further l parent h is below) has = active_up M legal parent high below (legal.parents low parent is has)

  active_within : (M : ℕ → Type 0) → IsLegal nodes M → (low high : ℕ) → IsWithin nodes low high → M low → M high
  active_within M legal low high (inl same) has = subst M same has
  active_within M legal low high (inr below) has = active_up M legal low high below has

  child_within : (n p top : ℕ) → IsChild nodes n p → IsWithin nodes p top → IsWithin nodes n top
  child_within n p top is within = inr (below_by_parent nodes n p top is within)

  -- the part of a legal configuration from a member on down
  pub part_legal : (M : ℕ → Type 0) → IsLegal nodes M → (top : ℕ) → M top → IsLegalFrom nodes top (λ n. M n × IsWithin nodes n top)
  part_legal M legal top has = record {
    of_tree = λ n m. legal.of_tree n m.0;
    has_top = (has, inl refl);
    within = λ n m. m.1;
    parents = λ n p is other m. (legal.parents n p is m.0, elim m.1 [ inl same ↦ absurd (other same) | inr below ↦ above_parent nodes n p top is below ]);
    one_child = λ c initial kind m.
        let (only, is, held, single) = legal.one_child c initial kind m.0 in
        (only, is, (held, child_within only c top is m.1), (λ n child member. single n child member.0));
    all_regions = λ p kind m r is plain. (legal.all_regions p kind m.0 r is plain, child_within r p top is m.1);
    no_history = λ n m. legal.no_history n m.0;
  }

  kind_leaf : (n : ℕ) (k : Kind) → kind_of nodes n ≡ Some k → IsLeaf nodes n → IsLeafKind k
  kind_leaf n k known leaf = let P : Option Kind → Type 0 = λ o. IsSomeAnd o IsLeafKind in subst P known leaf

  leaf_no_parent : (n p : ℕ) → IsChild nodes n p → ¬ IsLeaf nodes p
  leaf_no_parent n p is leaf = let (kind, known, parents) = chart.parents n p is in by_kind kind known parents where
    by_kind : (k : Kind) → kind_of nodes p ≡ Some k → IsParentKind k → ⊥
    by_kind (Compound initial) known parents = kind_leaf p (Compound initial) known leaf
    by_kind Parallel known parents = kind_leaf p Parallel known leaf
    by_kind Atomic known parents = parents
    by_kind Final known parents = parents
    by_kind (Shallow default) known parents = parents
    by_kind (Deep default) known parents = parents

  -- a leaf of a legal configuration at or below each of its members
  leaf_under : (M : ℕ → Type 0) → IsLegal nodes M → (fuel n : ℕ) → length nodes ≤ n + fuel → M n → (l : ℕ) × M l × IsWithin nodes l n × IsLeaf nodes l
  leaf_under M legal zero n enough has = absurd (let inside = legal.of_tree n has in omega arith)
  leaf_under M legal (suc fuel) n enough has =
      let (kind, known) = kind_known nodes n (legal.of_tree n has) in
      by_kind (λ m later. leaf_under M legal fuel m (omega arith)) kind known
    where
      under : ((m : ℕ) → n < m → M m → (l : ℕ) × M l × IsWithin nodes l m × IsLeaf nodes l) → (m : ℕ) → IsChild nodes m n → M m → (l : ℕ) × M l × IsWithin nodes l n × IsLeaf nodes l
      under rest m is held =
          let (l, a, w, leaf) = rest m (parent_less nodes tree m n is) held in
          (l, a, within_trans nodes l m n w (inr (child m n is)), leaf)

      itself : (k : Kind) → kind_of nodes n ≡ Some k → IsLeafKind k → (l : ℕ) × M l × IsWithin nodes l n × IsLeaf nodes l
      itself k known leaf = (n, has, inl refl, (let P : Option Kind → Type 0 = λ o. IsSomeAnd o IsLeafKind in subst P (sym known) leaf))

      never : (k : Kind) → kind_of nodes n ≡ Some k → IsHistoryKind k → (l : ℕ) × M l × IsWithin nodes l n × IsLeaf nodes l
      never k known history = absurd (legal.no_history n has (let P : Option Kind → Type 0 = λ o. IsSomeAnd o IsHistoryKind in subst P (sym known) history))

      by_kind : ((m : ℕ) → n < m → M m → (l : ℕ) × M l × IsWithin nodes l m × IsLeaf nodes l) → (k : Kind) → kind_of nodes n ≡ Some k → (l : ℕ) × M l × IsWithin nodes l n × IsLeaf nodes l
      by_kind rest Atomic known = itself Atomic known tt
      by_kind rest Final known = itself Final known tt
      by_kind rest (Compound initial) known = let (only, is, held, single) = legal.one_child n initial known has in under rest only is held
      by_kind rest Parallel known = let (r, is, plain) = chart.regions n known in under rest r is (legal.all_regions n known has r is plain)
      by_kind rest (Shallow default) known = never (Shallow default) known tt
      by_kind rest (Deep default) known = never (Deep default) known tt

  -- a legal configuration that has a part that is legal from a node on down has nothing else there
  part_only : (C M : ℕ → Type 0) (top : ℕ) → IsLegalFrom nodes top C → IsLegal nodes M → ((n : ℕ) → C n → M n) → (bound n : ℕ) → n < bound → M n → IsWithin nodes n top → C n
  part_only C M top part legal has zero n less m within = absurd (omega arith)
  part_only C M top part legal has (suc bound) n less m (inl same) = subst C (sym same) part.has_top
  part_only C M top part legal has (suc bound) n less m (inr below) =
      let (q, is, above) = above_child nodes n top below in
      let first = parent_less nodes tree n q is in
      let cq = part_only C M top part legal has bound q (omega arith) (legal.parents n q is m) above in
      let (kind, known, parents) = chart.parents n q is in
      by_kind q is cq kind known parents
    where
      by_kind : (q : ℕ) → IsChild nodes n q → C q → (k : Kind) → kind_of nodes q ≡ Some k → IsParentKind k → C n
      by_kind q is cq (Compound initial) known parents =
          let (only, is-only, held, _) = part.one_child q initial known cq in
          let (other, is-other, member, single) = legal.one_child q initial known (has q cq) in
          let e : only ≡ n = single only is-only (has only held) ∙ sym (single n is m) in
          subst C e held
      by_kind q is cq Parallel known parents = part.all_regions q known cq n is (legal.no_history n m)
      by_kind q is cq Atomic known parents = absurd parents
      by_kind q is cq Final known parents = absurd parents
      by_kind q is cq (Shallow default) known parents = absurd parents
      by_kind q is cq (Deep default) known parents = absurd parents

  module _ (h p : ℕ) (is-h : IsChild nodes h p) where
    is_history : (k : Kind) → kind_of nodes h ≡ Some k → IsHistoryKind k → IsHistory nodes h
    is_history k known history = let P : Option Kind → Type 0 = λ o. IsSomeAnd o IsHistoryKind in subst P (sym known) history

    -- ---- deep

    deep_is : (default : Option ℕ) → kind_of nodes h ≡ Some (Deep default) → (n : ℕ) → CanBeRemembered nodes h n → IsBelow nodes n p × IsLeaf nodes n
    deep_is default kind n (as_child other is child-of) = absurd cc
    deep_is default kind n (as_leaf {default = d} {parent = q} other is below leaf) = let P : ℕ → Type 0 = λ x. IsBelow nodes n x in (subst P (one_parent nodes h q p is is-h) below, leaf)

    pub deep_of_record : (default : Option ℕ) → kind_of nodes h ≡ Some (Deep default) → (list : List ℕ) → IsFitRecord nodes h list → IsFitDeep nodes p list
    deep_of_record default kind list fit =
        let M : ℕ → Type 0 = λ n. Contains fit.active n in
        let P : ℕ → Type 0 = λ x. Contains fit.active x in
        let top : Contains fit.active p = subst P (one_parent nodes h fit.parent p fit.child is-h) fit.has_parent in
        let each : (n : ℕ) → Contains list n → Contains fit.active n × (IsBelow nodes n p × IsLeaf nodes n) = λ n has. let (a, can) = (fit.remembered.exact n).0 has in (a, deep_is default kind n can) in
        record {
          in_order = fit.remembered.in_order;
          leaves = λ k d inside. (each (get_or list k d) (Contains-get_or list k d inside)).1;
          legal = from_other nodes p (λ n. M n × IsWithin nodes n p) (LeadsToSome nodes list p)
              (λ n. (
                (λ (a, within).
                    let (l, al, up, leaf) = leaf_under M fit.legal (length nodes) n (omega arith) a in
                    (within, l, (fit.remembered.exact l).1 (al, as_leaf kind is-h (below_top l (within_trans nodes l n p up within) leaf) leaf), up)),
                (λ (within, low, among, up). (active_within M fit.legal low n up (each low among).0, within)),
              )) (part_legal M fit.legal p top);
        }
      where
        below_top : (l : ℕ) → IsWithin nodes l p → IsLeaf nodes l → IsBelow nodes l p
        below_top l (inl same) leaf = absurd (leaf_no_parent h p is-h (let Q : ℕ → Type 0 = λ x. IsLeaf nodes x in subst Q same leaf))
        below_top l (inr below) leaf = below

    -- whether a node leads to one of a list can be decided
    decide_leads : (list : List ℕ) (n : ℕ) → LeadsToSome nodes list p n ⊎ ¬ LeadsToSome nodes list p n
    decide_leads list n = elim (decide_within nodes tree n p) [
      | inr fails ↦ inr (λ leads. fails leads.0)
      | inl within ↦ elim (decide_any (λ low. IsWithin nodes low n) (λ low. decide_within nodes tree low n) list) [
        | inl (low, among, up) ↦ inl (within, low, among, up)
        | inr none ↦ inr (λ (w, low, among, up). none low among up)
      ]
    ]

    -- ---- a part, and what is above it

    module _ (C : ℕ → Type 0) (decide : (n : ℕ) → C n ⊎ ¬ C n) (part : IsLegalFrom nodes p C) where
      abbrev Given : ℕ → Type 0
      Given n = C n ⊎ IsBelow nodes p n

      decide_given : (n : ℕ) → Given n ⊎ ¬ Given n
      decide_given n = elim (decide n) [
        | inl holds ↦ inl (inl holds)
        | inr fails ↦ elim (decide_below nodes tree p n) [ inl below ↦ inl (inr below) | inr none ↦ inr (λ given. elim given [ inl holds ↦ fails holds | inr below ↦ none below ]) ]
      ]

      given_inside : (n : ℕ) → Given n → n < length nodes
      given_inside n (inl c) = part.of_tree n c
      given_inside n (inr below) = let less = below_less nodes tree p n below in let inside = parent_inside nodes tree h p is-h in omega arith

      given_plain : (n : ℕ) → Given n → ¬ IsHistory nodes n
      given_plain n (inl c) = part.no_history n c
      given_plain n (inr below) = let (m, is, _) = child_towards nodes p n below in parent_not_history nodes chart m n is

      given_above : (n q : ℕ) → Given n → IsChild nodes n q → Given q
      given_above n q (inl c) is = elim (cases_eq n p) [
        | inl same ↦ inr (child p q (let P : ℕ → Type 0 = λ x. IsChild nodes x q in subst P same is))
        | inr other ↦ inl (part.parents n q is other c)
      ]
      given_above n q (inr below) is = inr (below_parent nodes p n q below is)

      -- a given child of what is above the part leads to the part, and one of the part's nodes is of the part
      towards : (c m : ℕ) → Given m → IsChild nodes m c → (IsBelow nodes p c × IsWithin nodes p m) ⊎ (C m × IsWithin nodes c p)
      towards c m (inr below) is = inl (below_parent nodes p m c below is, inr below)
      towards c m (inl held) is = elim (part.within m held) [
        | inl same ↦ inl (child p c (let P : ℕ → Type 0 = λ x. IsChild nodes x c in subst P same is), inl (sym same))
        | inr below ↦ inr (held, above_parent nodes m c p is below)
      ]

      apart : (c : ℕ) → IsBelow nodes p c → IsWithin nodes c p → ⊥
      apart c above within = let less = below_less nodes tree p c above in let le = within_upto nodes tree c p within in omega arith

      given_single : (c initial m n : ℕ) → kind_of nodes c ≡ Some (Compound initial) → Given m → Given n → IsChild nodes m c → IsChild nodes n c → m ≡ n
      given_single c initial m n kind gm gn im is = elim (towards c m gm im) [
        | inl (above, one) ↦ elim (towards c n gn is) [
          | inl (_, other) ↦ path_child_unique nodes tree p m n c im is one other
          | inr (held, within) ↦ absurd (apart c above within)
        ]
        | inr (held, within) ↦ elim (towards c n gn is) [
          | inl (above, _) ↦ absurd (apart c above within)
          | inr (other, _) ↦ (
              let not-top : m ≢ p = λ same. apart c (child p c (let P : ℕ → Type 0 = λ x. IsChild nodes x c in subst P same im)) within in
              let (only, io, ho, single) = part.one_child c initial kind (part.parents m c im not-top held) in
              single m im held ∙ sym (single n is other))
        ]
      ]

      pub around : (active : List ℕ) × IsLegal nodes (Contains active) × ((n : ℕ) → Given n → Contains active n)
      around = extension nodes tree chart Given decide_given given_inside given_plain given_above given_single

    pub record_of_deep : (default : Option ℕ) → kind_of nodes h ≡ Some (Deep default) → (list : List ℕ) → IsFitDeep nodes p list → IsFitRecord nodes h list
    record_of_deep default kind list deep =
        let C : ℕ → Type 0 = λ n. LeadsToSome nodes list p n in
        let (active, legal, has) = around C (decide_leads list) deep.legal in
        record {
          history = is_history (Deep default) kind tt;
          parent = p;
          child = is-h;
          active = active;
          legal = legal;
          has_parent = has p (inl deep.legal.has_top);
          remembered = record {
            in_order = deep.in_order;
            exact = λ n. (
              (λ among.
                  let (below, leaf) = All-contains (λ n. IsBelow nodes n p × IsLeaf nodes n) list n deep.leaves among in
                  (has n (inl (inr below, n, among, inl refl)), as_leaf kind is-h below leaf)),
              (λ (a, can).
                  let (below, leaf) = deep_is default kind n can in
                  let (within, low, among, up) = part_only C (λ n. Contains active n) p deep.legal legal (λ m c. has m (inl c)) (n + 1) n (omega arith) a (inr below) in
                  at_leaf n low leaf among up),
            );
          };
        }
      where
        at_leaf : (n low : ℕ) → IsLeaf nodes n → Contains list low → IsWithin nodes low n → Contains list n
        at_leaf n low leaf among (inl same) = let P : ℕ → Type 0 = λ x. Contains list x in subst P same among
        at_leaf n low leaf among (inr below) = absurd (let (m, is, _) = child_towards nodes low n below in leaf_no_parent m n is leaf)

    -- ---- shallow

    shallow_is : (default : Option ℕ) → kind_of nodes h ≡ Some (Shallow default) → (n : ℕ) → CanBeRemembered nodes h n → IsChild nodes n p
    shallow_is default kind n (as_child {default = d} {parent = q} other is child-of) = let P : ℕ → Type 0 = λ x. IsChild nodes n x in subst P (one_parent nodes h q p is is-h) child-of
    shallow_is default kind n (as_leaf other is below leaf) = absurd cc

    pub shallow_of_record : (default : Option ℕ) → kind_of nodes h ≡ Some (Shallow default) → (list : List ℕ) → IsFitRecord nodes h list → IsFitShallow nodes p list
    shallow_of_record default kind list fit =
        let (k, known, parents) = chart.parents h p is-h in
        by_kind k known parents
      where
        top : Contains fit.active p
        top = let P : ℕ → Type 0 = λ x. Contains fit.active x in subst P (one_parent nodes h fit.parent p fit.child is-h) fit.has_parent

        each : (n : ℕ) → Contains list n → Contains fit.active n × IsChild nodes n p
        each n has = let (a, can) = (fit.remembered.exact n).0 has in (a, shallow_is default kind n can)

        among : (n : ℕ) → Contains fit.active n → IsChild nodes n p → Contains list n
        among n a is = (fit.remembered.exact n).1 (a, as_child kind is-h is)

        by_kind : (k : Kind) → kind_of nodes p ≡ Some k → IsParentKind k → IsFitShallow nodes p list
        by_kind (Compound initial) known parents =
            let (only, is, held, single) = fit.legal.one_child p initial known top in
            inl (
              initial,
              known,
              (
                only,
                one_list (λ n. n ≡ only) list (only ∷ [])
                    (record { in_order = fit.remembered.in_order; exact = λ n. ((λ has. let (a, child-of) = each n has in single n child-of a), (λ same. let P : ℕ → Type 0 = λ x. Contains list x in subst P (sym same) (among only held is))) })
                    (one_item only),
                (is, fit.legal.no_history only held),
              ),
            )
        by_kind Parallel known parents = inr (
          known,
          record {
            in_order = fit.remembered.in_order;
            exact = λ n. (
              (λ has. let (a, child-of) = each n has in (child-of, fit.legal.no_history n a)),
              (λ (child-of, plain). among n (fit.legal.all_regions p known top n child-of plain) child-of),
            );
          },
        )
        by_kind Atomic known parents = absurd parents
        by_kind Final known parents = absurd parents
        by_kind (Shallow default) known parents = absurd parents
        by_kind (Deep default) known parents = absurd parents

    module _ (list : List ℕ) (regions : (n : ℕ) → Contains list n → IsRegion nodes p n)
        (alone : (initial : ℕ) → kind_of nodes p ≡ Some (Compound initial) → (m n : ℕ) → Contains list m → Contains list n → m ≡ n) where
      abbrev Kept : ℕ → Type 0
      Kept n = Contains list n ⊎ IsWithin nodes p n

      decide_kept : (n : ℕ) → Kept n ⊎ ¬ Kept n
      decide_kept n = elim (decide_any (λ x. x ≡ n) (λ x. cases_eq x n) list) [
        | inl (x, among, same) ↦ inl (inl (let P : ℕ → Type 0 = λ z. Contains list z in subst P same among))
        | inr none ↦ elim (decide_within nodes tree p n) [
          | inl within ↦ inl (inr within)
          | inr fails ↦ inr (λ kept. elim kept [ inl among ↦ none n among refl | inr within ↦ fails within ])
        ]
      ]

      kept_inside : (n : ℕ) → Kept n → n < length nodes
      kept_inside n (inl among) = child_inside nodes n p (regions n among).0
      kept_inside n (inr within) = let le = within_upto nodes tree p n within in let inside = parent_inside nodes tree h p is-h in omega arith

      kept_plain : (n : ℕ) → Kept n → ¬ IsHistory nodes n
      kept_plain n (inl among) = (regions n among).1
      kept_plain n (inr (inl same)) = let P : ℕ → Type 0 = λ x. ¬ IsHistory nodes x in subst P same (parent_not_history nodes chart h p is-h)
      kept_plain n (inr (inr below)) = let (m, is, _) = child_towards nodes p n below in parent_not_history nodes chart m n is

      kept_above : (n q : ℕ) → Kept n → IsChild nodes n q → Kept q
      kept_above n q (inl among) is = inr (inl (one_parent nodes n p q (regions n among).0 is))
      kept_above n q (inr within) is = inr (inr (within_parent nodes p n q within is))

      mixed : (c m n : ℕ) → Contains list m → IsWithin nodes p n → IsChild nodes m c → IsChild nodes n c → ⊥
      mixed c m n among within im is =
          let same = one_parent nodes m p c (regions m among).0 im in
          let first = parent_less nodes tree n c is in
          let le = within_upto nodes tree p n within in
          omega arith

      kept_single : (c initial m n : ℕ) → kind_of nodes c ≡ Some (Compound initial) → Kept m → Kept n → IsChild nodes m c → IsChild nodes n c → m ≡ n
      kept_single c initial m n kind (inl a) (inl b) im is = alone initial (ap (kind_of nodes) (one_parent nodes m p c (regions m a).0 im) ∙ kind) m n a b
      kept_single c initial m n kind (inl a) (inr w) im is = absurd (mixed c m n a w im is)
      kept_single c initial m n kind (inr w) (inl b) im is = absurd (mixed c n m b w is im)
      kept_single c initial m n kind (inr v) (inr w) im is = path_child_unique nodes tree p m n c im is v w

      shallow_record : (default : Option ℕ) → kind_of nodes h ≡ Some (Shallow default) → IsStrictlyIncreasing list
          → ((active : List ℕ) → IsLegal nodes (Contains active) → ((n : ℕ) → Kept n → Contains active n) → (n : ℕ) → Contains active n → IsChild nodes n p → Contains list n) → IsFitRecord nodes h list
      shallow_record default kind rising only =
          let (active, legal, has) = extension nodes tree chart Kept decide_kept kept_inside kept_plain kept_above kept_single in
          record {
            history = is_history (Shallow default) kind tt;
            parent = p;
            child = is-h;
            active = active;
            legal = legal;
            has_parent = has p (inr (inl refl));
            remembered = record {
              in_order = rising;
              exact = λ n. (
                (λ among. (has n (inl among), as_child kind is-h (regions n among).0)),
                (λ (a, can). only active legal has n a (shallow_is default kind n can)),
              );
            };
          }

    in_one : (x n : ℕ) (list : List ℕ) → list ≡ x ∷ [] → Contains list n → n ≡ x
    in_one x n list is has = ((one_item x).exact n).0 (let P : List ℕ → Type 0 = λ l. Contains l n in subst P is has)

    one_in : (x : ℕ) (list : List ℕ) → list ≡ x ∷ [] → Contains list x
    one_in x list is = let P : List ℕ → Type 0 = λ l. Contains l x in subst P (sym is) (Contains-here x [])

    pub record_of_shallow : (default : Option ℕ) → kind_of nodes h ≡ Some (Shallow default) → (list : List ℕ) → IsFitShallow nodes p list → IsFitRecord nodes h list
    record_of_shallow default kind list (inl (initial, known, (only, is, region))) =
        shallow_record list (λ n has. let P : ℕ → Type 0 = λ x. IsRegion nodes p x in subst P (sym (in_one only n list is has)) region)
        (λ _ _ m n a b. in_one only m list is a ∙ sym (in_one only n list is b))
        default kind (let P : List ℕ → Type 0 = λ l. IsStrictlyIncreasing l in subst P (sym is) (one_item only).in_order)
        (λ active legal has n a child-of.
        let (other, io, ho, single) = legal.one_child p initial known (has p (inr (inl refl))) in
        let e : only ≡ n = single only region.0 (has only (inl (one_in only list is))) ∙ sym (single n child-of a) in
        let P : ℕ → Type 0 = λ x. Contains list x in subst P e (one_in only list is))
    record_of_shallow default kind list (inr (known, set)) =
        shallow_record list (λ n has. (set.exact n).0 has) (λ initial other m n a b. absurd cc)
        default kind set.in_order
        (λ active legal has n a child-of. (set.exact n).1 (child-of, legal.no_history n a))
