-- Nodes that may be active together are part of a legal configuration: each further compound node takes its
-- initial child.
use Rattle.std.proofs.Common.{◌≡◌, ◌↔◌, ◌⊎◌, ◌<◌, ◌+◌, ℕ, zero, suc, List, [], ◌∷◌, ◌++◌, Option, None, Some, length, arith, inl, inr, refl, sym, ap, ◌∙◌, subst}
use Rattle.std.specs.List.{Contains}
use Rattle.std.proofs.lemmas.Bool.{cases_eq}
use Rattle.node_tree.specs.declared.node.Kind.{Kind}
use Rattle.node_tree.specs.declared.node.Kind.TheVariants.{Atomic, Compound, Parallel, Final, Shallow, Deep}
use Rattle.node_tree.specs.declared.node.Node.{Node}
use Rattle.node_tree.specs.Kinds.{kind_of, IsHistory}
use Rattle.node_tree.specs.Nodes.{IsChild, IsTree, parent_of}
use Rattle.step_sets.specs.Configuration.{HasOneChild, IsLegal}
use Rattle.step_sets.specs.Sets.{IsSetOf}
use Rattle.step_sets.specs.Statechart.{IsParentKind, IsStatechart}
use Rattle.step_sets.proofs.GoalLemmas.{decide_history}
use Rattle.step_sets.proofs.SetLemmas.{IsSetOf-push, IsSetOf-same}
use Rattle.step_sets.proofs.TreeLemmas.{child_inside, initial_child, one_parent, parent_less, root_no_child}

-- whether a node has another one as parent
pub decide_child : (nodes : List Node) (n p : ℕ) → IsChild nodes n p ⊎ ¬ IsChild nodes n p
decide_child nodes n p = by_parent (parent_of nodes n) refl where
  by_parent : (o : Option ℕ) → parent_of nodes n ≡ o → IsChild nodes n p ⊎ ¬ IsChild nodes n p
  by_parent None is = inr (λ child. cc)
  by_parent (Some q) is = elim (cases_eq q p) [ inl same ↦ inl (is ∙ ap Some same) | inr other ↦ inr (λ child. other cc) ]

-- ---- a list of the numbers that pass

set_upto : (P : ℕ → Type 0) → ((n : ℕ) → P n ⊎ ¬ P n) → (k : ℕ) → (list : List ℕ) × IsSetOf (λ n. (n < k) × P n) list
set_upto P decide zero = ([], record { in_order = λ k h. absurd (omega arith); exact = λ n. ((λ (k, h, e). absurd (omega arith)), (λ f. absurd (let less = f.0 in omega arith))) })
set_upto P decide (suc k) = more (set_upto P decide k) (decide k) where
  more : (list : List ℕ) × IsSetOf (λ n. (n < k) × P n) list → P k ⊎ ¬ P k → (list : List ℕ) × IsSetOf (λ n. (n < suc k) × P n) list
  more (list, set) (inl holds) = (
    list ++ k ∷ [],
    IsSetOf-push list k set (λ n f. f.0) (λ n. (
      (λ g. elim (cases_eq n k) [ inl same ↦ inr same | inr other ↦ inl (let less = g.0 in omega arith, g.1) ]),
      (λ f. elim f [ inl h ↦ (let less = h.0 in omega arith, h.1) | inr same ↦ (omega arith, subst P (sym same) holds) ]),
    )),
  )
  more (list, set) (inr fails) = (
    list,
    IsSetOf-same list set (λ n. (
      (λ f. (let less = f.0 in omega arith, f.1)),
      (λ g. (elim (cases_eq n k) [ inl same ↦ absurd (fails (subst P same g.1)) | inr other ↦ (let less = g.0 in omega arith) ], g.1)),
    )),
  )

-- the same configuration under another name
pub legal_as : (nodes : List Node) (M N : ℕ → Type 0) → ((n : ℕ) → M n ↔ N n) → IsLegal nodes M → IsLegal nodes N
legal_as nodes M N same legal = record {
  of_tree = λ n has. legal.of_tree n ((same n).1 has);
  root = (same 0).0 legal.root;
  parents = λ n p is has. (same p).0 (legal.parents n p is ((same n).1 has));
  one_child = λ c initial kind has. let (only, is, held, single) = legal.one_child c initial kind ((same c).1 has) in (only, is, (same only).0 held, (λ n child member. single n child ((same n).1 member)));
  all_regions = λ p kind has r is plain. (same r).0 (legal.all_regions p kind ((same p).1 has) r is plain);
  no_history = λ n has. legal.no_history n ((same n).1 has);
}

-- ---- the extension

-- the given child of a compound node, or its initial one where none is given
abbrev pub Picks : List Node → (ℕ → Type 0) → ℕ → ℕ → ℕ → Type 0
Picks nodes Given p initial n = Given n ⊎ (((m : ℕ) → Given m → IsChild nodes m p → ⊥) × (n ≡ initial))

-- the root, each region of what is active, and the child of what is active that is picked
pub data IsIn (nodes : List Node) (Given : ℕ → Type 0) : ℕ → Type 0 where
  root : IsIn nodes Given 0
  region : (n p : ℕ) → IsChild nodes n p → IsIn nodes Given p → kind_of nodes p ≡ Some Parallel → ¬ IsHistory nodes n → IsIn nodes Given n
  picked : (n p initial : ℕ) → IsChild nodes n p → IsIn nodes Given p → kind_of nodes p ≡ Some (Compound initial) → Picks nodes Given p initial n → IsIn nodes Given n

abbrev Entered : List Node → (ℕ → Type 0) → ℕ → ℕ → Type 0
Entered nodes Given n p = ((kind_of nodes p ≡ Some Parallel) × ¬ IsHistory nodes n) ⊎ ((initial : ℕ) × (kind_of nodes p ≡ Some (Compound initial)) × Picks nodes Given p initial n)

in_cases : (nodes : List Node) (Given : ℕ → Type 0) (n : ℕ) → IsIn nodes Given n → (n ≡ 0) ⊎ ((p : ℕ) × IsChild nodes n p × IsIn nodes Given p × Entered nodes Given n p)
in_cases nodes Given n root = inl refl
in_cases nodes Given n0 (region n p is has kind plain) = inr (p, is, has, inl (kind, plain))
in_cases nodes Given n0 (picked n p initial is has kind picks) = inr (p, is, has, inr (initial, kind, picks))

module _ (nodes : List Node) (tree : IsTree nodes) (chart : IsStatechart nodes) (Given : ℕ → Type 0) (decide : (n : ℕ) → Given n ⊎ ¬ Given n)
    (inside : (n : ℕ) → Given n → n < length nodes) (plain : (n : ℕ) → Given n → ¬ IsHistory nodes n) (above : (n p : ℕ) → Given n → IsChild nodes n p → Given p)
    (single : (c initial m n : ℕ) → kind_of nodes c ≡ Some (Compound initial) → Given m → Given n → IsChild nodes m c → IsChild nodes n c → m ≡ n) where
  -- a given child of a node
  child_below : (c k : ℕ) → ((m : ℕ) × Given m × IsChild nodes m c) ⊎ ((m : ℕ) → m < k → Given m → IsChild nodes m c → ⊥)
  child_below c zero = inr (λ m less. absurd (omega arith))
  child_below c (suc k) = elim (child_below c k) [
    | inl found ↦ inl found
    | inr none ↦ elim (decide k) [
      | inr fails ↦ inr (λ m less given is. elim (cases_eq m k) [ inl same ↦ fails (let P : ℕ → Type 0 = λ x. Given x in subst P same given) | inr other ↦ none m (omega arith) given is ])
      | inl holds ↦ elim (decide_child nodes k c) [
        | inl is ↦ inl (k, holds, is)
        | inr fails ↦ inr (λ m less given is. elim (cases_eq m k) [ inl same ↦ fails (let P : ℕ → Type 0 = λ x. IsChild nodes x c in subst P same is) | inr other ↦ none m (omega arith) given is ])
      ]
    ]
  ]

  given_child : (c : ℕ) → ((m : ℕ) × Given m × IsChild nodes m c) ⊎ ((m : ℕ) → Given m → IsChild nodes m c → ⊥)
  given_child c = elim (child_below c (length nodes)) [ inl found ↦ inl found | inr none ↦ inr (λ m given is. none m (inside m given) given is) ]

  decide_picks : (p initial n : ℕ) → Picks nodes Given p initial n ⊎ ¬ Picks nodes Given p initial n
  decide_picks p initial n = elim (decide n) [
    | inl holds ↦ inl (inl holds)
    | inr fails ↦ elim (given_child p) [
      | inl (m, given, is) ↦ inr (λ picks. elim picks [ inl holds ↦ fails holds | inr (none, same) ↦ none m given is ])
      | inr none ↦ elim (cases_eq n initial) [
        | inl same ↦ inl (inr (none, same))
        | inr other ↦ inr (λ picks. elim picks [ inl holds ↦ fails holds | inr (none', same) ↦ other same ])
      ]
    ]
  ]

  decide_entered : (n p : ℕ) → IsChild nodes n p → IsIn nodes Given p → IsIn nodes Given n ⊎ ¬ IsIn nodes Given n
  decide_entered n p is has = let (kind, known, parents) = chart.parents n p is in by_kind kind known parents where
    apart : (k : Kind) → kind_of nodes p ≡ Some k → (Entered nodes Given n p → ⊥) → ¬ IsIn nodes Given n
    apart k known fails member = elim (in_cases nodes Given n member) [
      | inl zero-is ↦ root_no_child nodes tree p (let P : ℕ → Type 0 = λ x. IsChild nodes x p in subst P zero-is is)
      | inr (q, it, held, entered) ↦ fails (let P : ℕ → Type 0 = λ x. Entered nodes Given n x in subst P (one_parent nodes n q p it is) entered)
    ]

    by_kind : (k : Kind) → kind_of nodes p ≡ Some k → IsParentKind k → IsIn nodes Given n ⊎ ¬ IsIn nodes Given n
    by_kind (Compound initial) known parents = elim (decide_picks p initial n) [
      | inl picks ↦ inl (picked n p initial is has known picks)
      | inr fails ↦ inr (apart (Compound initial) known (λ entered. elim entered [
        | inl (other, _) ↦ cc
        | inr (first, other, picks) ↦ fails (let same : first ≡ initial = cc in let P : ℕ → Type 0 = λ x. Picks nodes Given p x n in subst P same picks)
      ]))
    ]
    by_kind Parallel known parents = elim (decide_history nodes n) [
      | inl history ↦ inr (apart Parallel known (λ entered. elim entered [ inl (_, plain') ↦ plain' history | inr (first, other, picks) ↦ cc ]))
      | inr plain' ↦ inl (region n p is has known plain')
    ]
    by_kind Atomic known parents = absurd parents
    by_kind Final known parents = absurd parents
    by_kind (Shallow default) known parents = absurd parents
    by_kind (Deep default) known parents = absurd parents

  parent_in : (n p : ℕ) → IsChild nodes n p → IsIn nodes Given n → IsIn nodes Given p
  parent_in n p is member = elim (in_cases nodes Given n member) [
    | inl zero-is ↦ absurd (root_no_child nodes tree p (let P : ℕ → Type 0 = λ x. IsChild nodes x p in subst P zero-is is))
    | inr (q, it, held, entered) ↦ let P : ℕ → Type 0 = λ x. IsIn nodes Given x in subst P (one_parent nodes n q p it is) held
  ]

  decide_in : (bound n : ℕ) → n < bound → IsIn nodes Given n ⊎ ¬ IsIn nodes Given n
  decide_in zero n less = absurd (omega arith)
  decide_in (suc bound) n less = by_parent (λ p before. decide_in bound p before) (parent_of nodes n) refl where
    by_parent : ((p : ℕ) → p < bound → IsIn nodes Given p ⊎ ¬ IsIn nodes Given p) → (o : Option ℕ) → parent_of nodes n ≡ o → IsIn nodes Given n ⊎ ¬ IsIn nodes Given n
    by_parent rest None none = elim (cases_eq n 0) [
      | inl zero-is ↦ inl (let P : ℕ → Type 0 = λ x. IsIn nodes Given x in subst P (sym zero-is) root)
      | inr other ↦ inr (λ member. elim (in_cases nodes Given n member) [ inl zero-is ↦ other zero-is | inr (q, it, held, entered) ↦ cc ])
    ]
    by_parent rest (Some p) is = elim (rest p (let before = parent_less nodes tree n p is in omega arith)) [
      | inl has ↦ decide_entered n p is has
      | inr fails ↦ inr (λ member. fails (parent_in n p is member))
    ]

  in_tree : (n : ℕ) → IsIn nodes Given n → n < length nodes
  in_tree n member = elim (in_cases nodes Given n member) [ inl zero-is ↦ (let some = tree.outline.some in omega arith) | inr (q, it, held, entered) ↦ child_inside nodes n q it ]

  not_history : (n : ℕ) → IsIn nodes Given n → ¬ IsHistory nodes n
  not_history n member = elim (in_cases nodes Given n member) [
    | inl zero-is ↦ (let P : ℕ → Type 0 = λ x. ¬ IsHistory nodes x in subst P (sym zero-is) chart.root)
    | inr (q, it, held, entered) ↦ elim entered [
      | inl (kind, plain') ↦ plain'
      | inr (initial, kind, picks) ↦ elim picks [
        | inl given ↦ plain n given
        | inr (none, same) ↦ (let P : ℕ → Type 0 = λ x. ¬ IsHistory nodes x in subst P (sym same) (chart.initials q initial kind))
      ]
    ]
  ]

  how_entered : (n c initial : ℕ) → kind_of nodes c ≡ Some (Compound initial) → IsChild nodes n c → IsIn nodes Given n → Picks nodes Given c initial n
  how_entered n c initial kind is member = elim (in_cases nodes Given n member) [
    | inl zero-is ↦ absurd (root_no_child nodes tree c (let P : ℕ → Type 0 = λ x. IsChild nodes x c in subst P zero-is is))
    | inr (q, it, held, entered) ↦ (
        let e : q ≡ c = one_parent nodes n q c it is in
        let P : ℕ → Type 0 = λ x. Entered nodes Given n x in
        elim (subst P e entered) [
          | inl (other, _) ↦ absurd cc
          | inr (first, other, picks) ↦ (let same : first ≡ initial = cc in let Q : ℕ → Type 0 = λ x. Picks nodes Given c x n in subst Q same picks)
        ])
  ]

  one_child : (c initial : ℕ) → kind_of nodes c ≡ Some (Compound initial) → IsIn nodes Given c → HasOneChild nodes (IsIn nodes Given) c
  one_child c initial kind has = elim (given_child c) [
    | inl (m, given, is) ↦ (
      m,
      is,
      picked m c initial is has kind (inl given),
      (λ n child member. elim (how_entered n c initial kind child member) [
        | inl holds ↦ single c initial n m kind holds given child is
        | inr (none, same) ↦ absurd (none m given is)
      ]),
    )
    | inr none ↦ (
        let is = initial_child nodes tree c initial kind in (
          initial,
          is,
          picked initial c initial is has kind (inr (none, refl)),
          (λ n child member. elim (how_entered n c initial kind child member) [
            | inl holds ↦ absurd (none n holds child)
            | inr (_, same) ↦ same
          ]),
        ))
  ]

  all_in : IsLegal nodes (IsIn nodes Given)
  all_in = record {
    of_tree = in_tree;
    root = root;
    parents = parent_in;
    one_child = one_child;
    all_regions = λ p kind has r is plain'. region r p is has kind plain';
    no_history = not_history;
  }

  enters : (n p : ℕ) → IsChild nodes n p → Given n → IsIn nodes Given p → IsIn nodes Given n
  enters n p is given has = let (kind, known, parents) = chart.parents n p is in by_kind kind known parents where
    by_kind : (k : Kind) → kind_of nodes p ≡ Some k → IsParentKind k → IsIn nodes Given n
    by_kind (Compound initial) known parents = picked n p initial is has known (inl given)
    by_kind Parallel known parents = region n p is has known (plain n given)
    by_kind Atomic known parents = absurd parents
    by_kind Final known parents = absurd parents
    by_kind (Shallow default) known parents = absurd parents
    by_kind (Deep default) known parents = absurd parents

  given_in : (bound n : ℕ) → n < bound → Given n → IsIn nodes Given n
  given_in zero n less given = absurd (omega arith)
  given_in (suc bound) zero less given = root
  given_in (suc bound) (suc before) less given =
      let placed = (tree.outline.rows (suc before) (inside (suc before) given)).placed in
      let first = parent_less nodes tree (suc before) placed.0 placed.1 in
      enters (suc before) placed.0 placed.1 given (given_in bound placed.0 (omega arith) (above (suc before) placed.0 given placed.1))

  -- a legal configuration that has all that is given
  pub extension : (active : List ℕ) × IsLegal nodes (Contains active) × ((n : ℕ) → Given n → Contains active n)
  extension =
      let (active, set) = set_upto (IsIn nodes Given) (λ n. decide_in (n + 1) n (omega arith)) (length nodes) in
      let same : (n : ℕ) → IsIn nodes Given n ↔ Contains active n = λ n. ((λ member. (set.exact n).1 (in_tree n member, member)), (λ has. ((set.exact n).0 has).1)) in
      (active, legal_as nodes (IsIn nodes Given) (Contains active) same all_in, (λ n given. (same n).0 (given_in (n + 1) n (omega arith) given)))
