-- That the next configuration is legal.
use Rattle.std.proofs.Common.{◌≡◌, ◌<◌, ◌⊎◌, ℕ, Bool, true, false, List, [], length, Some, inl, inr, subst, refl}
use Rattle.std.specs.List.{All, AllPairs, Contains}
use Rattle.std.proofs.lemmas.Bool.{cases_eq}
use Rattle.std.proofs.lemmas.List.Elements.{All-contains}
use Rattle.node_tree.specs.declared.node.Kind.{Kind}
use Rattle.node_tree.specs.declared.node.Kind.TheVariants.{Atomic, Compound, Parallel, Final, Shallow, Deep}
use Rattle.node_tree.specs.declared.node.Node.{Node as NodeRow}
use Rattle.node_tree.specs.Nodes.{IsTree, IsChild, child}
use Rattle.step_sets.specs.declared.types.Domain.{Domain}
use Rattle.step_sets.specs.declared.types.Domain.TheVariants.{Node, Whole}
use Rattle.step_sets.specs.Configuration.{HasAllRegions, HasOneChild, IsLegal}
use Rattle.step_sets.specs.Domains.{Arrow, IsDomain, IsUnder, internal, innermost, none, outermost_of}
use Rattle.step_sets.specs.Entries.{IsEntered, Opens, root, as_domain, as_entered}
use Rattle.step_sets.specs.Exits.{IsExited}
use Rattle.step_sets.specs.Goals.{History, goals_of}
use Rattle.node_tree.specs.Kinds.{kind_of, IsHistory}
use Rattle.step_sets.specs.Laws.{IsEnabled, IsNextConfiguration, LeaveApart, TakenTransition}
use Rattle.step_sets.specs.Statechart.{IsFitHistory, IsParentKind, IsStatechart}
use Rattle.step_sets.proofs.EnteredLemmas.{entered_inside, entered_not_history, entered_under, enters_one, enters_regions, parent_opens, under_domain, under_down, under_up}
use Rattle.step_sets.proofs.ProspectLemmas.{under_inside}
use Rattle.step_sets.proofs.GoalLemmas.{AreCoherent, above_member, goals_coherent, no_goals_coherent}
use Rattle.step_sets.proofs.ListLemmas.{decide_any, same_or_related}
use Rattle.step_sets.proofs.TreeLemmas.{below_itself, below_trans, below_within, child_towards, comparable, root_not_below}

-- what the root enters with no goals is legal
pub first_is_legal : (nodes : List NodeRow) → IsTree nodes → IsStatechart nodes → IsLegal nodes (IsEntered nodes [] Whole)
first_is_legal nodes tree chart = record {
  of_tree = λ n e. entered_inside nodes tree chart [] Whole n e;
  root = root refl;
  parents = λ n p c e. opened p (parent_opens nodes tree chart [] Whole n p c e);
  one_child = λ c start of e. enters_one nodes tree chart [] Whole (no_goals_coherent nodes tree chart) c start of (as_entered e);
  all_regions = λ p of e. enters_regions nodes tree chart [] Whole p of (as_entered e);
  no_history = λ n e. entered_not_history nodes tree chart [] Whole n e;
}
  where
    opened : (p : ℕ) → Opens nodes [] Whole p → IsEntered nodes [] Whole p
    opened p (as_domain is) = absurd cc
    opened p (as_entered e) = e

-- whether a domain is a node, and whether it is the whole tree
decide_domain : (domain : Domain) (c : ℕ) → (domain ≡ Node c) ⊎ ¬ (domain ≡ Node c)
decide_domain (Node d) c = elim (cases_eq d c) [ inl e ↦ inl (rw e refl) | inr apart ↦ inr (λ is. apart (let same : d ≡ c = cc in same)) ]
decide_domain Whole c = inr (λ is. cc)

decide_whole : (domain : Domain) → (domain ≡ Whole) ⊎ ¬ (domain ≡ Whole)
decide_whole (Node d) = inr (λ is. cc)
decide_whole Whole = inl refl

module _ (nodes : List NodeRow) (tree : IsTree nodes) (chart : IsStatechart nodes) (active : List ℕ) (legal : IsLegal nodes (Contains active)) where
  outermost_active : (reenter : Bool) (d : ℕ) → outermost_of reenter ≡ Node d → Contains active d
  outermost_active true d e = absurd cc
  outermost_active false d e = let same : 0 ≡ d = cc in let P : ℕ → Type 0 = λ x. Contains active x in subst P same legal.root

  -- the domain of an enabled transition is active, if it is a node
  domain_active : (arrow : Arrow) (domain : Domain) → Contains active arrow.source → IsDomain nodes arrow domain → (d : ℕ) → domain ≡ Node d → Contains active d
  domain_active arrow domain has (internal i) d e =
      let same : arrow.source ≡ d = cc in let P : ℕ → Type 0 = λ x. Contains active x in subst P same has
  domain_active arrow domain has (innermost {a} external inner) d e =
      let same : a ≡ d = cc in
      let P : ℕ → Type 0 = λ x. Contains active x in subst P same (above_member nodes tree chart legal arrow.source a has inner.0.0)
  domain_active arrow domain has (none external no-ancestor) d e = outermost_active arrow.reenter d e

  -- an active node with a child has an active child
  active_child_by : (p : ℕ) (kind : Kind) → kind_of nodes p ≡ Some kind → IsParentKind kind → Contains active p → (n : ℕ) × IsChild nodes n p × Contains active n
  active_child_by p (Compound start) of parental has = let (only, c, o, unique) = legal.one_child p start of has in (only, c, o)
  active_child_by p Parallel of parental has = let (r, c, plain) = chart.regions p of in (r, c, legal.all_regions p of has r c plain)
  active_child_by p Atomic of parental has = absurd parental
  active_child_by p Final of parental has = absurd parental
  active_child_by p (Shallow default) of parental has = absurd parental
  active_child_by p (Deep default) of parental has = absurd parental

  active_child : (m p : ℕ) → IsChild nodes m p → Contains active p → (n : ℕ) × IsChild nodes n p × Contains active n
  active_child m p c has = let (kind, of, parental) = chart.parents m p c in active_child_by p kind of parental has

  -- a domain below which a node stands has an active node below it
  exits_something_by : (domain : Domain) (n : ℕ) → ((d : ℕ) → domain ≡ Node d → Contains active d) → IsUnder nodes domain n → (x : ℕ) × IsExited nodes active domain x
  exits_something_by (Node d) n at below =
      let (m, c, w) = child_towards nodes n d below in
      let (x, cx, has) = active_child m d c (at d refl) in
      (x, (has, child x d cx))
  exits_something_by Whole n at inside = (0, (legal.root, tree.outline.some))

  -- of two domains above one node, the one leaves what the other leaves
  nested : (a b : Domain) (n : ℕ) → IsUnder nodes a n → IsUnder nodes b n
      → ((x : ℕ) → IsUnder nodes a x → IsUnder nodes b x) ⊎ ((x : ℕ) → IsUnder nodes b x → IsUnder nodes a x)
  nested Whole b n under-a under-b = inr (λ x under. under_inside nodes b x under)
  nested (Node d) Whole n under-a under-b = inl (λ x under. under_inside nodes (Node d) x under)
  nested (Node d) (Node e) n under-a under-b =
      elim (comparable nodes n d e (inr under-a) (inr under-b)) [
        | inl w ↦ inl (λ x below. below_within nodes x d e below w)
        | inr b ↦ inr (λ x below. below_trans nodes x e d below b)
      ]

  module _ (history : History) (transitions : List TakenTransition) (fit : IsFitHistory nodes history) (enabled : All (IsEnabled nodes active) transitions) (apart : AllPairs (LeaveApart nodes active) transitions) where
    -- what a transition enters
    abbrev Enters : TakenTransition → ℕ → Type 0
    Enters taken n = IsEntered nodes (goals_of nodes history taken.arrow.targets) taken.domain n

    enabled_move : (taken : TakenTransition) → Contains transitions taken → IsEnabled nodes active taken
    enabled_move taken has = All-contains (IsEnabled nodes active) transitions taken enabled has

    coherent : (taken : TakenTransition) → Contains transitions taken → AreCoherent nodes tree chart (goals_of nodes history taken.arrow.targets)
    coherent taken has = goals_coherent nodes tree chart history taken.arrow.targets fit (enabled_move taken has).targets

    move_domain_active : (taken : TakenTransition) → Contains transitions taken → (d : ℕ) → taken.domain ≡ Node d → Contains active d
    move_domain_active taken has d e =
        let on = enabled_move taken has in
        domain_active taken.arrow taken.domain on.source on.domain d e

    exits_something : (taken : TakenTransition) (n : ℕ) → Contains transitions taken → IsUnder nodes taken.domain n → (x : ℕ) × IsExited nodes active taken.domain x
    exits_something taken n has under = exits_something_by taken.domain n (λ d e. move_domain_active taken has d e) under

    -- two transitions with a node below both domains are one
    one_move : (a b : TakenTransition) (n : ℕ) → Contains transitions a → Contains transitions b → IsUnder nodes a.domain n → IsUnder nodes b.domain n → a ≡ b
    one_move a b n has-a has-b under-a under-b =
        elim (same_or_related (LeaveApart nodes active) transitions a b apart has-a has-b) [
          | inl e ↦ e
          | inr related ↦ absurd (elim (nested a.domain b.domain n under-a under-b) [
            | inl into ↦ (let (x, (has, under)) = exits_something a n has-a under-a in
                elim related [ inl ab ↦ ab x (has, under) (has, into x under) | inr ba ↦ ba x (has, into x under) (has, under) ])
            | inr into ↦ (let (x, (has, under)) = exits_something b n has-b under-b in
                elim related [ inl ab ↦ ab x (has, into x under) (has, under) | inr ba ↦ ba x (has, under) (has, into x under) ])
          ])
        ]

    -- an active node that no transition leaves
    abbrev Stays : ℕ → Type 0
    Stays n = Contains active n × ((taken : TakenTransition) → Contains transitions taken → ¬ IsExited nodes active taken.domain n)

    -- a member of the next configuration
    abbrev Next : ℕ → Type 0
    Next n = IsNextConfiguration nodes (record { active = active; history = history; transitions = transitions }) n

    -- an active node whose parent stays is left only if the parent is the domain
    kept_child : (n p : ℕ) → IsChild nodes n p → Stays p → ((taken : TakenTransition) → Contains transitions taken → ¬ (taken.domain ≡ Node p)) → Contains active n → Stays n
    kept_child n p c (active-p, keeps) no-domain active-n = (
      active-n,
      (λ taken has (a, under).
          elim (under_up nodes tree chart taken.domain n p under c) [
            | inl is ↦ no-domain taken has is
            | inr up ↦ keeps taken has (active-p, up)
          ]),
    )

    -- a child that is entered belongs to the transition of its parent
    entered_with : (a b : TakenTransition) (n p : ℕ) → Contains transitions a → Contains transitions b → IsChild nodes n p → IsUnder nodes a.domain n → Enters b n → Enters a n
    entered_with a b n p has-a has-b c under e =
        let same = one_move b a n has-b has-a (entered_under nodes tree chart (goals_of nodes history b.arrow.targets) b.domain n e) under in
        let P : TakenTransition → Type 0 = λ m. Enters m n in
        subst P same e

    -- where a node opens for a transition, the members among its children are those that the transition enters
    opened_child : (taken : TakenTransition) (n p : ℕ) → Contains transitions taken → IsChild nodes n p → IsUnder nodes taken.domain n → Next n → Enters taken n
    opened_child taken n p has c under (inl (active-n, keeps)) = absurd (keeps taken has (active-n, under))
    opened_child taken n p has c under (inr (other, has-other, e)) = entered_with taken other n p has has-other c under e

    opens_under : (taken : TakenTransition) (n p : ℕ) → Opens nodes (goals_of nodes history taken.arrow.targets) taken.domain p → IsChild nodes n p → IsUnder nodes taken.domain n
    opens_under taken n p (as_domain is) c = under_domain nodes tree chart taken.domain n p is c
    opens_under taken n p (as_entered e) c =
        under_down nodes tree chart taken.domain n p (entered_under nodes tree chart (goals_of nodes history taken.arrow.targets) taken.domain p e) c

    one_where_open : (taken : TakenTransition) (c start : ℕ) → Contains transitions taken → kind_of nodes c ≡ Some (Compound start) → Opens nodes (goals_of nodes history taken.arrow.targets) taken.domain c → HasOneChild nodes Next c
    one_where_open taken c start has of opens =
        let (only, co, e, unique) = enters_one nodes tree chart (goals_of nodes history taken.arrow.targets) taken.domain (coherent taken has) c start of opens in
        (only, co, inr (taken, has, e), (λ n cn next. unique n cn (opened_child taken n c has cn (opens_under taken n c opens cn) next)))

    all_where_open : (taken : TakenTransition) (p : ℕ) → Contains transitions taken → kind_of nodes p ≡ Some Parallel → Opens nodes (goals_of nodes history taken.arrow.targets) taken.domain p → HasAllRegions nodes Next p
    all_where_open taken p has of opens = λ r c plain.
        inr (taken, has, enters_regions nodes tree chart (goals_of nodes history taken.arrow.targets) taken.domain p of opens r c plain)

    -- whether a node is the domain of a transition
    decide_domain_of : (c : ℕ) → ((taken : TakenTransition) × Contains transitions taken × (taken.domain ≡ Node c)) ⊎ ((taken : TakenTransition) → Contains transitions taken → ¬ (taken.domain ≡ Node c))
    decide_domain_of c = decide_any (λ (taken : TakenTransition). taken.domain ≡ Node c) (λ taken. decide_domain taken.domain c) transitions

    -- a child of a node that stays and is no domain is entered by no transition
    not_entered : (n p : ℕ) → IsChild nodes n p → Stays p → ((taken : TakenTransition) → Contains transitions taken → ¬ (taken.domain ≡ Node p)) → (taken : TakenTransition) → Contains transitions taken → ¬ Enters taken n
    not_entered n p c (active-p, keeps) no-domain taken has e =
        elim (under_up nodes tree chart taken.domain n p (entered_under nodes tree chart (goals_of nodes history taken.arrow.targets) taken.domain n e) c) [
          | inl is ↦ no-domain taken has is
          | inr up ↦ keeps taken has (active-p, up)
        ]

    next_root : Next 0
    next_root =
        elim (decide_any (λ (taken : TakenTransition). taken.domain ≡ Whole) (λ taken. decide_whole taken.domain) transitions) [
          | inl found ↦ (let (taken, has, whole) = found in inr (taken, has, root whole))
          | inr none' ↦ inl (legal.root, (λ taken has (a, under). not_under taken.domain (none' taken has) under))
        ]
      where
        not_under : (domain : Domain) → ¬ (domain ≡ Whole) → ¬ IsUnder nodes domain 0
        not_under (Node d) other below = root_not_below nodes tree d below
        not_under Whole other inside = other refl

    -- the domain of a transition that enters something stays
    domain_stays : (taken : TakenTransition) (n p : ℕ) → Contains transitions taken → Enters taken n → IsChild nodes n p → taken.domain ≡ Node p → Stays p
    domain_stays taken n p has e c is = (
      move_domain_active taken has p is,
      (λ other has-other (a, under).
          let under-n = entered_under nodes tree chart (goals_of nodes history taken.arrow.targets) taken.domain n e in
          let same = one_move other taken n has-other has (under_down nodes tree chart other.domain n p under c) under-n in
          let P : TakenTransition → Type 0 = λ m. IsUnder nodes m.domain p in
          let own = subst P same under in
          let Q : Domain → Type 0 = λ d. IsUnder nodes d p in
          below_itself nodes tree p (subst Q is own)),
    )

    next_parents : (n p : ℕ) → IsChild nodes n p → Next n → Next p
    next_parents n p c (inl (active-n, keeps)) =
        inl (legal.parents n p c active-n, (λ taken has (a, under). keeps taken has (active-n, under_down nodes tree chart taken.domain n p under c)))
    next_parents n p c (inr (taken, has, e)) =
        by_opening (parent_opens nodes tree chart (goals_of nodes history taken.arrow.targets) taken.domain n p c e)
      where
        by_opening : Opens nodes (goals_of nodes history taken.arrow.targets) taken.domain p → Next p
        by_opening (as_entered up) = inr (taken, has, up)
        by_opening (as_domain is) = inl (domain_stays taken n p has e c is)

    next_one_child : (c start : ℕ) → kind_of nodes c ≡ Some (Compound start) → Next c → HasOneChild nodes Next c
    next_one_child c start of (inr (taken, has, e)) = one_where_open taken c start has of (as_entered e)
    next_one_child c start of (inl stays) =
        elim (decide_domain_of c) [
          | inl found ↦ (let (taken, has, is) = found in one_where_open taken c start has of (as_domain is))
          | inr no-domain ↦
              (let (only, co, o, unique) = legal.one_child c start of stays.0 in (
                only,
                co,
                inl (kept_child only c co stays no-domain o),
                (λ n cn next. elim next [
                  | inl kept ↦ unique n cn kept.0
                  | inr entered ↦ absurd (not_entered n c cn stays no-domain entered.0 entered.1 entered.2)
                ]),
              ))
        ]

    next_all_regions : (p : ℕ) → kind_of nodes p ≡ Some Parallel → Next p → HasAllRegions nodes Next p
    next_all_regions p of (inr (taken, has, e)) = all_where_open taken p has of (as_entered e)
    next_all_regions p of (inl stays) =
        elim (decide_domain_of p) [
          | inl found ↦ (let (taken, has, is) = found in all_where_open taken p has of (as_domain is))
          | inr no-domain ↦ (λ r c plain. inl (kept_child r p c stays no-domain (legal.all_regions p of stays.0 r c plain)))
        ]

    next_of_tree : (n : ℕ) → Next n → n < length nodes
    next_of_tree n (inl stays) = legal.of_tree n stays.0
    next_of_tree n (inr (taken, has, e)) = entered_inside nodes tree chart (goals_of nodes history taken.arrow.targets) taken.domain n e

    next_no_history : (n : ℕ) → Next n → ¬ IsHistory nodes n
    next_no_history n (inl stays) = legal.no_history n stays.0
    next_no_history n (inr (taken, has, e)) = entered_not_history nodes tree chart (goals_of nodes history taken.arrow.targets) taken.domain n e

    pub next_is_legal : IsLegal nodes (IsNextConfiguration nodes (record { active = active; history = history; transitions = transitions }))
    next_is_legal = record {
      of_tree = next_of_tree;
      root = next_root;
      parents = next_parents;
      one_child = next_one_child;
      all_regions = next_all_regions;
      no_history = next_no_history;
    }
