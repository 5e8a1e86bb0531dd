-- What is entered below one domain, towards goals that are entered together.
use Rattle.std.proofs.Common.{◌≡◌, ◌<◌, ◌⊎◌, ℕ, List, length, Some, inl, inr, sym, subst, refl}
use Rattle.node_tree.specs.declared.node.Kind.TheVariants.{Compound, Parallel}
use Rattle.node_tree.specs.declared.node.Node.{Node as NodeRow}
use Rattle.node_tree.specs.Nodes.{IsTree, IsBelow, IsChild, child, further}
use Rattle.step_sets.specs.declared.types.Domain.{Domain}
use Rattle.step_sets.specs.declared.types.Domain.TheVariants.{Node, Whole}
use Rattle.step_sets.specs.Configuration.{HasAllRegions, HasOneChild}
use Rattle.step_sets.specs.Domains.{IsUnder}
use Rattle.step_sets.specs.Entries.{HasGoalBelow, IsEntered, LeadsToGoal, Opens, towards_goal, region, initial, root, as_domain, as_entered}
use Rattle.node_tree.specs.Kinds.{kind_of, IsHistory}
use Rattle.step_sets.specs.Statechart.{IsStatechart}
use Rattle.step_sets.proofs.ProspectLemmas.{under_inside}
use Rattle.step_sets.proofs.GoalLemmas.{AreCoherent, parent_not_history}
use Rattle.step_sets.proofs.ListLemmas.{decide_any}
use Rattle.step_sets.proofs.TreeLemmas.{above_parent, child_inside, child_towards, decide_below, initial_child, one_parent, parent_inside, root_no_child, within_parent}

module _ (nodes : List NodeRow) (tree : IsTree nodes) (chart : IsStatechart nodes) where
  -- what is below the domain, or is the domain, has its children below the domain
  pub under_down : (domain : Domain) (n p : ℕ) → IsUnder nodes domain p → IsChild nodes n p → IsUnder nodes domain n
  under_down (Node d) n p below c = further n p d c below
  under_down Whole n p inside c = child_inside nodes n p c

  pub under_domain : (domain : Domain) (n p : ℕ) → domain ≡ Node p → IsChild nodes n p → IsUnder nodes domain n
  under_domain domain n p is c = rw is (child n p c)

  -- the parent of what is below the domain is the domain or below it
  pub under_up : (domain : Domain) (n p : ℕ) → IsUnder nodes domain n → IsChild nodes n p → (domain ≡ Node p) ⊎ IsUnder nodes domain p
  under_up (Node d) n p below c = elim (above_parent nodes n p d c below) [ inl e ↦ inl (rw e refl) | inr b ↦ inr b ]
  under_up Whole n p inside c = inr (parent_inside nodes tree n p c)

  module _ (goals : List ℕ) (domain : Domain) where
    pub entered_under : (n : ℕ) → IsEntered nodes goals domain n → IsUnder nodes domain n
    entered_under n (root whole) = rw whole tree.outline.some
    entered_under n (towards_goal can leads) = can.0
    entered_under n (region can c parallel opens) = can.0
    entered_under n (initial can c compound off opens) = can.0

    pub entered_inside : (n : ℕ) → IsEntered nodes goals domain n → n < length nodes
    entered_inside n e = under_inside nodes domain n (entered_under n e)

    pub entered_not_history : (n : ℕ) → IsEntered nodes goals domain n → ¬ IsHistory nodes n
    entered_not_history n (root whole) = chart.root
    entered_not_history n (towards_goal can leads) = can.1
    entered_not_history n (region can c parallel opens) = can.1
    entered_not_history n (initial can c compound off opens) = can.1

    -- a child of a node that opens is below the domain
    opens_under : (n p : ℕ) → Opens nodes goals domain p → IsChild nodes n p → IsUnder nodes domain n
    opens_under n p (as_domain is) c = under_domain domain n p is c
    opens_under n p (as_entered e) c = under_down domain n p (entered_under p e) c

    -- the parent of an entered node opens
    pub parent_opens : (n p : ℕ) → IsChild nodes n p → IsEntered nodes goals domain n → Opens nodes goals domain p
    parent_opens n p c (root whole) = absurd (root_no_child nodes tree p c)
    parent_opens n p c (towards_goal can leads) =
        elim (under_up domain n p can.0 c) [
          | inl is ↦ as_domain is
          | inr under ↦ as_entered (towards_goal (under, parent_not_history nodes chart n p c) (let (g, has, w) = leads in (g, has, inr (within_parent nodes g n p w c))))
        ]
    parent_opens n p c (region {n = m} {p = q} can d parallel opens) = let P : ℕ → Type 0 = λ x. Opens nodes goals domain x in subst P (one_parent nodes n q p d c) opens
    parent_opens n p c (initial {n = m} {p = q} can d compound off opens) = let P : ℕ → Type 0 = λ x. Opens nodes goals domain x in subst P (one_parent nodes n q p d c) opens

    -- each child of a parallel node that opens is entered, but for history nodes
    pub enters_regions : (p : ℕ) → kind_of nodes p ≡ Some Parallel → Opens nodes goals domain p → HasAllRegions nodes (IsEntered nodes goals domain) p
    enters_regions p parallel opens r c plain = region (opens_under r p opens c, plain) c parallel opens

    module _ (coherent : AreCoherent nodes tree chart goals) where
      -- a child that leads to a goal is no history node
      leading_plain : (n : ℕ) → LeadsToGoal nodes goals n → ¬ IsHistory nodes n
      leading_plain n (g, has, inl e) = let P : ℕ → Type 0 = λ x. ¬ IsHistory nodes x in subst P e (coherent.plain g has)
      leading_plain n (g, has, inr b) = let (m, c, w) = child_towards nodes g n b in parent_not_history nodes chart m n c

      -- whether a child of a node leads to a goal
      decide_goal_below : (p : ℕ) → HasGoalBelow nodes goals p ⊎ ¬ HasGoalBelow nodes goals p
      decide_goal_below p =
          elim (decide_any (λ g. IsBelow nodes g p) (λ g. decide_below nodes tree g p) goals) [
            | inl found ↦ (let (g, has, b) = found in let (m, c, w) = child_towards nodes g p b in inl (m, c, (g, has, w)))
            | inr none ↦ inr (λ (m, c, (g, has, w)). none g has (within_parent nodes g m p w c))
          ]

      -- where a child leads to a goal, that child alone is entered
      one_towards : (c start m n : ℕ) → kind_of nodes c ≡ Some (Compound start) → IsChild nodes m c → LeadsToGoal nodes goals m → IsChild nodes n c → IsEntered nodes goals domain n → n ≡ m
      one_towards c start m n of cm leads cn (root whole) = absurd (root_no_child nodes tree c cn)
      one_towards c start m n of cm leads cn (towards_goal can leads') =
          let (g, has-g, w) = leads' in
          let (h, has-h, v) = leads in
          coherent.together g h n m c start has-g has-h of cn cm w v
      one_towards c start m n of cm leads cn (region {n = x} {p = q} can d parallel opens) =
          absurd (let same = one_parent nodes n q c d cn in let at : kind_of nodes c ≡ Some Parallel = rw same at parallel in cc)
      one_towards c start m n of cm leads cn (initial {n = x} {p = q} can d compound off opens) =
          absurd (let same = one_parent nodes n q c d cn in off (m, (let P : ℕ → Type 0 = λ y. IsChild nodes m y in subst P (sym same) cm), leads))

      -- where none does, the initial child alone is entered
      one_initial : (c start n : ℕ) → kind_of nodes c ≡ Some (Compound start) → ¬ HasGoalBelow nodes goals c → IsChild nodes n c → IsEntered nodes goals domain n → n ≡ start
      one_initial c start n of none cn (root whole) = absurd (root_no_child nodes tree c cn)
      one_initial c start n of none cn (towards_goal can leads) = absurd (none (n, cn, leads))
      one_initial c start n of none cn (region {n = x} {p = q} can d parallel opens) =
          absurd (let same = one_parent nodes n q c d cn in let at : kind_of nodes c ≡ Some Parallel = rw same at parallel in cc)
      one_initial c start n of none cn (initial {n = x} {p = q} can d compound off opens) =
          let same = one_parent nodes n q c d cn in
          let at : kind_of nodes c ≡ Some (Compound n) = rw same at compound in
          cc

      -- exactly one child of a compound node that opens is entered
      pub enters_one : (c start : ℕ) → kind_of nodes c ≡ Some (Compound start) → Opens nodes goals domain c → HasOneChild nodes (IsEntered nodes goals domain) c
      enters_one c start of opens =
          elim (decide_goal_below c) [
            | inl found ↦ (let (m, cm, leads) = found in
                (m, cm, towards_goal (opens_under m c opens cm, leading_plain m leads) leads, (λ n cn e. one_towards c start m n of cm leads cn e)))
            | inr none ↦ (let cs = initial_child nodes tree c start of in
                (start, cs, initial (opens_under start c opens cs, chart.initials c start of) cs of none opens, (λ n cn e. one_initial c start n of none cn e)))
          ]
