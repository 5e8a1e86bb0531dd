-- Which nodes of a legal configuration are done.
use Rattle.std.proofs.Common.{◌≡◌, ◌≢◌, ◌<◌, ◌≤◌, ◌-◌, ◌↔◌, ◌⊎◌, ℕ, zero, suc, Bool, true, false, not, List, [], ◌∷◌, length, get_or, Option, Some, None, refl, sym, subst, arith, inl, inr, ◌∙◌}
use Rattle.std.specs.Prelude.{slice_get}
use Rattle.std.specs.Bool.{IsTrue, MatchBool}
use Rattle.std.specs.List.{Contains}
use Rattle.std.proofs.lemmas.Bool.{cases_eq}
use Rattle.std.proofs.lemmas.List.{get_or_default}
use Rattle.node_tree.specs.declared.node.Kind.{Kind}
use Rattle.node_tree.specs.declared.node.Kind.TheVariants.{Atomic, Compound, Parallel, Final, Shallow, Deep}
use Rattle.node_tree.specs.declared.node.Node.{Node}
use Rattle.node_tree.specs.Kinds.{Nodes, kind_of}
use Rattle.node_tree.specs.Nodes.{IsBelow, IsChild, IsTree, IsWithin, parent_of, child, further}
use Rattle.step_sets.specs.Configuration.{IsLegal}
use Rattle.step_sets.specs.Statechart.{IsStatechart}
use Rattle.step_sets.proofs.ListLemmas.{decide_any}
use Rattle.step_sets.proofs.TreeLemmas.{below_inside, below_parent, child_towards, decide_below, one_parent, parent_less}
use Rattle.microstep.specs.Climbing.{IsActiveYet, IsAtEnd, lets_end, region, final}
use Rattle.microstep.specs.DoneEvents.{IsDone, final as done-final, child as done-child, regions as done-regions}

-- ---- nodes that are at their end

-- by the kinds
pub at-end-to : (nodes : Nodes) (later : List ℕ) (n parent : ℕ) (above kind : Kind) (active : Bool) → IsChild nodes n parent → kind_of nodes parent ≡ Some above → kind_of nodes n ≡ Some kind
    → (active ≡ true → ¬ Contains later n) → lets_end above kind active ≡ true → IsAtEnd nodes later n
at-end-to nodes later n parent Parallel Atomic active c p k out e = absurd cc
at-end-to nodes later n parent Parallel (Compound initial) active c p k out e = region c p (λ atomic. cc)
at-end-to nodes later n parent Parallel Parallel active c p k out e = region c p (λ atomic. cc)
at-end-to nodes later n parent Parallel Final active c p k out e = region c p (λ atomic. cc)
at-end-to nodes later n parent Parallel (Shallow default) active c p k out e = region c p (λ atomic. cc)
at-end-to nodes later n parent Parallel (Deep default) active c p k out e = region c p (λ atomic. cc)
at-end-to nodes later n parent (Compound initial) Final active c p k out e = final c p k (out e)
at-end-to nodes later n parent _ _ active c p k out e = absurd cc

region-ends : (nodes : Nodes) (n : ℕ) (kind : Kind) (active : Bool) → kind_of nodes n ≡ Some kind → kind_of nodes n ≢ Some Atomic → lets_end Parallel kind active ≡ true
region-ends nodes n Atomic active k other = absurd (other k)
region-ends nodes n (Compound initial) active k other = refl
region-ends nodes n Parallel active k other = refl
region-ends nodes n Final active k other = refl
region-ends nodes n (Shallow default) active k other = refl
region-ends nodes n (Deep default) active k other = refl

pub at-end-from : (nodes : Nodes) (later : List ℕ) (n parent : ℕ) (above kind : Kind) (active : Bool) → IsChild nodes n parent → kind_of nodes parent ≡ Some above → kind_of nodes n ≡ Some kind
    → (¬ Contains later n → active ≡ true) → IsAtEnd nodes later n → lets_end above kind active ≡ true
at-end-from nodes later n parent above kind active c p k sure (region {parent = other} d parallel plain) =
    let same : other ≡ parent = one_parent nodes n other parent d c in
    let is : above ≡ Parallel = cc in
    rw is (region-ends nodes n kind active k plain)
at-end-from nodes later n parent above kind active c p k sure (final {parent = other} {initial = initial} d compound final-kind out) =
    let same : other ≡ parent = one_parent nodes n other parent d c in
    let is : above ≡ Compound initial = cc in
    let is-final : kind ≡ Final = cc in
    rw (is, is-final) (sure out)

-- by what the look-ups gave
pub at-end-iff : (nodes : Nodes) (later : List ℕ) (n parent : ℕ) (above kind : Kind) (among r : Bool) → IsChild nodes n parent → kind_of nodes parent ≡ Some above → kind_of nodes n ≡ Some kind
    → IsTrue among ↔ Contains later n → r ≡ lets_end above kind (not among) → IsTrue r ↔ IsAtEnd nodes later n
at-end-iff nodes later n parent above kind true r c p k has is = (
  (λ sure. at-end-to nodes later n parent above kind false c p k (λ e. absurd cc) (sym is ∙ sure)),
  (λ ends. is ∙ at-end-from nodes later n parent above kind false c p k (λ out. absurd (out (has.0 refl))) ends),
)
at-end-iff nodes later n parent above kind false r c p k has is = (
  (λ sure. at-end-to nodes later n parent above kind true c p k (λ e in-later. let on = has.1 in-later in cc) (sym is ∙ sure)),
  (λ ends. is ∙ at-end-from nodes later n parent above kind true c p k (λ out. refl) ends),
)

-- a node below that isn't at its end holds back
pub held-back : (B E : Type 0) (r : Bool) → IsTrue r ↔ E → B → MatchBool (not r) (B × ¬ E) (B → E)
held-back B E true at below = λ under. at.0 refl
held-back B E false at below = (below, λ ends. let on = at.1 ends in cc)

-- a node that has no parent is no child at its end
pub no-parent : (nodes : Nodes) (later : List ℕ) (n : ℕ) → None ≡ parent_of nodes n → ¬ IsAtEnd nodes later n
no-parent nodes later n none (region c p k) = cc
no-parent nodes later n none (final c p k out) = cc

pub kind-some : (nodes : Nodes) (n : ℕ) → n < length nodes → (kind : Kind) × (kind_of nodes n ≡ Some kind)
kind-some nodes n inside = by_row (slice_get nodes n) refl
  where
    by_row : (o : Option Node) → slice_get nodes n ≡ o → (kind : Kind) × (kind_of nodes n ≡ Some kind)
    by_row None is = absurd (omega (arith, within nodes n is, inside))
      where
        within : (nodes : Nodes) (n : ℕ) → slice_get nodes n ≡ None → length nodes ≤ n
        within [] n is = omega arith
        within (x ∷ xs) zero is = absurd cc
        within (x ∷ xs) (suc n) is = let rest = within xs n is in omega (arith, rest)
    by_row (Some node) is = (node.kind, rw is refl)

decide-at-end : (nodes : Nodes) → IsTree nodes → (later : List ℕ) (n : ℕ) → n < length nodes → IsAtEnd nodes later n ⊎ ¬ IsAtEnd nodes later n
decide-at-end nodes tree later n inside = by_parent (parent_of nodes n) refl
  where
    by_value : (parent : ℕ) (above kind : Kind) (active : Bool) → IsChild nodes n parent → kind_of nodes parent ≡ Some above → kind_of nodes n ≡ Some kind
        → (active ≡ true → ¬ Contains later n) → (¬ Contains later n → active ≡ true) → (b : Bool) → lets_end above kind active ≡ b → IsAtEnd nodes later n ⊎ ¬ IsAtEnd nodes later n
    by_value parent above kind active c p k out sure true e = inl (at-end-to nodes later n parent above kind active c p k out e)
    by_value parent above kind active c p k out sure false e = inr (λ ends. let on = at-end-from nodes later n parent above kind active c p k sure ends in cc)

    by_parent : (o : Option ℕ) → parent_of nodes n ≡ o → IsAtEnd nodes later n ⊎ ¬ IsAtEnd nodes later n
    by_parent None none = inr (no-parent nodes later n (sym none))
    by_parent (Some parent) c =
        let (above, p) = kind-some nodes parent (omega (arith, parent_less nodes tree n parent c, inside)) in
        let (kind, k) = kind-some nodes n inside in
        elim (decide_any (λ m. m ≡ n) (λ m. cases_eq m n) later) [
          | inl (m, has, same) ↦
              let P : ℕ → Type 0 = λ x. Contains later x in
              let in-later = subst P same has in
              by_value parent above kind false c p k (λ e. absurd cc) (λ out. absurd (out in-later)) _ refl
          | inr none ↦ by_value parent above kind true c p k (λ e has. none n has refl) (λ out. refl) _ refl
        ]

-- ---- legal configurations

module _ (nodes : Nodes) (tree : IsTree nodes) (chart : IsStatechart nodes) (active later : List ℕ) (legal : IsLegal nodes (Contains active)) where
  -- what is above an active node is active
  above-active : (low high : ℕ) → Contains active low → IsBelow nodes low high → Contains active high
  above-active l h has (child low high c) = legal.parents low high c has
  above-active l h has (further low parent high c b) = above-active parent high (legal.parents low parent c has) b

  within-active : (low high : ℕ) → Contains active low → IsWithin nodes low high → Contains active high
  within-active low high has (inl same) = let P : ℕ → Type 0 = λ x. Contains active x in subst P same has
  within-active low high has (inr below) = above-active low high has below

  -- final nodes have no children
  final-leaf : (n m : ℕ) → kind_of nodes n ≡ Some Final → ¬ IsBelow nodes m n
  final-leaf n m k below =
      let (top, c, w) = child_towards nodes m n below in
      let (kind, is, parent-kind) = chart.parents top n c in
      let same : Final ≡ kind = cc in
      rw (← same) at parent-kind

  -- what is below a node that is done is at its end
  pub done-below : (n : ℕ) → Contains active n → IsDone nodes (IsActiveYet active later) n
      → (kind_of nodes n ≢ Some Atomic) × ((m : ℕ) → Contains active m → IsBelow nodes m n → IsAtEnd nodes later m)
  done-below n has (done-final k) = ((λ atomic. cc), (λ m in-m below. absurd (final-leaf n m k below)))
  done-below n has (done-child {initial = initial} {child = only} k c yet is-final) = (
    (λ atomic. cc),
    (λ m in-m below.
        let (top, d, w) = child_towards nodes m n below in
        let one = legal.one_child n initial k has in
        let at-top : top ≡ one.0 = one.3 top d (within-active m top in-m w) in
        let at-only : only ≡ one.0 = one.3 only c yet.0 in
        let same : top ≡ only = cc in
        let w-only : IsWithin nodes m only = rw same at w in
        elim w-only [
          | inl e ↦ rw e (final c k is-final yet.1)
          | inr low ↦ absurd (final-leaf only m is-final low)
        ]),
  )
  done-below n has (done-regions k each) = (
    (λ atomic. cc),
    (λ m in-m below.
        let (top, d, w) = child_towards nodes m n below in
        let in-top = within-active m top in-m w in
        let deep = done-below top in-top (each top d (legal.no_history top in-top)) in
        elim w [
          | inl e ↦ rw e (region d k deep.0)
          | inr low ↦ deep.1 m in-m low
        ]),
  )

  at-child : (n c initial : ℕ) → IsChild nodes c n → kind_of nodes n ≡ Some (Compound initial) → IsAtEnd nodes later c → (kind_of nodes c ≡ Some Final) × ¬ Contains later c
  at-child n c initial d k (region {parent = p} e parallel plain) = let same : p ≡ n = one_parent nodes c p n e d in absurd cc
  at-child n c initial d k (final e compound is-final out) = (is-final, out)

  at-region : (n r : ℕ) → IsChild nodes r n → kind_of nodes n ≡ Some Parallel → IsAtEnd nodes later r → kind_of nodes r ≢ Some Atomic
  at-region n r d k (region e parallel plain) = plain
  at-region n r d k (final {parent = p} e compound is-final out) = let same : p ≡ n = one_parent nodes r p n e d in absurd cc

  -- a node is done if it isn't atomic, and what is below it is at its end
  done-by : (fuel n : ℕ) → length nodes - n < fuel → Contains active n → kind_of nodes n ≢ Some Atomic → ((m : ℕ) → Contains active m → IsBelow nodes m n → IsAtEnd nodes later m)
      → IsDone nodes (IsActiveYet active later) n
  done-by zero n less has plain ends = absurd (omega (arith, less))
  done-by (suc fuel) n less has plain ends = by_kind (λ r low in-r plain-r below-r. done-by fuel r low in-r plain-r below-r) (kind-some nodes n (legal.of_tree n has)).0 (kind-some nodes n (legal.of_tree n has)).1
    where
      by_kind : ((r : ℕ) → length nodes - r < fuel → Contains active r → kind_of nodes r ≢ Some Atomic → ((m : ℕ) → Contains active m → IsBelow nodes m r → IsAtEnd nodes later m) → IsDone nodes (IsActiveYet active later) r) → (kind : Kind) → kind_of nodes n ≡ Some kind → IsDone nodes (IsActiveYet active later) n
      by_kind deeper Atomic k = absurd (plain k)
      by_kind deeper (Compound initial) k =
          let one = legal.one_child n initial k has in
          let at = at-child n one.0 initial one.1 k (ends one.0 one.2 (child one.0 n one.1)) in
          done-child k one.1 (one.2, at.1) at.0
      by_kind deeper Parallel k =
          done-regions k (λ r d plain-r.
          let in-r = legal.all_regions n k has r d plain-r in
          let up = parent_less nodes tree r n d in
          let inside = legal.of_tree r in-r in
          deeper r (omega (arith, less, up, inside)) in-r (at-region n r d k (ends r in-r (child r n d)))
          (λ m in-m below. ends m in-m (below_parent nodes m r n below d)))
      by_kind deeper Final k = done-final k
      by_kind deeper (Shallow default) k = absurd (legal.no_history n has (rw k tt))
      by_kind deeper (Deep default) k = absurd (legal.no_history n has (rw k tt))

  pub done-from : (n : ℕ) → Contains active n → kind_of nodes n ≢ Some Atomic → ((m : ℕ) → Contains active m → IsBelow nodes m n → IsAtEnd nodes later m)
      → IsDone nodes (IsActiveYet active later) n
  done-from n has plain ends = done-by (suc (length nodes - n)) n (omega arith) has plain ends

  -- whether an active node is done can be decided
  pub decide-done : (n : ℕ) → Contains active n → IsDone nodes (IsActiveYet active later) n ⊎ ¬ IsDone nodes (IsActiveYet active later) n
  decide-done n has =
      elim (decide_any HoldsBack decide active) [
        | inl (m, in-m, (below, off)) ↦ inr (λ is. off ((done-below n has is).1 m in-m below))
        | inr none ↦ by_kind (kind-some nodes n (legal.of_tree n has)).0 (kind-some nodes n (legal.of_tree n has)).1 none
      ]
    where
      HoldsBack : ℕ → Type 0
      HoldsBack m = IsBelow nodes m n × ¬ IsAtEnd nodes later m

      decide : (m : ℕ) → HoldsBack m ⊎ ¬ HoldsBack m
      decide m = elim (decide_below nodes tree m n) [
        | inr off ↦ inr (λ (below, out). off below)
        | inl below ↦ elim (decide-at-end nodes tree later m (below_inside nodes m n below)) [
          | inl ends ↦ inr (λ (under, out). out ends)
          | inr out ↦ inl (below, out)
        ]
      ]

      by_kind : (kind : Kind) → kind_of nodes n ≡ Some kind → ((m : ℕ) → Contains active m → ¬ HoldsBack m) → IsDone nodes (IsActiveYet active later) n ⊎ ¬ IsDone nodes (IsActiveYet active later) n
      by_kind Atomic k none = inr (λ is. (done-below n has is).0 k)
      by_kind _ k none = inl (done-from n has (λ atomic. cc) (λ m in-m below. elim (decide-at-end nodes tree later m (below_inside nodes m n below)) [ inl ends ↦ ends | inr out ↦ absurd (none m in-m (below, out)) ]))

  -- ---- climbing

  pub can-climb : (low high : ℕ) → Contains active low → IsChild nodes low high → (high ≢ 0) × (kind_of nodes high ≡ Some Parallel) × IsDone nodes (IsActiveYet active later) high
      ⊎ ¬ ((high ≢ 0) × (kind_of nodes high ≡ Some Parallel) × IsDone nodes (IsActiveYet active later) high)
  can-climb low high has c = elim (cases_eq high 0) [
    | inl root ↦ inr (λ (inner, k, is). inner root)
    | inr inner ↦ elim (decide-done high (legal.parents low high c has)) [
      | inr open-yet ↦ inr (λ (in-too, k, is). open-yet is)
      | inl is ↦ by_kind inner is (kind-some nodes high (legal.of_tree high (legal.parents low high c has))).0 (kind-some nodes high (legal.of_tree high (legal.parents low high c has))).1
    ]
  ]
    where
      by_kind : high ≢ 0 → IsDone nodes (IsActiveYet active later) high → (kind : Kind) → kind_of nodes high ≡ Some kind
          → (high ≢ 0) × (kind_of nodes high ≡ Some Parallel) × IsDone nodes (IsActiveYet active later) high
          ⊎ ¬ ((high ≢ 0) × (kind_of nodes high ≡ Some Parallel) × IsDone nodes (IsActiveYet active later) high)
      by_kind inner is Parallel k = inl (inner, k, is)
      by_kind inner is _ k = inr (λ (in-too, parallel, is-too). cc)

-- a member stands at a place
pub member-at : (nodes : Nodes) (active later : List ℕ) (n : ℕ) → ((k : ℕ) → k < length active → IsBelow nodes (get_or active k 0) n → IsAtEnd nodes later (get_or active k 0))
    → (m : ℕ) → Contains active m → IsBelow nodes m n → IsAtEnd nodes later m
member-at nodes active later n each m (k, inside, is) below =
    let at : get_or active k 0 ≡ m = get_or_default active k 0 m inside ∙ is in
    let P : ℕ → Type 0 = λ x. IsAtEnd nodes later x in
    subst P at (each k inside (rw at below))
