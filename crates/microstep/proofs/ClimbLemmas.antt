-- The done events of nodes.
use Rattle.std.proofs.Common.{◌≡◌, ◌≢◌, ◌<◌, ℕ, zero, suc, List, [], ◌∷◌, ◌++◌, Option, Some, None, refl, subst, arith, inl, inr, append_assoc}
use Rattle.std.specs.List.{Contains}
use Rattle.std.proofs.lemmas.Bool.{cases_eq}
use Rattle.std.proofs.lemmas.List.{append-nil, map-append}
use Rattle.node_tree.specs.declared.node.Kind.{Kind}
use Rattle.node_tree.specs.declared.node.Kind.TheVariants.{Compound, Parallel, Final}
use Rattle.node_tree.specs.Kinds.{Nodes, kind_of}
use Rattle.node_tree.specs.Nodes.{IsChild, IsTree, parent_of}
use Rattle.step_sets.specs.Configuration.{IsLegal}
use Rattle.step_sets.specs.Statechart.{IsStatechart}
use Rattle.step_sets.proofs.TreeLemmas.{one_parent, parent_less}
use Rattle.xs_model.specs.declared.expr.Expr.TheVariants as expr
use Rattle.guard_eval.specs.declared.def.Def.{Def}
use Rattle.microstep.specs.Acts.{Act, entry_acts}
use Rattle.microstep.specs.Climbing.{IsActiveYet, parallel_done}
use Rattle.microstep.specs.DoneEvents.{AreDoneActs, Climbs, IsClimb, IsDone, final, child, regions, end, further, ends, none, node_id, output_of}
use Rattle.microstep.specs.Working.{AreActsOf}
use Rattle.microstep.proofs.DoneLemmas.{can-climb, kind-some}

-- ---- the same nodes are active

pub done-along : (nodes : Nodes) (A B : ℕ → Type 0) → ((m : ℕ) → A m → B m) → (n : ℕ) → IsDone nodes A n → IsDone nodes B n
done-along nodes A B to n (final k) = final k
done-along nodes A B to n (child {child = c} k is active f) = child k is (to c active) f
done-along nodes A B to n (regions k each) = regions k (λ r d plain. done-along nodes A B to r (each r d plain))

climbs-along : (def : Def) (A B : ℕ → Type 0) → ((m : ℕ) → A m → B m) → (low high : ℕ) → Climbs def A low high → Climbs def B low high
climbs-along def A B to low high climbs = record { parent = climbs.parent; parallel = climbs.parallel; inner = climbs.inner; done = done-along def.tree A B to high climbs.done }

climb-along : (def : Def) (A B : ℕ → Type 0) → ((m : ℕ) → A m → B m) → ((m : ℕ) → B m → A m) → (low : ℕ) (acts : List Act) → IsClimb def A low acts → IsClimb def B low acts
climb-along def A B to back low acts (end out) = end (λ high climbs. out high (climbs-along def B A back low high climbs))
climb-along def A B to back low acts (further {high = high} {above = above} climbs rest) = further (climbs-along def A B to low high climbs) (climb-along def A B to back high above rest)

pub acts-along : (def : Def) (A B : ℕ → Type 0) → ((m : ℕ) → A m → B m) → ((m : ℕ) → B m → A m) → (n : ℕ) (acts : List Act) → AreDoneActs def A n acts → AreDoneActs def B n acts
acts-along def A B to back n acts (ends {parent = parent} {above = above} is climb) = ends is (climb-along def A B to back parent above climb)
acts-along def A B to back n acts (none out) = none out

pub entry-along : (def : Def) (A B : ℕ → Type 0) → ((m : ℕ) → A m → B m) → ((m : ℕ) → B m → A m) → (n : ℕ) (acts : List Act) → AreActsOf def A n acts → AreActsOf def B n acts
entry-along def A B to back n acts (done, are, is) = (done, acts-along def A B to back n done are, is)

-- ---- there are done events of each node

module _ (def : Def) (tree : IsTree def.tree) (chart : IsStatechart def.tree) (active later : List ℕ) (legal : IsLegal def.tree (Contains active)) where
  climb-there : (fuel low : ℕ) → low < fuel → Contains active low → (above : List Act) × IsClimb def (IsActiveYet active later) low above
  climb-there zero low less has = absurd (omega (arith, less))
  climb-there (suc fuel) low less has = by_parent (λ high before in-high. climb-there fuel high before in-high) (parent_of def.tree low) refl
    where
      by_parent : ((high : ℕ) → high < fuel → Contains active high → (above : List Act) × IsClimb def (IsActiveYet active later) high above) → (o : Option ℕ) → parent_of def.tree low ≡ o → (above : List Act) × IsClimb def (IsActiveYet active later) low above
      by_parent higher None is = ([], end (λ high climbs. let c = climbs.parent in cc))
      by_parent higher (Some high) c = elim (can-climb def.tree tree chart active later legal low high has c) [
        | inl (inner, k, is) ↦
            let up = parent_less def.tree tree low high c in
            let (above, rest) = higher high (omega (arith, less, up)) (legal.parents low high c has) in
            (Act.RaiseDone (node_id def.tree high) expr.Null ∷ above, further (record { parent = c; parallel = k; inner = inner; done = is }) rest)
        | inr out ↦ (
          [],
          end (λ other climbs.
              let same : other ≡ high = one_parent def.tree low other high climbs.parent c in
              let P : ℕ → Type 0 = λ h. (h ≢ 0) × (kind_of def.tree h ≡ Some Parallel) × IsDone def.tree (IsActiveYet active later) h in
              out (subst P same (climbs.inner, climbs.parallel, climbs.done))),
        )
      ]

  pub climb-from : (low : ℕ) → Contains active low → (above : List Act) × IsClimb def (IsActiveYet active later) low above
  climb-from low has = climb-there (suc low) low (omega arith) has

  pub done-acts-there : (n : ℕ) → Contains active n → (acts : List Act) × AreDoneActs def (IsActiveYet active later) n acts
  done-acts-there n has = by_parent (parent_of def.tree n) refl
    where
      by_kinds : (parent : ℕ) (above kind : Kind) → IsChild def.tree n parent → kind_of def.tree parent ≡ Some above → kind_of def.tree n ≡ Some kind → (acts : List Act) × AreDoneActs def (IsActiveYet active later) n acts
      by_kinds parent (Compound initial) Final c p k = elim (cases_eq parent 0) [
        | inl root ↦ ([], none (λ other i is. let same : other ≡ parent = one_parent def.tree n other parent is.child c in is.inner cc))
        | inr inner ↦
            let (above, climb) = climb-from parent (legal.parents n parent c has) in
            (Act.RaiseDone (node_id def.tree parent) (output_of def n) ∷ above, ends (record { final = k; child = c; compound = p; inner = inner }) climb)
      ]
      by_kinds parent above kind c p k = (
        [],
        none (λ other i is.
            let same : other ≡ parent = one_parent def.tree n other parent is.child c in
            let f = is.final in
            let m = rw same at is.compound in
            cc),
      )

      by_parent : (o : Option ℕ) → parent_of def.tree n ≡ o → (acts : List Act) × AreDoneActs def (IsActiveYet active later) n acts
      by_parent None is = ([], none (λ parent i ended. let c = ended.child in cc))
      by_parent (Some parent) c =
          let (above, p) = kind-some def.tree parent (legal.of_tree parent (legal.parents n parent c has)) in
          let (kind, k) = kind-some def.tree n (legal.of_tree n has) in
          by_kinds parent above kind c p k

  pub entry-there : (n : ℕ) → Contains active n → (acts : List Act) × AreActsOf def (IsActiveYet active later) n acts
  entry-there n has = let (done, are) = done-acts-there n has in (entry_acts def n ++ done, (done, are, refl))

-- ---- climbing on

pub climb-more : (def : Def) (A : ℕ → Type 0) (node low high : ℕ) (nodes more : List ℕ) → more ≡ nodes ++ high ∷ [] → Climbs def A low high
    → ((above : List Act) → IsClimb def A low above → IsClimb def A node (parallel_done def nodes ++ above))
    → (above : List Act) → IsClimb def A high above → IsClimb def A node (parallel_done def more ++ above)
climb-more def A node low high nodes more is climbs was = λ above climb.
    let on = was (Act.RaiseDone (node_id def.tree high) expr.Null ∷ above) (further climbs climb) in
    rw (is, map-append (λ n. Act.RaiseDone (node_id def.tree n) expr.Null) nodes (high ∷ []), append_assoc) on

pub climb-all : (def : Def) (A : ℕ → Type 0) (node low : ℕ) (nodes : List ℕ) → ((high : ℕ) → ¬ Climbs def A low high)
    → ((above : List Act) → IsClimb def A low above → IsClimb def A node (parallel_done def nodes ++ above)) → IsClimb def A node (parallel_done def nodes)
climb-all def A node low nodes out was = let all = was [] (end out) in rw append-nil at all
