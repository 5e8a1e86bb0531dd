use Rattle.std.proofs.Common.{◌≡◌, ◌∙◌, List, ℕ, Some, ap, sym, subst, inl, inr}
use Rattle.std.specs.Option.{option_map}
use Rattle.node_tree.specs.declared.node.Kind.TheVariants.{Compound, Parallel}
use Rattle.node_tree.specs.declared.node.Node.{Node}
use Rattle.node_tree.specs.Kinds.{kind_of}
use Rattle.step_sets.specs.Sets.{IsSetOf}
use Rattle.snapshot_text.specs.Histories.{IsRegion}
use Rattle.snapshot_text.proofs.FitLemmas.{one_list}
use Rattle.snapshot_text.proofs.validity.histories.is_fit_shallow.Goals as goal

pub returns-in-Compound : goal.returns-in-Compound
returns-in-Compound c =
    let kind : kind_of c.args.tree.now c.args.parent ≡ Some (Compound c.in-Compound.initial) = ap (option_map (λ (node : Node). node.kind)) c.node.ensures ∙ ap Some c.in-Compound.is in (
      (λ holds. inl (c.in-Compound.initial, kind, c.is_one_child.ensures.0 holds)),
      (λ fit. c.is_one_child.ensures.1 (elim fit [ inl (initial, known, one) ↦ one | inr (other, set) ↦ absurd cc ])),
    )

pub returns-in_ok-regions-in-Parallel : goal.returns-in_ok-regions-in-Parallel
returns-in_ok-regions-in-Parallel c =
    let kind : kind_of c.args.tree.now c.args.parent ≡ Some Parallel = ap (option_map (λ (node : Node). node.kind)) c.node.ensures ∙ ap Some c.in-Parallel.is in
    let P : List ℕ → Type 0 = λ l. IsSetOf (IsRegion c.args.tree.now c.args.parent) l in
    let all = c.in_ok-regions-in-Parallel.ensures in
    let lent = c.as_slice.ensures.value in (
      (λ holds. inr (kind, subst P (sym lent ∙ c.are_same.ensures.0 holds) all)),
      (λ fit. c.are_same.ensures.1 (lent ∙ elim fit [ inl (initial, other, one) ↦ absurd cc | inr (known, set) ↦ one_list (IsRegion c.args.tree.now c.args.parent) c.in_ok-regions-in-Parallel.regions.items c.args.list.now all set ])),
    )

pub returns-in_default : goal.returns-in_default
returns-in_default c =
    let kind : kind_of c.args.tree.now c.args.parent ≡ Some c.node.result.now.kind = ap (option_map (λ (node : Node). node.kind)) c.node.ensures in (
      (λ holds. absurd cc),
      (λ fit. absurd (elim fit [
        | inl (initial, known, one) ↦ c.in_default.not-Compound initial (let e : Some c.node.result.now.kind ≡ Some (Compound initial) = sym kind ∙ known in cc)
        | inr (known, set) ↦ c.in_default.not-Parallel (let e : Some c.node.result.now.kind ≡ Some Parallel = sym kind ∙ known in cc)
      ])),
    )
