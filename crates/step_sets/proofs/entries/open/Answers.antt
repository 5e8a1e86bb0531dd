use Rattle.std.proofs.Common.{◌≡◌, ◌∙◌, Some, ap, inl, inr}
use Rattle.std.specs.BTreeSet.{contains}
use Rattle.std.specs.Option.{option_map}
use Rattle.std.specs.Ordering.{nat_cmp}
use Rattle.node_tree.specs.Kinds.{kind_of}
use Rattle.node_tree.specs.declared.node.Kind.TheVariants.{Compound}
use Rattle.node_tree.specs.declared.node.Node.{Node}
use Rattle.step_sets.proofs.PathLemmas.{compound_enters, on_ok_weaker}
use Rattle.step_sets.proofs.entries.open.Goals as goal

pub returns-in-Compound : goal.returns-in-Compound
returns-in-Compound c =
    let nodes = c.args.tree.now in
    let node = c.args.node in
    let start = c.in-Compound.initial in
    let compound : kind_of nodes node ≡ Some (Compound start) = ap (option_map (λ (x : Node). x.kind)) c.node.ensures ∙ ap Some c.in-Compound.is in
    on_ok_weaker c.open_compound.result c.open_compound.ensures
    (λ tells n. let enters = compound_enters nodes c.len-nodes.ensures.tree (contains nat_cmp c.args.pending.now) node start n compound in (
      (λ h. elim ((tells n).0 h) [ inl o ↦ inl o | inr e ↦ inr (enters.1 e) ]),
      (λ h. (tells n).1 (elim h [ inl o ↦ inl o | inr e ↦ inr (enters.0 e) ])),
    ))
