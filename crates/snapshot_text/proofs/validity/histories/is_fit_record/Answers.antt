use Rattle.std.proofs.Common.{◌≡◌, ◌∙◌, Some, ap, sym, arith}
use Rattle.std.specs.Option.{option_map}
use Rattle.node_tree.specs.declared.node.Kind.TheVariants.{Deep, Shallow}
use Rattle.node_tree.specs.declared.node.Node.{Node}
use Rattle.node_tree.specs.Kinds.{kind_of}
use Rattle.node_tree.specs.Nodes.{IsChild}
use Rattle.step_sets.proofs.TreeLemmas.{child_inside}
use Rattle.snapshot_text.proofs.FitLemmas.{deep_of_record, other_kind, record_of_deep, record_of_shallow, shallow_of_record}
use Rattle.snapshot_text.proofs.ListLemmas.{if_ok_weaker}
use Rattle.snapshot_text.proofs.validity.histories.is_fit_record.Goals as goal

pub returns-then-len-history : goal.returns-then-len-history
returns-then-len-history c = (
  (λ holds. absurd cc),
  (λ fit. absurd (let inside = child_inside c.args.tree.now c.args.history fit.parent fit.child in let count = c.len.ensures.count in omega arith)),
)

pub returns-in_default : goal.returns-in_default
returns-in_default c = ((λ holds. absurd cc), (λ fit. absurd (let none = c.in_default.ensures.parent in let some = fit.child in cc)))

pub returns-in-Shallow : goal.returns-in-Shallow
returns-in-Shallow c =
    let nodes = c.args.tree.now in
    let tree = c.len.ensures.tree in
    let is : IsChild nodes c.args.history c.in-Some.parent = sym c.in-Some.ensures.parent in
    let kind : kind_of nodes c.args.history ≡ Some (Shallow c.in-Shallow.default) = ap (option_map (λ (node : Node). node.kind)) c.node.ensures ∙ ap Some c.in-Shallow.is in
    if_ok_weaker c.is_fit_shallow.result c.is_fit_shallow.ensures
    (λ fits tells. (
      (λ holds. record_of_shallow nodes tree c.requires c.args.history c.in-Some.parent is c.in-Shallow.default kind c.args.list.now (tells.0 holds)),
      (λ fit. tells.1 (shallow_of_record nodes tree c.requires c.args.history c.in-Some.parent is c.in-Shallow.default kind c.args.list.now fit)),
    ))

pub returns-in-Deep : goal.returns-in-Deep
returns-in-Deep c =
    let nodes = c.args.tree.now in
    let tree = c.len.ensures.tree in
    let is : IsChild nodes c.args.history c.in-Some.parent = sym c.in-Some.ensures.parent in
    let kind : kind_of nodes c.args.history ≡ Some (Deep c.in-Deep.default) = ap (option_map (λ (node : Node). node.kind)) c.node.ensures ∙ ap Some c.in-Deep.is in
    if_ok_weaker c.is_fit_deep.result c.is_fit_deep.ensures
    (λ fits tells. (
      (λ holds. record_of_deep nodes tree c.requires c.args.history c.in-Some.parent is c.in-Deep.default kind c.args.list.now (tells.0 holds)),
      (λ fit. tells.1 (deep_of_record nodes tree c.requires c.args.history c.in-Some.parent is c.in-Deep.default kind c.args.list.now fit)),
    ))

pub returns-in_default-kind : goal.returns-in_default-kind
returns-in_default-kind c = (
  (λ holds. absurd cc),
  (λ fit. absurd (other_kind c.args.tree.now c.args.history c.node.result.now (sym (sym c.node.ensures)) c.in_default-kind.not-Shallow c.in_default-kind.not-Deep fit.history)),
)
