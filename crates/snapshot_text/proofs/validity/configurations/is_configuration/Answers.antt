use Rattle.std.specs.List.{Contains}
use Rattle.snapshot_text.proofs.ConfigurationLemmas.{legal_of_root, root_of_legal}
use Rattle.snapshot_text.proofs.ListLemmas.{if_ok_weaker}
use Rattle.snapshot_text.proofs.validity.configurations.is_configuration.Goals as goal

pub returns : goal.returns
returns c =
    let nodes = c.args.tree.now in
    let tree = c.len-count.ensures.tree in
    if_ok_weaker c.is_legal_from.result c.is_legal_from.ensures
    (λ legal tells. (
      (λ yes. record { in_order = c.do_rise.ensures.0 c.if-not-do_rise.false; legal = legal_of_root nodes tree (Contains c.args.nodes.now) (tells.0 yes) }),
      (λ is. tells.1 (root_of_legal nodes tree (Contains c.args.nodes.now) is.legal)),
    ))
