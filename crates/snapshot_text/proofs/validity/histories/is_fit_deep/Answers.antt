use Rattle.std.specs.List.{Contains}
use Rattle.snapshot_text.specs.Histories.{LeadsToSome}
use Rattle.snapshot_text.proofs.FitLemmas.{from_other}
use Rattle.snapshot_text.proofs.ListLemmas.{if_ok_weaker}
use Rattle.snapshot_text.proofs.validity.histories.is_fit_deep.Goals as goal

pub returns : goal.returns
returns c =
    let above = c.in_ok-above.above.items in
    let exact = c.in_ok-above.ensures.exact in
    let same = c.as_slice.ensures.value in
    if_ok_weaker c.is_legal_from.result c.is_legal_from.ensures
    (λ legal tells. (
      (λ holds. record {
        in_order = c.do_rise.ensures.0 c.if-not-do_rise.false;
        leaves = c.are_leaves_below.ensures.0 c.if-not-are_leaves_below.false;
        legal = from_other c.args.tree.now c.args.parent (Contains above) (LeadsToSome c.args.tree.now c.args.list.now c.args.parent) exact (rw same at (tells.0 holds));
      }),
      (λ deep. tells.1 (rw same (from_other c.args.tree.now c.args.parent (LeadsToSome c.args.tree.now c.args.list.now c.args.parent) (Contains above) (λ n. ((exact n).1, (exact n).0)) deep.legal))),
    ))
