use Rattle.std.proofs.Common.{◌≡◌, ◌∷◌, ◌++◌, [], Some, ap, ◌∙◌, sym}
use Rattle.std.specs.Prelude.{slice_get}
use Rattle.std.proofs.lemmas.Option.{get_or_from_slice_get, slice_get_within}
use Rattle.action_table.proofs.ThereLemmas.{taken}
use Rattle.action_table.proofs.copies.copy_tree.Goals as goal

pub loop-n-preserved : goal.loop-n-preserved
loop-n-preserved c =
    let tree = c.args.tree.now in
    let copied = c.in_ok-copy_node.field-0 in
    let at : slice_get tree c.loop-n.n ≡ Some copied = c.node.ensures ∙ ap Some (sym c.in_ok-copy_node.ensures) in
    c.in_ok-push.ensures.items ∙ ap (λ l. l ++ copied ∷ []) c.loop-n.invariant
    ∙ sym (taken tree c.loop-n.n copied (slice_get_within tree c.loop-n.n copied at) (sym (get_or_from_slice_get tree c.loop-n.n copied copied at)))
