use Rattle.std.proofs.Common.{Some, ap, ◌∙◌, sym}
use Rattle.std.specs.Option.{option_map}
use Rattle.action_table.specs.Linking.{used_with}
use Rattle.action_table.proofs.linked_uses.used_form.Goals as goal

pub returns : goal.returns
returns c =
    ap (option_map (used_with c.args.params.now)) c.in_ok-action.ensures
    ∙ ap (λ p. Some (used_with p c.in_ok-action.action)) (sym c.in_ok-params.ensures)
