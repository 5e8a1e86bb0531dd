use Rattle.std.specs.List.{flat_map}
use Rattle.action_table.specs.Uses.{uses_of_action_row, uses_of_actor_row}
use Rattle.action_table.proofs.UseLemmas.{unnamed-append}
use Rattle.action_table.proofs.unnamed_forms.unnamed_in_table.Goals as goal

pub returns : goal.returns
returns c =
    let table = c.args.table.now in
    cc (unnamed-append c.args.ids.now c.args.table.now (flat_map uses_of_action_row table.actions) (flat_map uses_of_actor_row table.actors))
