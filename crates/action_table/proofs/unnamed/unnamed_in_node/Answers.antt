use Rattle.std.specs.List.{flat_map}
use Rattle.action_table.specs.Uses.{uses_of_actions, uses_of_delay, uses_of_invocation, uses_of_transition}
use Rattle.action_table.proofs.UseLemmas.{six-joined}
use Rattle.action_table.proofs.unnamed.unnamed_in_node.Goals as goal

pub returns : goal.returns
returns c =
    let node = c.args.node.now in
    cc (six-joined c.args.ids.now c.args.table.now (uses_of_actions node.entry) (uses_of_actions node.exit) (flat_map uses_of_transition node.transitions) (flat_map uses_of_transition node.always) (flat_map uses_of_delay node.after) (flat_map uses_of_invocation node.invoke))
