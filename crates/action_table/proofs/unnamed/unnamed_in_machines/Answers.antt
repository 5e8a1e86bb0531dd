use Rattle.std.proofs.Common.{ap, ◌∙◌}
use Rattle.std.specs.List.{flat_map}
use Rattle.action_table.specs.Unnamed.{least_unnamed}
use Rattle.action_table.specs.Uses.{uses_of_machine, uses_of_node}
use Rattle.action_table.proofs.UseLemmas.{unnamed-more, unnamed-all}
use Rattle.action_table.proofs.unnamed.unnamed_in_machines.Goals as goal

pub loop-machine-preserved : goal.loop-machine-preserved
loop-machine-preserved c =
    c.least_of-least.ensures
    ∙ unnamed-more c.args.ids.now c.args.table.now uses_of_machine c.args.machines.now c.loop-machine.machine-index c.machine-item.result c.loop-machine.least c.unnamed_in_nodes.result c.loop-machine-test.true c.machine-item.is c.loop-machine.invariant
    (c.unnamed_in_nodes.ensures ∙ ap (λ l. least_unnamed c.args.ids.now c.args.table.now (flat_map uses_of_node l)) c.as_slice.ensures)

pub returns : goal.returns
returns c = unnamed-all c.args.ids.now c.args.table.now uses_of_machine c.args.machines.now c.loop-machine.machine-index c.loop-machine.least c.loop-machine-test.false c.loop-machine.invariant
