use Rattle.std.specs.List.{flat_map}
use Rattle.action_table.specs.Uses.{uses_of_machine, uses_of_table}
use Rattle.action_table.proofs.UseLemmas.{unnamed-append}
use Rattle.action_table.proofs.unnamed.first_unnamed.Goals as goal

pub returns : goal.returns
returns c = cc (unnamed-append c.args.ids.now c.args.table.now (flat_map uses_of_machine c.args.machines.now) (uses_of_table c.args.table.now))
