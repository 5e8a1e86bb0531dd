use Rattle.std.proofs.Common.{◌∙◌, ap}
use Rattle.std.specs.Option.{option_map}
use Rattle.action_table.specs.Definitions.{actor_logic}
use Rattle.actor_tree.proofs.ChildLemmas.{row_read}
use Rattle.actor_tree.proofs.effects.row_of.Goals as goal

pub returns : goal.returns
returns c = ap (option_map actor_logic) (rw c.in_ok-name.was at c.at.ensures) ∙ row_read c.args.defs.now c.args.src
