use Rattle.std.proofs.Common.{◌≡◌, take}
use Rattle.std.specs.List.{filter_map}
use Rattle.office_types.specs.WorkItems.{open_item}
use Rattle.actor_tree.proofs.restore.restore_items.Given as goal

abbrev pub invariant-loop-actor : goal.invariant-loop-actor
invariant-loop-actor l = l.made.items ≡ filter_map open_item (take l.actor-index l.actors)
