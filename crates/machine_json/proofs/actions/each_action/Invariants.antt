use Rattle.std.proofs.Common.{◌≡◌, map, take}
use Rattle.machine_json.specs.Meaning.{action_of}
use Rattle.machine_json.proofs.actions.each_action.Given as goal

abbrev pub invariant-loop-item : goal.invariant-loop-item
invariant-loop-item l = l.actions.items ≡ map action_of (take l.item-index l.items)
