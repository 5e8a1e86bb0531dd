use Rattle.std.proofs.Common.{◌≡◌, map, take}
use Rattle.std.specs.Prelude.{unwrap_or}
use Rattle.ordered_json.specs.declared.json.OrderedJson.{OrderedJson}
use Rattle.machine_json.specs.SecondPass.{led_to}
use Rattle.machine_json.proofs.transitions.targets_of.Given as goal

abbrev pub invariant-loop-text : goal.invariant-loop-text
invariant-loop-text l =
    l.targets.items ≡ map (λ (text : OrderedJson). unwrap_or (led_to l.outline l.source text) 0) (take l.text-index l.texts)
