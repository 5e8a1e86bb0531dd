use Rattle.std.proofs.Common.{◌≡◌, take}
use Rattle.std.specs.List.{flat_map}
use Rattle.machine_json.specs.FirstPass.{earliest}
use Rattle.machine_json.specs.SecondPass.{text_faults}
use Rattle.machine_json.proofs.links.first_astray.Given as goal

abbrev pub invariant-loop-text : goal.invariant-loop-text
invariant-loop-text l = l.first ≡ earliest (flat_map (text_faults l.outline l.source) (take l.text-index l.texts))
