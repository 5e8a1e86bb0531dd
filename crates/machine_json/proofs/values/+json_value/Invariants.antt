use Rattle.std.proofs.Common.{◌≡◌, take, map}
use Rattle.machine_json.specs.JsonValues.{json_value, pairs_of}
use Rattle.machine_json.proofs.ValueLemmas.{fields_of}
use Rattle.machine_json.proofs.values.+json_value.Given as goal

abbrev pub invariant-loop-item : goal.invariant-loop-item
invariant-loop-item l = l.values.items ≡ map json_value (take l.item-index l.item-items)

abbrev pub invariant-loop-member : goal.invariant-loop-member
invariant-loop-member l = pairs_of l.values.entries ≡ fields_of (take l.member-index l.member-items)
