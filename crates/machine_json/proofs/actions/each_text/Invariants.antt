use Rattle.std.proofs.Common.{◌≡◌, map, take}
use Rattle.machine_json.specs.Meaning.{text_of}
use Rattle.machine_json.proofs.actions.each_text.Given as goal

abbrev pub invariant-loop-item : goal.invariant-loop-item
invariant-loop-item l = l.texts.items ≡ map text_of (take l.item-index l.items)
