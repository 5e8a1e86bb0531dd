use Rattle.std.proofs.Common.{◌≡◌, take, drop, map}
use Rattle.ordered_json.specs.Words.{get, member_parts}
use Rattle.action_table.specs.TableMeaning.{MeanItems}
use Rattle.action_table.proofs.actions.+items.Given as goal

abbrev pub invariant-each_under-loop-member : goal.invariant-each_under-loop-member
invariant-each_under-loop-member l =
    get l.key (map member_parts l.members) ≡ get l.key (map member_parts (drop l.member-index l.members))

abbrev pub invariant-each_item-loop-json : goal.invariant-each_item-loop-json
invariant-each_item-loop-json l = MeanItems (take l.json-index l.jsons) l.items.items
