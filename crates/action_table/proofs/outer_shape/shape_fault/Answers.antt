use Rattle.std.proofs.Common.{◌≡◌, Option, Some, map, ap, ◌∙◌, subst, sym}
use Rattle.std.specs.Option.{option_copied, option_map}
use Rattle.ordered_json.specs.declared.json.OrderedJson.{OrderedJson}
use Rattle.ordered_json.specs.Words.{as_object, member_parts}
use Rattle.action_table.specs.OuterShape.{IsMachinesFault, IsTablePartFault}
use Rattle.action_table.specs.TablePlaces.{IsLeastOf}
use Rattle.action_table.proofs.ShapeLemmas.{members-least}
use Rattle.action_table.proofs.outer_shape.shape_fault.Goals as goal

pub returns : goal.returns
returns c =
    let json = c.args.json.now in
    let members = map member_parts c.in-Some.members.now in
    let is : as_object json ≡ Some members = sym c.as_object.ensures ∙ ap (option_map (map member_parts)) (ap option_copied c.in-Some.is) in
    let machines = subst (λ (o : Option OrderedJson). IsLeastOf (IsMachinesFault o) c.machines_fault-machines.result) c.get.ensures c.machines_fault-machines.ensures in
    let table = subst (λ (o : Option OrderedJson). IsLeastOf (IsTablePartFault o) c.table_part_fault-table.result) c.get-2.ensures c.table_part_fault-table.ensures in
    rw (c.least_of-2.ensures, c.least_of.ensures)
    (members-least json members c.first_other-key.result c.machines_fault-machines.result c.table_part_fault-table.result is c.first_other-key.ensures machines table)
