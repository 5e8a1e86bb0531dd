use Rattle.std.proofs.Common.{◌≡◌, None, Some, map, ap, ◌∙◌, subst, sym}
use Rattle.std.specs.Option.{option_copied, option_map}
use Rattle.ordered_json.specs.Words.{as_object, member_parts}
use Rattle.action_table.specs.OuterShape.{HasShapeFault}
use Rattle.action_table.specs.TablePlaces.{IsLeastOf}
use Rattle.action_table.proofs.ShapeLemmas.{no-machines, no-object, no-table}
use Rattle.action_table.proofs.outer_shape.outer_parts.Goals as goal

pub unreachable-requires : goal.unreachable-requires
unreachable-requires c =
    let json = c.args.json.now in
    let faultless : IsLeastOf (HasShapeFault json) None = subst (IsLeastOf (HasShapeFault json)) c.in_default.is c.shape_fault.ensures in
    let none : as_object json ≡ None = sym c.as_object.ensures ∙ ap (option_map (map member_parts)) (ap option_copied c.in_default-as_object.is) in
    no-object json faultless none

pub unreachable-requires-in_default-get_list : goal.unreachable-requires-in_default-get_list
unreachable-requires-in_default-get_list c =
    let json = c.args.json.now in
    let members = map member_parts c.in-Some-as_object.members.now in
    let faultless : IsLeastOf (HasShapeFault json) None = subst (IsLeastOf (HasShapeFault json)) c.in_default.is c.shape_fault.ensures in
    let is : as_object json ≡ Some members = sym c.as_object.ensures ∙ ap (option_map (map member_parts)) (ap option_copied c.in-Some-as_object.is) in
    no-machines json faultless members is (sym c.get_list.ensures ∙ ap option_copied c.in_default-get_list.is)

pub unreachable-requires-in_default-get : goal.unreachable-requires-in_default-get
unreachable-requires-in_default-get c =
    let json = c.args.json.now in
    let members = map member_parts c.in-Some-as_object.members.now in
    let faultless : IsLeastOf (HasShapeFault json) None = subst (IsLeastOf (HasShapeFault json)) c.in_default.is c.shape_fault.ensures in
    let is : as_object json ≡ Some members = sym c.as_object.ensures ∙ ap (option_map (map member_parts)) (ap option_copied c.in-Some-as_object.is) in
    no-table json faultless members is (sym c.get.ensures ∙ ap option_copied c.in_default-get.is)
