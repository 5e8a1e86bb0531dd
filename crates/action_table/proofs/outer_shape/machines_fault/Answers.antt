use Rattle.std.proofs.Common.{◌≡◌, List, Option, Some, ap, ◌∙◌, subst, sym}
use Rattle.std.specs.Option.{option_copied}
use Rattle.ordered_json.specs.declared.json.OrderedJson.{OrderedJson}
use Rattle.ordered_json.specs.Words.{as_list}
use Rattle.action_table.specs.OuterShape.{IsItemsFault, IsMachinesFault}
use Rattle.action_table.specs.TablePlaces.{IsLeastOf}
use Rattle.action_table.proofs.outer_shape.machines_fault.Goals as goal

pub returns-in-Some-as_list : goal.returns-in-Some-as_list
returns-in-Some-as_list c =
    let json = c.in-Some.json.now in
    let part_is : option_copied c.args.part ≡ Some json = ap option_copied c.in-Some.is in
    let list_is : as_list json ≡ Some c.in-Some-as_list.items.now = sym c.as_list.ensures ∙ ap option_copied c.in-Some-as_list.is in
    subst (λ (o : Option OrderedJson). IsLeastOf (IsMachinesFault o) c.first_no_object.result) (sym part_is)
    (subst (λ (o : Option (List OrderedJson)). IsLeastOf (IsItemsFault json o) c.first_no_object.result) (sym list_is) c.first_no_object.ensures)
