-- Where the implementations have a fault.
use Rattle.std.specs.Prelude.{◌≡◌, ℕ, true, ◌&&◌, List, ◌∷◌, Option, None, Some, min, if◌then◌else◌}
use Rattle.std.specs.Option.{option_map_or}
use Rattle.ordered_json.specs.declared.json.OrderedJson.{OrderedJson}
use Rattle.ordered_json.specs.Words.{MemberParts, as_object, place_of}
use Rattle.machine_json.specs.declared.expressions.FormPlace.TheVariants.{AtOperator}
use Rattle.machine_json.specs.Expressions.{HasUnknownForm}
use Rattle.machine_json.specs.FirstFaults.{IsLeastPlace}
use Rattle.action_table.specs.declared.role.Shape.{Shape}
use Rattle.action_table.specs.declared.role.TableRole.{TableRole}
use Rattle.action_table.specs.declared.role.TableRole.TheVariants as role
use Rattle.action_table.specs.Shapes.{is_complete, table_item_role, items_in, key_role, members_in, shape_of, takes}

-- a value that may not stand there, or an object that is empty or lacks a part, at itself
abbrev pub own_fault : TableRole → OrderedJson → Option ℕ
own_fault where_it_stands json =
    if takes where_it_stands json && option_map_or (is_complete where_it_stands) (as_object json) true
    then None else Some (place_of json)

mutual
  -- a value has a fault at the place: itself, as an expression, in a member or in an item
  pub data HasTableFault : TableRole → OrderedJson → ℕ → Type 0 where
    itself : (where_it_stands : TableRole) (json : OrderedJson) (place : ℕ)
        → own_fault where_it_stands json ≡ Some place → HasTableFault where_it_stands json place
    unknown : (json : OrderedJson) (place : ℕ)
        → HasUnknownForm AtOperator json place → HasTableFault role.Expression json place
    in_members : (where_it_stands : TableRole) (json : OrderedJson) (place : ℕ)
        → HasMemberFault where_it_stands (shape_of where_it_stands (members_in where_it_stands json)) (members_in where_it_stands json) place
        → HasTableFault where_it_stands json place
    in_items : (where_it_stands : TableRole) (json : OrderedJson) (place : ℕ)
        → HasItemFault (table_item_role where_it_stands) (items_in where_it_stands json) place
        → HasTableFault where_it_stands json place

  -- a member of an object of this form has a fault: at a key that the object doesn't have, or in its value
  pub data HasMemberFault : TableRole → Option Shape → List MemberParts → ℕ → Type 0 where
    at_key : (where_it_stands : TableRole) (form : Option Shape) (member : MemberParts) (members : List MemberParts)
        → key_role where_it_stands form member.key ≡ None
        → HasMemberFault where_it_stands form (member ∷ members) member.key_place
    in_value : (where_it_stands part : TableRole) (form : Option Shape) (member : MemberParts) (members : List MemberParts) (place : ℕ)
        → key_role where_it_stands form member.key ≡ Some part → HasTableFault part member.value place
        → HasMemberFault where_it_stands form (member ∷ members) place
    in_later : (where_it_stands : TableRole) (form : Option Shape) (member : MemberParts) (members : List MemberParts) (place : ℕ)
        → HasMemberFault where_it_stands form members place
        → HasMemberFault where_it_stands form (member ∷ members) place

  -- an item of a list has a fault
  pub data HasItemFault : TableRole → List OrderedJson → ℕ → Type 0 where
    in_first : (where_it_stands : TableRole) (json : OrderedJson) (jsons : List OrderedJson) (place : ℕ)
        → HasTableFault where_it_stands json place → HasItemFault where_it_stands (json ∷ jsons) place
    in_rest : (where_it_stands : TableRole) (json : OrderedJson) (jsons : List OrderedJson) (place : ℕ)
        → HasItemFault where_it_stands jsons place → HasItemFault where_it_stands (json ∷ jsons) place

-- the least of the places that there are, or that there are none
abbrev pub IsLeastOf : (ℕ → Type 0) → Option ℕ → Type 0
IsLeastOf IsThere None = (place : ℕ) → IsThere place → ⊥
IsLeastOf IsThere (Some place) = IsLeastPlace IsThere place

-- the lesser of two places that there may be
abbrev pub least_of : Option ℕ → Option ℕ → Option ℕ
least_of None found = found
least_of (Some place) None = Some place
least_of (Some place) (Some other) = Some (min place other)
