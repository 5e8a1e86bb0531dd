-- The outer shape of a definitions text, and where a text is out of it.
use Rattle.std.specs.Prelude.{◌≡◌, ◌⊎◌, ◌||◌, ℕ, Bool, false, List, Option, None, Some, codes}
use Rattle.std.specs.List.{Contains}
use Rattle.std.specs.Str.{bytes_eq}
use Rattle.ordered_json.specs.declared.json.OrderedJson.{OrderedJson}
use Rattle.ordered_json.specs.Words.{MemberParts, as_list, as_object, get, place_of}

-- one of these has such a place
abbrev pub IsPlaceAmong : {X : Type 0} → (X → ℕ → Type 0) → List X → ℕ → Type 0
IsPlaceAmong {X} HasPlace xs place = (x : X) × Contains xs x × HasPlace x place

-- ---- the members

-- the keys of the text
abbrev pub is_outer_key : List ℕ → Bool
is_outer_key key = bytes_eq key (codes "machines") || bytes_eq key (codes "implementations")

-- a member with another key, at the key
abbrev pub IsOtherMember : MemberParts → ℕ → Type 0
IsOtherMember member place = (is_outer_key member.key ≡ false) × (place ≡ member.key_place)

-- a value that is no object, at itself
abbrev pub IsNoObject : OrderedJson → ℕ → Type 0
IsNoObject json place = (as_object json ≡ None) × (place ≡ place_of json)

-- a value that has no items is no list; an item is no object
abbrev pub IsItemsFault : OrderedJson → Option (List OrderedJson) → ℕ → Type 0
IsItemsFault json None place = place ≡ place_of json
IsItemsFault json (Some items) place = IsPlaceAmong IsNoObject items place

-- the machines are missing, at the beginning; or they are no list of objects
abbrev pub IsMachinesFault : Option OrderedJson → ℕ → Type 0
IsMachinesFault None place = place ≡ 0
IsMachinesFault (Some json) place = IsItemsFault json (as_list json) place

-- the implementations are missing, at the beginning; or they are no object
abbrev pub IsTablePartFault : Option OrderedJson → ℕ → Type 0
IsTablePartFault None place = place ≡ 0
IsTablePartFault (Some json) place = IsNoObject json place

-- ---- the text

-- a value without members is no object; a member has another key; one of the two parts has a fault
abbrev pub IsMembersFault : OrderedJson → Option (List MemberParts) → ℕ → Type 0
IsMembersFault json None place = place ≡ place_of json
IsMembersFault json (Some members) place =
    (IsPlaceAmong IsOtherMember members place ⊎ IsMachinesFault (get (codes "machines") members) place)
    ⊎ IsTablePartFault (get (codes "implementations") members) place

-- the text is out of its outer shape at this place
abbrev pub HasShapeFault : OrderedJson → ℕ → Type 0
HasShapeFault json place = IsMembersFault json (as_object json) place

-- a text in its outer shape, with these machines and this table
pub record HasOuterShape (json : OrderedJson) (machines : List OrderedJson) (implementations : OrderedJson) : Type 0 where
  pub members : List MemberParts
  pub members_are : as_object json ≡ Some members
  pub list : OrderedJson
  pub list_is : get (codes "machines") members ≡ Some list
  pub machines_are : as_list list ≡ Some machines
  pub table_is : get (codes "implementations") members ≡ Some implementations
  pub faultless : (place : ℕ) → ¬ HasShapeFault json place
