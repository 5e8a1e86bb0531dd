-- Words over a value, so that a definition elsewhere can take a value apart without its storage.
use Rattle.std.specs.Prelude.{ℕ, ℤ, Bool, true, false, List, map, find, Option, Some, None, option_map, option_and_then, if◌then◌else◌}
use Rattle.std.specs.List.{list_all, list_any}
use Rattle.std.specs.Str.{bytes_eq}
use Rattle.ordered_json.specs.declared.TheConstants.{MAX_TEXT}
use Rattle.ordered_json.specs.declared.fault.JsonFault.{JsonFault}
use Rattle.ordered_json.specs.declared.fault.JsonFault.TheVariants.{Syntax, DoubleKey, Fraction, Range, TooDeep, TooLong, Memory}
use Rattle.ordered_json.specs.declared.json.Member.{Member, out-Member, roll-Member}
use Rattle.ordered_json.specs.declared.json.OrderedJson.{OrderedJson, OrderedJson-F, out-OrderedJson}

-- ---- members
-- a member: its key, where the key's opening quote stands, and its value
pub record MemberParts : Type 0 where
  pub key : List ℕ
  pub key_place : ℕ
  pub value : OrderedJson

abbrev pub member_parts : Member → MemberParts
member_parts m = record {
  key = (out-Member m).key;
  key_place = (out-Member m).key_place;
  value = (out-Member m).value;
}

-- a member of these parts
abbrev pub member_of : List ℕ → ℕ → OrderedJson → Member
member_of key place json = roll-Member (record { key = key; key_place = place; value = json })

-- the key of a member
abbrev pub key_of : Member → List ℕ
key_of m = (out-Member m).key

-- ---- one layer of a value
abbrev place_in : {A B : Type 0} → OrderedJson-F A B → ℕ
place_in (OrderedJson-F.Null place) = place
place_in (OrderedJson-F.Bool place b) = place
place_in (OrderedJson-F.Int place z) = place
place_in (OrderedJson-F.Text place text) = place
place_in (OrderedJson-F.List place items) = place
place_in (OrderedJson-F.Object place members) = place

abbrev is_null_in : {A B : Type 0} → OrderedJson-F A B → Bool
is_null_in (OrderedJson-F.Null place) = true
is_null_in (OrderedJson-F.Bool place b) = false
is_null_in (OrderedJson-F.Int place z) = false
is_null_in (OrderedJson-F.Text place text) = false
is_null_in (OrderedJson-F.List place items) = false
is_null_in (OrderedJson-F.Object place members) = false

abbrev bool_in : {A B : Type 0} → OrderedJson-F A B → Option Bool
bool_in (OrderedJson-F.Null place) = None
bool_in (OrderedJson-F.Bool place b) = Some b
bool_in (OrderedJson-F.Int place z) = None
bool_in (OrderedJson-F.Text place text) = None
bool_in (OrderedJson-F.List place items) = None
bool_in (OrderedJson-F.Object place members) = None

abbrev int_in : {A B : Type 0} → OrderedJson-F A B → Option ℤ
int_in (OrderedJson-F.Null place) = None
int_in (OrderedJson-F.Bool place b) = None
int_in (OrderedJson-F.Int place z) = Some z
int_in (OrderedJson-F.Text place text) = None
int_in (OrderedJson-F.List place items) = None
int_in (OrderedJson-F.Object place members) = None

abbrev text_in : {A B : Type 0} → OrderedJson-F A B → Option (List ℕ)
text_in (OrderedJson-F.Null place) = None
text_in (OrderedJson-F.Bool place b) = None
text_in (OrderedJson-F.Int place z) = None
text_in (OrderedJson-F.Text place text) = Some text
text_in (OrderedJson-F.List place items) = None
text_in (OrderedJson-F.Object place members) = None

abbrev list_in : {A B : Type 0} → OrderedJson-F A B → Option (List A)
list_in (OrderedJson-F.Null place) = None
list_in (OrderedJson-F.Bool place b) = None
list_in (OrderedJson-F.Int place z) = None
list_in (OrderedJson-F.Text place text) = None
list_in (OrderedJson-F.List place items) = Some items
list_in (OrderedJson-F.Object place members) = None

abbrev object_in : {A : Type 0} → OrderedJson-F A Member → Option (List MemberParts)
object_in (OrderedJson-F.Null place) = None
object_in (OrderedJson-F.Bool place b) = None
object_in (OrderedJson-F.Int place z) = None
object_in (OrderedJson-F.Text place text) = None
object_in (OrderedJson-F.List place items) = None
object_in (OrderedJson-F.Object place members) = Some (map member_parts members)

-- ---- a value
-- where the value begins
abbrev pub place_of : OrderedJson → ℕ
place_of json = place_in (out-OrderedJson json)

abbrev pub is_null : OrderedJson → Bool
is_null json = is_null_in (out-OrderedJson json)

abbrev pub as_bool : OrderedJson → Option Bool
as_bool json = bool_in (out-OrderedJson json)

-- the number
abbrev pub as_int : OrderedJson → Option ℤ
as_int json = int_in (out-OrderedJson json)

-- the bytes of a string
abbrev pub as_text : OrderedJson → Option (List ℕ)
as_text json = text_in (out-OrderedJson json)

-- the values of an array
abbrev pub as_list : OrderedJson → Option (List OrderedJson)
as_list json = list_in (out-OrderedJson json)

-- the members of an object, in the order of the text
abbrev pub as_object : OrderedJson → Option (List MemberParts)
as_object json = object_in (out-OrderedJson json)

-- the members, if they have no other keys than these
abbrev pub if_only : List (List ℕ) → List MemberParts → Option (List MemberParts)
if_only keys members =
    if list_all (λ member. list_any (bytes_eq member.key) keys) members then Some members else None

-- the members of an object that has no other keys than these
abbrev pub as_object_of : List (List ℕ) → OrderedJson → Option (List MemberParts)
as_object_of keys json = option_and_then (if_only keys) (as_object json)

-- ---- the values of members
-- the value under a key
abbrev pub get : List ℕ → List MemberParts → Option OrderedJson
get key members = option_map (λ member. member.value) (find (λ member. bytes_eq member.key key) members)

-- the text, the list and the object under a key
abbrev pub get_text : List ℕ → List MemberParts → Option (List ℕ)
get_text key members = option_and_then as_text (get key members)

abbrev pub get_list : List ℕ → List MemberParts → Option (List OrderedJson)
get_list key members = option_and_then as_list (get key members)

abbrev pub get_object : List ℕ → List MemberParts → Option (List MemberParts)
get_object key members = option_and_then as_object (get key members)

-- ---- a fault
-- where a fault stands; want of memory has no place and counts as 0
abbrev pub fault_place : JsonFault → ℕ
fault_place (Syntax place) = place
fault_place (DoubleKey place) = place
fault_place (Fraction place) = place
fault_place (Range place) = place
fault_place (TooDeep place) = place
fault_place TooLong = MAX_TEXT
fault_place Memory = 0
