-- Values in which no object has a key twice, as is every value that is read.
use Rattle.std.specs.Prelude.{◌≡◌, ℕ, List, Some, slice_get, ⊤}
use Rattle.ordered_json.specs.declared.json.Member.{Member}
use Rattle.ordered_json.specs.declared.json.OrderedJson.{OrderedJson}
use Rattle.ordered_json.specs.declared.json.OrderedJson.TheFolds.{every-OrderedJson}
use Rattle.ordered_json.specs.declared.json.OrderedJson.TheOpen.{OrderedJson-F, Member-F}

-- members with one key are one member
abbrev pub HaveOwnKeys : List Member → Type 0
HaveOwnKeys members = (i j : ℕ) (one other : Member) → slice_get members i ≡ Some one
    → slice_get members j ≡ Some other → one.key ≡ other.key → i ≡ j

-- if it is an object, its members have keys of their own
abbrev pub KeepsKeysApart : OrderedJson-F OrderedJson Member → Type 0
KeepsKeysApart (OrderedJson-F.Object place members) = HaveOwnKeys members
KeepsKeysApart _ = ⊤

-- a member adds nothing to what is asked of its value
abbrev pub AsksNothing : Member-F OrderedJson Member → Type 0
AsksNothing _ = ⊤

-- no object in the value, at any depth, has a key twice
abbrev pub HasOwnKeys : OrderedJson → Type 0
HasOwnKeys = every-OrderedJson KeepsKeysApart AsksNothing
