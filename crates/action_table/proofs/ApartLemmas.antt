-- The parts of a value in which no object has a key twice have none either.
use Rattle.std.proofs.Common.{rules, ◌≡◌, ℕ, true, false, List, [], ◌∷◌, None, Some, All, map, find, sym, ap, ◌∙◌, subst}
use Rattle.std.specs.Prelude.{⊤, option_map, if◌then◌else◌}
use Rattle.std.specs.List.{AllByRecursion}
use Rattle.std.specs.Str.{bytes_eq}
use Rattle.std.proofs.lemmas.List.Elements.{All-from_recursion}
use Rattle.ordered_json.specs.declared.json.Member.{Member, every-Member, every_held-Member}
use Rattle.ordered_json.specs.declared.json.OrderedJson.{OrderedJson, out-OrderedJson, the_lemmas as json_lemmas}
use Rattle.ordered_json.specs.declared.json.OrderedJson.TheFolds.{every_held-OrderedJson, map-OrderedJson}
use Rattle.ordered_json.specs.declared.json.OrderedJson.TheOpen.{Member-F, OrderedJson-F}
use Rattle.ordered_json.specs.declared.json.OrderedJson.TheVariants as json
use Rattle.ordered_json.specs.declared.json.OrderedJson.TheVariants.{rolls-Null, rolls-Bool, rolls-Int, rolls-Text, rolls-List, rolls-Object}
use Rattle.ordered_json.specs.declared.json.OrderedJson.TheViews.{roll-OrderedJson, roll-out-OrderedJson}
use Rattle.ordered_json.specs.OwnKeys.{AsksNothing, HasOwnKeys, KeepsKeysApart}
use Rattle.ordered_json.specs.Words.{MemberParts, as_list, as_object, get, member_parts}
use Rattle.action_table.specs.OuterShape.{HasOuterShape}

abbrev MemberOwns : Member → Type 0
MemberOwns = every-Member KeepsKeysApart AsksNothing

abbrev Proved : Type 0
Proved = (j : OrderedJson) × HasOwnKeys j

abbrev ProvedMember : Type 0
ProvedMember = (m : Member) × MemberOwns m

-- the items or members of a layer have it
abbrev PartsOwn : OrderedJson-F OrderedJson Member → Type 0
PartsOwn (OrderedJson-F.List place items) = AllByRecursion HasOwnKeys items
PartsOwn (OrderedJson-F.Object place members) = AllByRecursion MemberOwns members
PartsOwn _ = ⊤

all-items : (ps : List Proved) → AllByRecursion HasOwnKeys (map (λ e. e.0) ps)
all-items [] = tt
all-items (p ∷ ps) = (p.1, all-items ps)

all-members : (ps : List ProvedMember) → AllByRecursion MemberOwns (map (λ e. e.0) ps)
all-members [] = tt
all-members (p ∷ ps) = (p.1, all-members ps)

parts-of : (x : OrderedJson-F Proved ProvedMember) → PartsOwn (map-OrderedJson Proved ProvedMember OrderedJson Member (λ e. e.0) (λ e. e.0) x)
parts-of (OrderedJson-F.Null place) = tt
parts-of (OrderedJson-F.Bool place truth) = tt
parts-of (OrderedJson-F.Int place n) = tt
parts-of (OrderedJson-F.Text place text) = tt
parts-of (OrderedJson-F.List place ps) = all-items ps
parts-of (OrderedJson-F.Object place ps) = all-members ps

parts-own : (j : OrderedJson) → HasOwnKeys j → PartsOwn (out-OrderedJson j)
parts-own j own = let held = every_held-OrderedJson KeepsKeysApart AsksNothing j own in subst PartsOwn held.1 (parts-of held.0)

value-owns : (m : Member) → MemberOwns m → HasOwnKeys (member_parts m).value
value-owns m owns =
    let held = every_held-Member KeepsKeysApart AsksNothing m owns in
    subst (λ (x : Member-F OrderedJson Member). HasOwnKeys x.value) held.1 held.0.value.1

-- ---- items

layer-items : (x : OrderedJson-F OrderedJson Member) (items : List OrderedJson) → as_list (roll-OrderedJson x) ≡ Some items → PartsOwn x → AllByRecursion HasOwnKeys items
layer-items (OrderedJson-F.Null place) items is own =
    let none : as_list (json.Null place) ≡ None = search (rules, json_lemmas) in
    let never : None ≡ Some items = sym (ap as_list (rolls-Null place) ∙ none) ∙ is in absurd (cc)
layer-items (OrderedJson-F.Bool place truth) items is own =
    let none : as_list (json.Bool place truth) ≡ None = search (rules, json_lemmas) in
    let never : None ≡ Some items = sym (ap as_list (rolls-Bool place truth) ∙ none) ∙ is in absurd (cc)
layer-items (OrderedJson-F.Int place n) items is own =
    let none : as_list (json.Int place n) ≡ None = search (rules, json_lemmas) in
    let never : None ≡ Some items = sym (ap as_list (rolls-Int place n) ∙ none) ∙ is in absurd (cc)
layer-items (OrderedJson-F.Text place text) items is own =
    let none : as_list (json.Text place text) ≡ None = search (rules, json_lemmas) in
    let never : None ≡ Some items = sym (ap as_list (rolls-Text place text) ∙ none) ∙ is in absurd (cc)
layer-items (OrderedJson-F.List place held) items is own =
    let some : as_list (json.List place held) ≡ Some held = search (rules, json_lemmas) in
    let both : Some held ≡ Some items = sym (ap as_list (rolls-List place held) ∙ some) ∙ is in
    let same : held ≡ items = cc in subst (AllByRecursion HasOwnKeys) same own
layer-items (OrderedJson-F.Object place members) items is own =
    let none : as_list (json.Object place members) ≡ None = search (rules, json_lemmas) in
    let never : None ≡ Some items = sym (ap as_list (rolls-Object place members) ∙ none) ∙ is in absurd (cc)

items-own : (j : OrderedJson) (items : List OrderedJson) → HasOwnKeys j → as_list j ≡ Some items → AllByRecursion HasOwnKeys items
items-own j items own is = layer-items (out-OrderedJson j) items (ap as_list (roll-out-OrderedJson j) ∙ is) (parts-own j own)

-- ---- members

abbrev ValueOwns : MemberParts → Type 0
ValueOwns member = HasOwnKeys member.value

values-own : (members : List Member) → AllByRecursion MemberOwns members → AllByRecursion ValueOwns (map member_parts members)
values-own [] own = tt
values-own (m ∷ members) own = (value-owns m own.0, values-own members own.1)

layer-members : (x : OrderedJson-F OrderedJson Member) (members : List MemberParts) → as_object (roll-OrderedJson x) ≡ Some members → PartsOwn x → AllByRecursion ValueOwns members
layer-members (OrderedJson-F.Null place) members is own =
    let none : as_object (json.Null place) ≡ None = search (rules, json_lemmas) in
    let never : None ≡ Some members = sym (ap as_object (rolls-Null place) ∙ none) ∙ is in absurd (cc)
layer-members (OrderedJson-F.Bool place truth) members is own =
    let none : as_object (json.Bool place truth) ≡ None = search (rules, json_lemmas) in
    let never : None ≡ Some members = sym (ap as_object (rolls-Bool place truth) ∙ none) ∙ is in absurd (cc)
layer-members (OrderedJson-F.Int place n) members is own =
    let none : as_object (json.Int place n) ≡ None = search (rules, json_lemmas) in
    let never : None ≡ Some members = sym (ap as_object (rolls-Int place n) ∙ none) ∙ is in absurd (cc)
layer-members (OrderedJson-F.Text place text) members is own =
    let none : as_object (json.Text place text) ≡ None = search (rules, json_lemmas) in
    let never : None ≡ Some members = sym (ap as_object (rolls-Text place text) ∙ none) ∙ is in absurd (cc)
layer-members (OrderedJson-F.List place held) members is own =
    let none : as_object (json.List place held) ≡ None = search (rules, json_lemmas) in
    let never : None ≡ Some members = sym (ap as_object (rolls-List place held) ∙ none) ∙ is in absurd (cc)
layer-members (OrderedJson-F.Object place held) members is own =
    let some : as_object (json.Object place held) ≡ Some (map member_parts held) = search (rules, json_lemmas) in
    let both : Some (map member_parts held) ≡ Some members = sym (ap as_object (rolls-Object place held) ∙ some) ∙ is in
    let same : map member_parts held ≡ members = cc in subst (AllByRecursion ValueOwns) same (values-own held own)

members-own : (j : OrderedJson) (members : List MemberParts) → HasOwnKeys j → as_object j ≡ Some members → AllByRecursion ValueOwns members
members-own j members own is = layer-members (out-OrderedJson j) members (ap as_object (roll-out-OrderedJson j) ∙ is) (parts-own j own)

under-key : (key : List ℕ) (members : List MemberParts) (found : OrderedJson) → AllByRecursion ValueOwns members → get key members ≡ Some found → HasOwnKeys found
under-key key [] found own = λ is. let never : None ≡ Some found = is in absurd (cc)
under-key key (m ∷ members) found own =
    elim (bytes_eq m.key key) as (λ b. option_map (λ (member : MemberParts). member.value) (if b then Some m else find (λ (member : MemberParts). bytes_eq member.key key) members) ≡ Some found → HasOwnKeys found) [
      | true ↦ λ here. let same : m.value ≡ found = cc in subst HasOwnKeys same own.0
      | false ↦ λ later. under-key key members found own.1 later
    ]

-- ---- the machines of a text

pub machines-own : (j : OrderedJson) (machines : List OrderedJson) (implementations : OrderedJson) → HasOuterShape j machines implementations → HasOwnKeys j → All HasOwnKeys machines
machines-own j machines implementations shape own =
    let list-owns = under-key _ shape.members shape.list (members-own j shape.members own shape.members_are) shape.list_is in
    All-from_recursion HasOwnKeys machines (items-own shape.list machines list-owns shape.machines_are)
