-- The parts of a value in which no object has a key twice have none either.
use Rattle.std.proofs.Common.{rules, ◌≡◌, ◌+◌, ℕ, zero, suc, List, [], ◌∷◌, Option, None, Some, length, map, refl, sym, ap, ◌∙◌, subst, inl, inr}
use Rattle.std.specs.Prelude.{codes, option_map, slice_get, unwrap_or, ⊤}
use Rattle.std.specs.List.{AllByRecursion}
use Rattle.std.proofs.lemmas.Option.{slice_get-map}
use Rattle.ordered_json.specs.declared.json.Member.{Member, every-Member, every_held-Member}
use Rattle.ordered_json.specs.declared.json.OrderedJson.{OrderedJson, out-OrderedJson, the_lemmas as json_lemmas}
use Rattle.ordered_json.specs.declared.json.OrderedJson.TheFolds.{every_held-OrderedJson, every_here-OrderedJson, map-OrderedJson}
use Rattle.ordered_json.specs.declared.json.OrderedJson.TheOpen.{Member-F, OrderedJson-F}
use Rattle.ordered_json.specs.declared.json.OrderedJson.TheVariants as json
use Rattle.ordered_json.specs.declared.json.OrderedJson.TheVariants.{rolls-Null, rolls-Bool, rolls-Int, rolls-Text, rolls-List, rolls-Object}
use Rattle.ordered_json.specs.declared.json.OrderedJson.TheViews.{roll-OrderedJson, roll-out-OrderedJson}
use Rattle.ordered_json.specs.OwnKeys.{AsksNothing, HasOwnKeys, HaveOwnKeys, KeepsKeysApart}
use Rattle.ordered_json.specs.Words.{MemberParts, as_object, get, member_parts}
use Rattle.machine_json.specs.NodeKinds.{children_of, members_of}
use Rattle.machine_json.specs.Nodes.{AreNodes, AreNodesBelow, NodeParts, more, node, none}
use Rattle.machine_json.proofs.DocumentLemmas.{slice_get-either}
use Rattle.machine_json.proofs.FaultlessLemmas.{found_under}
use Rattle.machine_json.proofs.NodeLemmas.{children_at, no_children}
use Rattle.machine_json.proofs.ReadChildLemmas.{HaveDistinctKeys}

abbrev MemberOwns : Member → Type 0
MemberOwns = every-Member KeepsKeysApart AsksNothing

abbrev Proved : Type 0
Proved = (j : OrderedJson) × HasOwnKeys j

abbrev ProvedMember : Type 0
ProvedMember = (m : Member) × MemberOwns m

-- ---- one layer

-- the members of a layer have own keys, and so has each value under them
abbrev PartsOwn : OrderedJson-F OrderedJson Member → Type 0
PartsOwn (OrderedJson-F.Object place members) = AllByRecursion MemberOwns members
PartsOwn _ = ⊤

all-members : (ps : List ProvedMember) → AllByRecursion MemberOwns (map (λ e. e.0) ps)
all-members [] = tt
all-members (p ∷ ps) = (p.1, all-members ps)

parts-of : (x : OrderedJson-F Proved ProvedMember) → PartsOwn (map-OrderedJson Proved ProvedMember OrderedJson Member (λ e. e.0) (λ e. e.0) x)
parts-of (OrderedJson-F.Null place) = tt
parts-of (OrderedJson-F.Bool place truth) = tt
parts-of (OrderedJson-F.Int place n) = tt
parts-of (OrderedJson-F.Text place text) = tt
parts-of (OrderedJson-F.List place ps) = tt
parts-of (OrderedJson-F.Object place ps) = all-members ps

layer-owns : (j : OrderedJson) → HasOwnKeys j → PartsOwn (out-OrderedJson j) × KeepsKeysApart (out-OrderedJson j)
layer-owns j own = let held = every_held-OrderedJson KeepsKeysApart AsksNothing j own in (subst PartsOwn held.1 (parts-of held.0), every_here-OrderedJson KeepsKeysApart AsksNothing j own)

value-owns : (m : Member) → MemberOwns m → HasOwnKeys (member_parts m).value
value-owns m owns =
    let held = every_held-Member KeepsKeysApart AsksNothing m owns in
    subst (λ (x : Member-F OrderedJson Member). HasOwnKeys x.value) held.1 held.0.value.1

-- ---- members

-- members with keys of their own, under which the values have them too
abbrev OwnMembers : List MemberParts → Type 0
OwnMembers members = HaveDistinctKeys members × ((k : ℕ) (m : MemberParts) → slice_get members k ≡ Some m → HasOwnKeys m.value)

-- a member's parts are those of a member
part-of : (held : List Member) (k : ℕ) (m : MemberParts) (found : Option Member) → slice_get held k ≡ found → slice_get (map member_parts held) k ≡ Some m
    → (one : Member) × (slice_get held k ≡ Some one) × (member_parts one ≡ m)
part-of held k m None is at =
    let nothing : slice_get (map member_parts held) k ≡ None = slice_get-map member_parts held k ∙ ap (option_map member_parts) is in
    let never : None ≡ Some m = sym nothing ∙ at in absurd (cc)
part-of held k m (Some one) is at =
    let there : slice_get (map member_parts held) k ≡ Some (member_parts one) = slice_get-map member_parts held k ∙ ap (option_map member_parts) is in
    let both : Some (member_parts one) ≡ Some m = sym there ∙ at in (one, is, cc)

own-value : (held : List Member) → AllByRecursion MemberOwns held → (k : ℕ) (one : Member) → slice_get held k ≡ Some one → HasOwnKeys (member_parts one).value
own-value [] own k one at = absurd (cc)
own-value (m ∷ held) own zero one at = let same : m ≡ one = cc in subst (λ (x : Member). HasOwnKeys (member_parts x).value) same (value-owns m own.0)
own-value (m ∷ held) own (suc k) one at = own-value held own.1 k one at

own-held : (held : List Member) → AllByRecursion MemberOwns held → HaveOwnKeys held → OwnMembers (map member_parts held)
own-held held own apart = (
  λ i j one other at at_too same.
      let first = part-of held i one (slice_get held i) refl at in
      let second = part-of held j other (slice_get held j) refl at_too in
      apart i j first.0 second.0 first.1 second.1
      (ap (λ (m : MemberParts). m.key) first.2 ∙ same ∙ ap (λ (m : MemberParts). m.key) (sym second.2)),
  λ k m at.
      let found = part-of held k m (slice_get held k) refl at in
      subst (λ (x : MemberParts). HasOwnKeys x.value) found.2 (own-value held own k found.0 found.1),
)

layer-members : (x : OrderedJson-F OrderedJson Member) (members : List MemberParts) → as_object (roll-OrderedJson x) ≡ Some members
    → PartsOwn x → KeepsKeysApart x → OwnMembers members
layer-members (OrderedJson-F.Null place) members is own apart =
    let nothing : as_object (json.Null place) ≡ None = search (rules, json_lemmas) in
    let never : None ≡ Some members = sym (ap as_object (rolls-Null place) ∙ nothing) ∙ is in absurd (cc)
layer-members (OrderedJson-F.Bool place truth) members is own apart =
    let nothing : as_object (json.Bool place truth) ≡ None = search (rules, json_lemmas) in
    let never : None ≡ Some members = sym (ap as_object (rolls-Bool place truth) ∙ nothing) ∙ is in absurd (cc)
layer-members (OrderedJson-F.Int place n) members is own apart =
    let nothing : as_object (json.Int place n) ≡ None = search (rules, json_lemmas) in
    let never : None ≡ Some members = sym (ap as_object (rolls-Int place n) ∙ nothing) ∙ is in absurd (cc)
layer-members (OrderedJson-F.Text place text) members is own apart =
    let nothing : as_object (json.Text place text) ≡ None = search (rules, json_lemmas) in
    let never : None ≡ Some members = sym (ap as_object (rolls-Text place text) ∙ nothing) ∙ is in absurd (cc)
layer-members (OrderedJson-F.List place held) members is own apart =
    let nothing : as_object (json.List place held) ≡ None = search (rules, json_lemmas) in
    let never : None ≡ Some members = sym (ap as_object (rolls-List place held) ∙ nothing) ∙ is in absurd (cc)
layer-members (OrderedJson-F.Object place held) members is own apart =
    let some : as_object (json.Object place held) ≡ Some (map member_parts held) = search (rules, json_lemmas) in
    let both : Some (map member_parts held) ≡ Some members = sym (ap as_object (rolls-Object place held) ∙ some) ∙ is in
    let same : map member_parts held ≡ members = cc in subst OwnMembers same (own-held held own apart)

by-object : (j : OrderedJson) (object : Option (List MemberParts)) → as_object j ≡ object → HasOwnKeys j → OwnMembers (unwrap_or object [])
by-object j None is own = (λ i k one other at at_too same. absurd (cc), λ k m at. absurd (cc))
by-object j (Some members) is own =
    let layer = layer-owns j own in
    layer-members (out-OrderedJson j) members (ap as_object (roll-out-OrderedJson j) ∙ is) layer.0 layer.1

-- ---- what is used of it

-- no two members of an object have one key
pub members_apart : (j : OrderedJson) → HasOwnKeys j → HaveDistinctKeys (members_of j)
members_apart j own = (by-object j (as_object j) refl own).0

-- and no object under them has a key twice
pub member_owns : (j : OrderedJson) (k : ℕ) (m : MemberParts) → HasOwnKeys j → slice_get (members_of j) k ≡ Some m → HasOwnKeys m.value
member_owns j k m own at = (by-object j (as_object j) refl own).1 k m at

pub under_key_owns : (j : OrderedJson) (key : List ℕ) (value : OrderedJson) → HasOwnKeys j → get key (members_of j) ≡ Some value → HasOwnKeys value
under_key_owns j key value own is =
    let found = found_under key (members_of j) value is in
    subst HasOwnKeys found.4 (member_owns j found.0 found.1 own found.2)

-- ---- the nodes of a text

-- the children of a node have keys of their own, and their texts have too
abbrev OwnChildren : OrderedJson → Type 0
OwnChildren json = OwnMembers (children_of (members_of json))

by-states : (json : OrderedJson) (states : Option OrderedJson) → get (codes "states") (members_of json) ≡ states → HasOwnKeys json → OwnChildren json
by-states json None is own = subst OwnMembers (sym (no_children (members_of json) is)) (λ i k one other at at_too same. absurd (cc), λ k m at. absurd (cc))
by-states json (Some states) is own =
    let below = under_key_owns json (codes "states") states own is in
    subst OwnMembers (children_at (members_of json) states is) (by-object states (as_object states) refl below)

own-children : (json : OrderedJson) → HasOwnKeys json → OwnChildren json
own-children json own = by-states json (get (codes "states") (members_of json)) refl own

-- no two children of a node have one key
pub children_apart : (json : OrderedJson) → HasOwnKeys json → HaveDistinctKeys (children_of (members_of json))
children_apart json own = (own-children json own).0

mutual
  -- no object in the text of a node has a key twice
  pub node_owns : (number : ℕ) (parent : Option ℕ) (key : List ℕ) (json : OrderedJson) (nodes : List NodeParts) → AreNodes number parent key json nodes
      → HasOwnKeys json → (k : ℕ) (x : NodeParts) → slice_get nodes k ≡ Some x → HasOwnKeys x.json
  node_owns _ _ _ _ _ (node number parent key json below is) own zero x at =
      let head : NodeParts = record { parent = parent; key = key; json = json } in
      let same : head ≡ x = cc in
      subst (λ (y : NodeParts). HasOwnKeys y.json) same own
  node_owns _ _ _ _ _ (node number parent key json below is) own (suc k) x at =
      nodes_own (number + 1) number (children_of (members_of json)) below is (own-children json own).1 k x at

  nodes_own : (next parent : ℕ) (children : List MemberParts) (nodes : List NodeParts) → AreNodesBelow next parent children nodes
      → ((i : ℕ) (c : MemberParts) → slice_get children i ≡ Some c → HasOwnKeys c.value)
      → (k : ℕ) (x : NodeParts) → slice_get nodes k ≡ Some x → HasOwnKeys x.json
  nodes_own _ _ _ _ (none next parent) own k x at = absurd (cc)
  nodes_own _ _ _ _ (more next parent child children nodes later is rest) own k x at =
      elim (slice_get-either nodes later k x at) [
        | inl left ↦ node_owns next (Some parent) child.key child.value nodes is (own 0 child refl) k x left
        | inr right ↦ nodes_own (next + length nodes) parent children later rest (λ i c c_at. own (suc i) c c_at) right.0 x right.2
      ]
