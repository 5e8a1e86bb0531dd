-- Nothing that is read has an object with a key twice.
use Rattle.std.proofs.Common.{◌≡◌, [], ◌∷◌, ◌++◌, ◌+◌, ◌||◌, ℕ, suc, zero, List, Bool, true, false, map, length, Some, refl, ap, sym, ◌∙◌, subst}
use Rattle.std.specs.Prelude.{slice_get, Result, Ok, Err, IfOk}
use Rattle.std.specs.List.{AllByRecursion}
use Rattle.std.specs.Str.{bytes_eq}
use Rattle.std.proofs.lemmas.List.Folds.{list_any-append}
use Rattle.std.proofs.lemmas.Slice.Eq.{bytes_eq-Decides}
use Rattle.ordered_json.specs.declared.fault.JsonFault.{JsonFault}
use Rattle.ordered_json.specs.declared.json.Member.{Member, every-Member, every_made-Member}
use Rattle.ordered_json.specs.declared.json.OrderedJson.{OrderedJson}
use Rattle.ordered_json.specs.declared.json.OrderedJson.TheFolds.{every_made-OrderedJson}
use Rattle.ordered_json.specs.declared.json.OrderedJson.TheOpen.{OrderedJson-F}
use Rattle.ordered_json.specs.declared.json.OrderedJson.TheVariants.{rolls-Null, rolls-Bool, rolls-Int, rolls-Text, rolls-List, rolls-Object}
use Rattle.ordered_json.specs.Words.{key_of, member_of}
use Rattle.ordered_json.specs.Grammar.{Tree, null, boolean, number, string, array, object, Elements, no_elements, element, Members, no_members, member, print, print_string, print_separator, print_colon}
use Rattle.ordered_json.specs.Meaning.{Means, IsTaken, ElementsTaken, MembersTaken, magnitude, int_value, string_content, value_at, items_at, members_at, has_key}
use Rattle.ordered_json.specs.OwnKeys.{AsksNothing, HasOwnKeys, HaveOwnKeys, KeepsKeysApart}
use Rattle.ordered_json.proofs.KeyLemmas.{key_of-member_of}

-- ---- keys
not_first : (x y : Bool) → (x || (y || false)) ≡ false → x ≡ false
not_first false y clear = refl
not_first true y clear = clear

not_second : (x y : Bool) → (x || (y || false)) ≡ false → y ≡ false
not_second false false clear = refl
not_second false true clear = clear
not_second true y clear = absurd (let clash : true ≡ false = clear in cc)

-- a key that is new beside some keys and one more is new beside each
new_apart : (key k : List ℕ) (keys : List (List ℕ)) → has_key key (keys ++ k ∷ []) ≡ false
    → (has_key key keys ≡ false) × (bytes_eq key k ≡ false)
new_apart key k keys clear =
    let split : (has_key key keys || (bytes_eq key k || false)) ≡ false = sym (list_any-append (bytes_eq key) keys (k ∷ [])) ∙ clear in
    (not_first (has_key key keys) (bytes_eq key k) split, not_second (has_key key keys) (bytes_eq key k) split)

-- the members have keys that stand in none of these
new_members : (p : ℕ) (separator : List ℕ) (depth : ℕ) (keys : List (List ℕ)) (ms : Members) → MembersTaken depth keys ms
    → (i : ℕ) (m : Member) → slice_get (members_at p separator ms) i ≡ Some m → has_key (key_of m) keys ≡ false
new_members p separator depth keys (no_members s) taken i m is = absurd (none i is)
  where
    none : (i : ℕ) → slice_get [] i ≡ Some m → ⊥
    none zero is = cc
    none (suc i) is = cc
new_members p separator depth keys (member gap key t ms) taken zero m is =
    let q = p + length (print_separator gap separator) in
    let v = q + length (print_string key.chars ++ print_colon key.gap) in
    let same : member_of (string_content key.chars) q (value_at v t) ≡ m = cc in
    ap (λ x. has_key (key_of x) keys) (sym same)
    ∙ (ap (λ k. has_key k keys) (key_of-member_of (string_content key.chars) q (value_at v t)) ∙ taken.0)
new_members p separator depth keys (member gap key t ms) taken (suc i) m is =
    let q = p + length (print_separator gap separator) in
    let v = q + length (print_string key.chars ++ print_colon key.gap) in
    let later = new_members (v + length (print t)) (44 ∷ []) depth (keys ++ string_content key.chars ∷ []) ms taken.2 i m is in
    (new_apart (key_of m) (string_content key.chars) keys later).0

pub own_members : (p : ℕ) (separator : List ℕ) (depth : ℕ) (keys : List (List ℕ)) (ms : Members) → MembersTaken depth keys ms
    → HaveOwnKeys (members_at p separator ms)
own_members p separator depth keys (no_members s) taken i j one other is at same = absurd (none i is)
  where
    none : (i : ℕ) → slice_get [] i ≡ Some one → ⊥
    none zero is = cc
    none (suc i) is = cc
own_members p separator depth keys (member gap key t ms) taken i j one other is at same =
    let q = p + length (print_separator gap separator) in
    let v = q + length (print_string key.chars ++ print_colon key.gap) in
    by (own_members (v + length (print t)) (44 ∷ []) depth (keys ++ string_content key.chars ∷ []) ms taken.2) i j is at
  where
    q : ℕ
    q = p + length (print_separator gap separator)

    v : ℕ
    v = q + length (print_string key.chars ++ print_colon key.gap)

    first : Member
    first = member_of (string_content key.chars) q (value_at v t)

    rest : List Member
    rest = members_at (v + length (print t)) (44 ∷ []) ms

    later : (m : Member) (k : ℕ) → slice_get rest k ≡ Some m → key_of m ≡ string_content key.chars → ⊥
    later m k found clash =
        let new = new_members (v + length (print t)) (44 ∷ []) depth (keys ++ string_content key.chars ∷ []) ms taken.2 k m found in
        let apart = (new_apart (key_of m) (string_content key.chars) keys new).1 in
        let equal : bytes_eq (key_of m) (string_content key.chars) ≡ true = (bytes_eq-Decides (key_of m) (string_content key.chars)).1 clash in
        let wrong : true ≡ false = sym equal ∙ apart in cc

    key_first : (m : Member) → Some first ≡ Some m → key_of m ≡ string_content key.chars
    key_first m here = let same_one : first ≡ m = cc in ap key_of (sym same_one) ∙ key_of-member_of (string_content key.chars) q (value_at v t)

    by : HaveOwnKeys rest → (i j : ℕ) → slice_get (first ∷ rest) i ≡ Some one → slice_get (first ∷ rest) j ≡ Some other → i ≡ j
    by deeper zero zero is at = refl
    by deeper zero (suc j) is at = absurd (later other j at (sym same ∙ key_first one is))
    by deeper (suc i) zero is at = absurd (later one i is (same ∙ key_first other at))
    by deeper (suc i) (suc j) is at = ap suc (deeper i j one other is at same)

-- ---- values
abbrev Proved : Type 0
Proved = (json : OrderedJson) × HasOwnKeys json

abbrev MemberOwns : Member → Type 0
MemberOwns = every-Member KeepsKeysApart AsksNothing

abbrev ProvedMember : Type 0
ProvedMember = (m : Member) × MemberOwns m

proved : (items : List OrderedJson) → AllByRecursion HasOwnKeys items → List Proved
proved [] all = []
proved (x ∷ items) all = (x, all.0) ∷ proved items all.1

proved_firsts : (items : List OrderedJson) (all : AllByRecursion HasOwnKeys items) → map (λ e. e.0) (proved items all) ≡ items
unfolding proved
proved_firsts [] all = refl
proved_firsts (x ∷ items) all = ap (λ rest. x ∷ rest) (proved_firsts items all.1)

proved_members : (members : List Member) → AllByRecursion MemberOwns members → List ProvedMember
proved_members [] all = []
proved_members (m ∷ members) all = (m, all.0) ∷ proved_members members all.1

proved_members_firsts : (members : List Member) (all : AllByRecursion MemberOwns members) → map (λ e. e.0) (proved_members members all) ≡ members
unfolding proved_members
proved_members_firsts [] all = refl
proved_members_firsts (m ∷ members) all = ap (λ rest. m ∷ rest) (proved_members_firsts members all.1)

own_member : (key : List ℕ) (place : ℕ) (json : OrderedJson) → HasOwnKeys json → MemberOwns (member_of key place json)
own_member key place json own =
    every_made-Member KeepsKeysApart AsksNothing (record { key = key; key_place = place; value = json }) (record { key = key; key_place = place; value = (json, own) }) refl tt

mutual
  own_value : (p depth : ℕ) (t : Tree) → IsTaken depth t → HasOwnKeys (value_at p t)
  own_value p depth null taken =
      subst HasOwnKeys (rolls-Null p) (every_made-OrderedJson KeepsKeysApart AsksNothing (OrderedJson-F.Null p) (OrderedJson-F.Null p) refl tt)
  own_value p depth (boolean b) taken =
      subst HasOwnKeys (rolls-Bool p b) (every_made-OrderedJson KeepsKeysApart AsksNothing (OrderedJson-F.Bool p b) (OrderedJson-F.Bool p b) refl tt)
  own_value p depth (number minus digits fraction exponent) taken =
      let n = int_value minus (magnitude digits) in
      subst HasOwnKeys (rolls-Int p n) (every_made-OrderedJson KeepsKeysApart AsksNothing (OrderedJson-F.Int p n) (OrderedJson-F.Int p n) refl tt)
  own_value p depth (string cs) taken =
      let text = string_content cs in
      subst HasOwnKeys (rolls-Text p text) (every_made-OrderedJson KeepsKeysApart AsksNothing (OrderedJson-F.Text p text) (OrderedJson-F.Text p text) refl tt)
  own_value p depth (array es) taken =
      let items = items_at (p + 1) [] es in
      let all = own_items (p + 1) [] (suc depth) es taken.1 in
      subst HasOwnKeys (rolls-List p items)
      (every_made-OrderedJson KeepsKeysApart AsksNothing (OrderedJson-F.List p items) (OrderedJson-F.List p (proved items all)) (ap (OrderedJson-F.List p) (proved_firsts items all)) tt)
  own_value p depth (object ms) taken =
      let members = members_at (p + 1) [] ms in
      let all = each_member (p + 1) [] (suc depth) [] ms taken.1 in
      subst HasOwnKeys (rolls-Object p members)
      (every_made-OrderedJson KeepsKeysApart AsksNothing (OrderedJson-F.Object p members) (OrderedJson-F.Object p (proved_members members all))
      (ap (OrderedJson-F.Object p) (proved_members_firsts members all)) (own_members (p + 1) [] (suc depth) [] ms taken.1))

  own_items : (p : ℕ) (separator : List ℕ) (depth : ℕ) (es : Elements) → ElementsTaken depth es → AllByRecursion HasOwnKeys (items_at p separator es)
  own_items p separator depth (no_elements s) taken = tt
  own_items p separator depth (element gap t es) taken =
      let q = p + length (print_separator gap separator) in
      (own_value q depth t taken.0, own_items (q + length (print t)) (44 ∷ []) depth es taken.1)

  each_member : (p : ℕ) (separator : List ℕ) (depth : ℕ) (keys : List (List ℕ)) (ms : Members) → MembersTaken depth keys ms → AllByRecursion MemberOwns (members_at p separator ms)
  each_member p separator depth keys (no_members s) taken = tt
  each_member p separator depth keys (member gap key t ms) taken =
      let q = p + length (print_separator gap separator) in
      let v = q + length (print_string key.chars ++ print_colon key.gap) in (
        own_member (string_content key.chars) q (value_at v t) (own_value v depth t taken.1),
        each_member (v + length (print t)) (44 ∷ []) depth (keys ++ string_content key.chars ∷ []) ms taken.2,
      )

-- what a text means has no object with a key twice
pub own_keys : (text : List ℕ) (json : OrderedJson) → Means text json → HasOwnKeys json
own_keys text json means =
    let value = means.1 in
    subst HasOwnKeys (sym value.5) (own_value (length value.0) 0 value.1 value.4)

pub read_owns : (text : List ℕ) (answer : Result OrderedJson JsonFault) → IfOk answer (λ json. Means text json) → IfOk answer HasOwnKeys
read_owns text (Ok json) means = own_keys text json means
read_owns text (Err fault) means = tt
