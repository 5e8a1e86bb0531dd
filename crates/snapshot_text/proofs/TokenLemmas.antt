-- The tokens of maps, lists and values.
use Rattle.std.proofs.Common.{◌≡◌, ◌≤◌, ℕ, ℤ, pos, negsuc, Bool, true, false, length, take, List, [], ◌∷◌, ◌++◌, map, refl, sym, ap, ◌∙◌, append_assoc, append-nil, rules}
use Rattle.std.specs.Prelude.{Result, Ok, Err, OnOk, codes, filter, is_none, cond}
use Rattle.std.specs.Fmt.{signed_decimal}
use Rattle.std.specs.List.{flat_map}
use Rattle.std.proofs.lemmas.List.{flat_map_more, take_all}
use Rattle.json.specs.Token.{Token, begin_array, begin_object, end_array, end_object, key}
use Rattle.json.specs.Tree.{items_tokens, members_tokens}
use Rattle.serde_json.specs.Data.{Data, null, boolean, string}
use Rattle.serde_json.specs.View.{items_of}
use Rattle.serde_json.specs.Written.{items_outline, members_outline}
use Rattle.office_types.specs.declared.office.ActorRecord.{ActorRecord}
use Rattle.xs_model.specs.declared.value.Value.{Value, the_lemmas}
use Rattle.xs_model.specs.declared.value.Value.TheVariants as value
use Rattle.snapshot_text.specs.Tokens.{data_tokens, keyed_data_tokens, top_tokens}
use Rattle.snapshot_text.specs.ValueData.{integer_data, list_data, map_data, members_data, value_data}

-- ---- maps and lists

members_flat : (ms : List (List ℕ × Data)) → members_tokens (members_outline (members_data ms)) ≡ flat_map keyed_data_tokens ms ++ end_object ∷ []
members_flat [] = refl
members_flat (m ∷ ms) =
    ap (λ ts. key m.0 ∷ (data_tokens m.1 ++ ts)) (members_flat ms)
    ∙ ap (λ ts. key m.0 ∷ ts) (sym (append_assoc (data_tokens m.1) (flat_map keyed_data_tokens ms) (end_object ∷ [])))

-- a map begins, has its members, and ends
pub map_tokens : (ms : List (List ℕ × Data)) → data_tokens (map_data ms) ≡ begin_object ∷ (flat_map keyed_data_tokens ms ++ end_object ∷ [])
map_tokens ms = ap (λ ts. begin_object ∷ ts) (members_flat ms)

items_flat : (ds : List Data) → items_tokens (items_outline (items_of ds)) ≡ flat_map data_tokens ds ++ end_array ∷ []
items_flat [] = refl
items_flat (d ∷ ds) =
    ap (λ ts. data_tokens d ++ ts) (items_flat ds)
    ∙ sym (append_assoc (data_tokens d) (flat_map data_tokens ds) (end_array ∷ []))

-- a list begins, has its items, and ends
pub list_tokens : (ds : List Data) → data_tokens (list_data ds) ≡ begin_array ∷ (flat_map data_tokens ds ++ end_array ∷ [])
list_tokens ds = ap (λ ts. begin_array ∷ ts) (items_flat ds)

-- ---- values

pub value_data-Null : value_data value.Null ≡ null
value_data-Null = search (rules, the_lemmas)

pub value_data-Bool : (truth : Bool) → value_data (value.Bool truth) ≡ boolean truth
value_data-Bool truth = search (rules, the_lemmas)

pub value_data-Int : (n : ℤ) → value_data (value.Int n) ≡ integer_data n
value_data-Int n = search (rules, the_lemmas)

pub value_data-Text : (text : List ℕ) → value_data (value.Text text) ≡ string text
value_data-Text text = search (rules, the_lemmas)

pub value_data-List : (items : List Value) → value_data (value.List items) ≡ list_data (map value_data items)
value_data-List items = search (rules, the_lemmas)

-- a member of a value's map
abbrev pub member_data : List ℕ × Value → List ℕ × Data
member_data m = (m.0, value_data m.1)

pub value_data-Map : (members : List (List ℕ × Value)) → value_data (value.Map members) ≡ map_data (map member_data members)
value_data-Map members = search (rules, the_lemmas)

-- an integer is written with its sign
pub integer_tokens : (n : ℤ) → data_tokens (integer_data n) ≡ Token.number (signed_decimal n) ∷ []
integer_tokens (pos n) = refl
integer_tokens (negsuc n) = refl

-- ---- what has been written

pub flat_each : {X : Type 0} (f : X → Data) (xs : List X) → flat_map (λ x. data_tokens (f x)) xs ≡ flat_map data_tokens (map f xs)
flat_each f [] = refl
flat_each f (x ∷ xs) = ap (λ ts. data_tokens (f x) ++ ts) (flat_each f xs)

pub flat_members : (ms : List (List ℕ × Value)) → flat_map (λ (m : List ℕ × Value). keyed_data_tokens (member_data m)) ms ≡ flat_map keyed_data_tokens (map member_data ms)
flat_members [] = refl
flat_members (m ∷ ms) = ap (λ ts. keyed_data_tokens (member_data m) ++ ts) (flat_members ms)

pub on_ok : {T E : Type 0} (r : Result T E) {P Q : Type 0} → (P → Q) → OnOk r P → OnOk r Q
on_ok (Ok x) then p = then p
on_ok (Err e) then p = tt

-- what stands between brackets, and the brackets
brackets : (old between : List Token) (opening closing : Token) → (old ++ (opening ∷ between)) ++ closing ∷ [] ≡ old ++ (opening ∷ (between ++ closing ∷ []))
brackets old between opening closing = append_assoc old (opening ∷ between) (closing ∷ [])

-- a list was written, item after item
pub list_written : {X : Type 0} (f : X → Data) (xs items : List X) (index : ℕ) (old written new : List Token)
    → new ≡ written ++ end_array ∷ [] → written ≡ old ++ (begin_array ∷ flat_map (λ x. data_tokens (f x)) (take index items)) → items ≡ xs → length items ≤ index
    → new ≡ old ++ data_tokens (list_data (map f xs))
list_written f xs items index old written new ends is same all =
    ends ∙ ap (λ ts. ts ++ end_array ∷ []) is ∙ brackets old (flat_map (λ x. data_tokens (f x)) (take index items)) begin_array end_array
    ∙ ap (λ ys. old ++ (begin_array ∷ (flat_map (λ x. data_tokens (f x)) ys ++ end_array ∷ []))) (take_all index items all ∙ same)
    ∙ ap (λ ts. old ++ (begin_array ∷ (ts ++ end_array ∷ []))) (flat_each f xs)
    ∙ ap (λ ts. old ++ ts) (sym (list_tokens (map f xs)))

-- and under a key
pub keyed_list_written : {X : Type 0} (f : X → Data) (name : List ℕ) (xs items : List X) (index : ℕ) (old written new : List Token)
    → new ≡ written ++ end_array ∷ [] → written ≡ old ++ (key name ∷ begin_array ∷ flat_map (λ x. data_tokens (f x)) (take index items)) → items ≡ xs → length items ≤ index
    → new ≡ old ++ keyed_data_tokens (name, list_data (map f xs))
keyed_list_written f name xs items index old written new ends is same all =
    list_written f xs items index (old ++ key name ∷ []) written new ends
    (is ∙ sym (append_assoc old (key name ∷ []) (begin_array ∷ flat_map (λ x. data_tokens (f x)) (take index items)))) same all
    ∙ append_assoc old (key name ∷ []) (data_tokens (list_data (map f xs)))

-- a map of a value was written, member after member
pub map_written : (ms items : List (List ℕ × Value)) (index : ℕ) (old written new : List Token)
    → new ≡ written ++ end_object ∷ [] → written ≡ old ++ (begin_object ∷ flat_map (λ (m : List ℕ × Value). keyed_data_tokens (member_data m)) (take index items)) → items ≡ ms → length items ≤ index
    → new ≡ old ++ data_tokens (value_data (value.Map ms))
map_written ms items index old written new ends is same all =
    ends ∙ ap (λ ts. ts ++ end_object ∷ []) is ∙ brackets old (flat_map (λ (m : List ℕ × Value). keyed_data_tokens (member_data m)) (take index items)) begin_object end_object
    ∙ ap (λ ys. old ++ (begin_object ∷ (flat_map (λ (m : List ℕ × Value). keyed_data_tokens (member_data m)) ys ++ end_object ∷ []))) (take_all index items all ∙ same)
    ∙ ap (λ ts. old ++ (begin_object ∷ (ts ++ end_object ∷ []))) (flat_members ms)
    ∙ ap (λ ts. old ++ ts) (sym (map_tokens (map member_data ms)))
    ∙ ap (λ d. old ++ data_tokens d) (sym (value_data-Map ms))

-- ---- members one after the other

-- the first member
pub begun : (old : List Token) {new : List Token} (m : List ℕ × Data) → new ≡ old ++ keyed_data_tokens m → new ≡ old ++ flat_map keyed_data_tokens (m ∷ [])
begun old m is = is ∙ ap (λ ts. old ++ ts) (sym (append-nil (keyed_data_tokens m)))

-- and one more
pub and_then : (old : List Token) {mid new : List Token} (ms : List (List ℕ × Data)) (m : List ℕ × Data) → mid ≡ old ++ flat_map keyed_data_tokens ms → new ≡ mid ++ keyed_data_tokens m
    → new ≡ old ++ flat_map keyed_data_tokens (ms ++ m ∷ [])
and_then old ms m is next = next ∙ ap (λ ts. ts ++ keyed_data_tokens m) is ∙ flat_map_more keyed_data_tokens old ms m

-- a map with these members was written
pub closed_map : (old : List Token) {opened written new : List Token} (ms : List (List ℕ × Data)) → opened ≡ old ++ begin_object ∷ []
    → written ≡ opened ++ flat_map keyed_data_tokens ms → new ≡ written ++ end_object ∷ [] → new ≡ old ++ data_tokens (map_data ms)
closed_map old ms opens is ends =
    ends ∙ ap (λ ts. ts ++ end_object ∷ []) (is ∙ ap (λ ts. ts ++ flat_map keyed_data_tokens ms) opens)
    ∙ ap (λ ts. ts ++ end_object ∷ []) (append_assoc old (begin_object ∷ []) (flat_map keyed_data_tokens ms))
    ∙ brackets old (flat_map keyed_data_tokens ms) begin_object end_object ∙ ap (λ ts. old ++ ts) (sym (map_tokens ms))

-- a list was written under a key
pub keyed_list : (name : List ℕ) (ds : List Data) (old : List Token) {named opened written new : List Token} → named ≡ old ++ key name ∷ [] → opened ≡ named ++ begin_array ∷ []
    → written ≡ opened ++ flat_map data_tokens ds → new ≡ written ++ end_array ∷ [] → new ≡ old ++ keyed_data_tokens (name, list_data ds)
keyed_list name ds old names opens is ends =
    let items = flat_map data_tokens ds in
    let flat : (((old ++ key name ∷ []) ++ begin_array ∷ []) ++ items) ++ end_array ∷ [] ≡ old ++ (key name ∷ (begin_array ∷ (items ++ end_array ∷ []))) = simp append_assoc in
    ends ∙ ap (λ ts. ts ++ end_array ∷ []) (is ∙ ap (λ ts. ts ++ items) (opens ∙ ap (λ ts. ts ++ begin_array ∷ []) names))
    ∙ flat ∙ ap (λ ts. old ++ (key name ∷ ts)) (sym (list_tokens ds))

-- the tokens of the snapshots of actors without a parent
pub flat_tops : (snapshot : ℕ → Data) (actors : List ActorRecord)
    → flat_map (top_tokens snapshot) actors ≡ flat_map data_tokens (map snapshot (map (λ (a : ActorRecord). a.number) (filter (λ (a : ActorRecord). is_none a.parent) actors)))
flat_tops snapshot [] = refl
flat_tops snapshot (actor ∷ actors) = by_parent (flat_tops snapshot actors) (is_none actor.parent) where
  by_parent : flat_map (top_tokens snapshot) actors ≡ flat_map data_tokens (map snapshot (map (λ (a : ActorRecord). a.number) (filter (λ (a : ActorRecord). is_none a.parent) actors)))
      → (top : Bool) → cond top (data_tokens (snapshot actor.number)) [] ++ flat_map (top_tokens snapshot) actors
      ≡ flat_map data_tokens (map snapshot (map (λ (a : ActorRecord). a.number) (cond top (actor ∷ filter (λ (a : ActorRecord). is_none a.parent) actors) (filter (λ (a : ActorRecord). is_none a.parent) actors))))
  by_parent rest true = ap (λ ts. data_tokens (snapshot actor.number) ++ ts) rest
  by_parent rest false = rest

-- the snapshots of those actors were written under a key
pub tops_written : (snapshot : ℕ → Data) (name : List ℕ) (actors items : List ActorRecord) (index : ℕ) (old written new : List Token)
    → new ≡ written ++ end_array ∷ [] → written ≡ old ++ (key name ∷ begin_array ∷ flat_map (top_tokens snapshot) (take index items)) → items ≡ actors → length items ≤ index
    → new ≡ old ++ keyed_data_tokens (name, list_data (map snapshot (map (λ (a : ActorRecord). a.number) (filter (λ (a : ActorRecord). is_none a.parent) actors))))
tops_written snapshot name actors items index old written new ends is same all =
    let numbers = map (λ (a : ActorRecord). a.number) (filter (λ (a : ActorRecord). is_none a.parent) actors) in
    ends ∙ ap (λ ts. ts ++ end_array ∷ []) is
    ∙ append_assoc old (key name ∷ begin_array ∷ flat_map (top_tokens snapshot) (take index items)) (end_array ∷ [])
    ∙ ap (λ (xs : List ActorRecord). old ++ (key name ∷ begin_array ∷ (flat_map (top_tokens snapshot) xs ++ end_array ∷ []))) (take_all index items all ∙ same)
    ∙ ap (λ ts. old ++ (key name ∷ begin_array ∷ (ts ++ end_array ∷ []))) (flat_tops snapshot actors)
    ∙ ap (λ ts. old ++ (key name ∷ ts)) (sym (list_tokens (map snapshot numbers)))

-- a child with its snapshot was written
pub child_written : (id : List ℕ) (snapshot : Data) (old : List Token) {opened named keyed held new : List Token} → opened ≡ old ++ begin_object ∷ []
    → named ≡ opened ++ keyed_data_tokens (codes "id", string id) → keyed ≡ named ++ key (codes "snapshot") ∷ [] → held ≡ keyed ++ data_tokens snapshot → new ≡ held ++ end_object ∷ []
    → new ≡ old ++ data_tokens (map_data ((codes "id", string id) ∷ (codes "snapshot", snapshot) ∷ []))
child_written id snapshot old {opened} {named} opens first keys is ends =
    let name : List ℕ × Data = (codes "id", string id) in
    let child : List ℕ × Data = (codes "snapshot", snapshot) in
    let whole = is ∙ ap (λ ts. ts ++ data_tokens snapshot) keys ∙ append_assoc named (key (codes "snapshot") ∷ []) (data_tokens snapshot) in
    closed_map old (name ∷ child ∷ []) opens (and_then opened (name ∷ []) child (begun opened name first) whole) ends

two_and_more : (a b : List ℕ × Data) (ms : List (List ℕ × Data)) → flat_map keyed_data_tokens (a ∷ b ∷ []) ++ flat_map keyed_data_tokens ms ≡ flat_map keyed_data_tokens (a ∷ b ∷ ms)
two_and_more a b ms = simp append_assoc

-- a snapshot was written: the actor's number, its children, and the other members
pub snapshot_written : (actor : List ℕ × Data) (name : List ℕ) (g : List ℕ × ℕ → Data) (kids items : List (List ℕ × ℕ)) (index : ℕ) (rest : List (List ℕ × Data)) (old written : List Token)
    {listed held new : List Token} → written ≡ old ++ (begin_object ∷ (keyed_data_tokens actor ++ (key name ∷ begin_array ∷ flat_map (λ (kid : List ℕ × ℕ). data_tokens (g kid)) (take index items))))
    → items ≡ kids → length items ≤ index
    → listed ≡ written ++ end_array ∷ [] → held ≡ listed ++ flat_map keyed_data_tokens rest → new ≡ held ++ end_object ∷ []
    → new ≡ old ++ data_tokens (map_data (actor ∷ (name, list_data (map g kids)) ∷ rest))
snapshot_written actor name g kids items index rest old written {listed} is same all lists holds ends =
    let opened = old ++ begin_object ∷ [] in
    let inner = key name ∷ begin_array ∷ flat_map (λ (kid : List ℕ × ℕ). data_tokens (g kid)) (take index items) in
    let split : old ++ (begin_object ∷ (keyed_data_tokens actor ++ inner)) ≡ ((old ++ begin_object ∷ []) ++ keyed_data_tokens actor) ++ inner = simp append_assoc in
    let children : List ℕ × Data = (name, list_data (map g kids)) in
    let listing = keyed_list_written g name kids items index (opened ++ keyed_data_tokens actor) written listed lists (is ∙ split) same all in
    let two : listed ≡ opened ++ flat_map keyed_data_tokens (actor ∷ children ∷ []) = and_then opened (actor ∷ []) children (begun opened actor refl) listing in
    let flat = flat_map keyed_data_tokens rest in
    let joined : (opened ++ flat_map keyed_data_tokens (actor ∷ children ∷ [])) ++ flat ≡ opened ++ flat_map keyed_data_tokens (actor ∷ children ∷ rest) =
    append_assoc opened (flat_map keyed_data_tokens (actor ∷ children ∷ [])) flat
    ∙ ap (λ ts. opened ++ ts) (two_and_more actor children rest) in
    closed_map old (actor ∷ children ∷ rest) refl (holds ∙ ap (λ ts. ts ++ flat) two ∙ joined) ends
