-- A search among members is a search among their parts.
use Rattle.std.proofs.Common.{◌≡◌, List, [], ◌∷◌, map, Bool, true, false, cond, ◌||◌, ◌&&◌, ℕ, refl, ap, ◌∙◌}
use Rattle.std.specs.Prelude.{Option, Some, None, option_map, option_and_then}
use Rattle.std.specs.Bool.{then_some}
use Rattle.std.specs.List.{list_any, list_all, find}
use Rattle.std.specs.Option.{option_copied}
use Rattle.std.specs.Str.{bytes_eq}
use denote.Ref.{Bor}
use Rattle.ordered_json.specs.declared.json.Member.{Member}
use Rattle.ordered_json.specs.declared.json.OrderedJson.{OrderedJson}
use Rattle.ordered_json.specs.Words.{as_object, as_object_of, if_only, member_parts, key_of, MemberParts}

list_any-map : {X Y : Type 0} (p : Y → Bool) (f : X → Y) (xs : List X) → list_any p (map f xs) ≡ list_any (λ x. p (f x)) xs
list_any-map p f [] = refl
list_any-map p f (x ∷ xs) = ap (λ b. p (f x) || b) (list_any-map p f xs)

choose : {X Y : Type 0} (f : X → Y) (b : Bool) (x : X) (o : Option X) → cond b (Some (f x)) (option_map f o) ≡ option_map f (cond b (Some x) o)
choose f true x o = refl
choose f false x o = refl

pub find-map : {X Y : Type 0} (p : Y → Bool) (f : X → Y) (xs : List X) → find p (map f xs) ≡ option_map f (find (λ x. p (f x)) xs)
find-map p f [] = refl
find-map p f (x ∷ xs) = ap (λ o. cond (p (f x)) (Some (f x)) o) (find-map p f xs) ∙ choose f (p (f x)) x (find (λ x. p (f x)) xs)

-- whether all members have a key among these
pub have_only-map : {K : Type 0} (now : K → List ℕ) (ks : List K) (members : List Member) → list_all (λ m. list_any (bytes_eq m.key) (map now ks)) (map member_parts members) ≡ list_all (λ m. list_any (λ k. bytes_eq (key_of m) (now k)) ks) members
have_only-map now ks [] = refl
have_only-map now ks (m ∷ members) =
    ap (λ b. b && list_all (λ y. list_any (bytes_eq y.key) (map now ks)) (map member_parts members)) (list_any-map (bytes_eq (key_of m)) now ks)
    ∙ ap (λ b. list_any (λ k. bytes_eq (key_of m) (now k)) ks && b) (have_only-map now ks members)

-- the members, if the test holds
pub members_if : (b : Bool) (members : Bor (List Member)) → option_map (map member_parts) (option_copied (then_some b members)) ≡ cond b (Some (map member_parts members.now)) None
members_if true members = refl
members_if false members = refl

-- the members of an object with these keys alone
pub object_of : (keys : List (List ℕ)) (json : OrderedJson) (members : List MemberParts) → Some members ≡ as_object json → if_only keys members ≡ as_object_of keys json
object_of keys json members is = ap (option_and_then (if_only keys)) is
