-- The least places of faults among the implementations.
use Rattle.std.proofs.Common.{◌≡◌, ℕ, ◌≤◌, Bool, true, false, ◌||◌, ◌⊎◌, inl, inr, List, [], ◌∷◌, ◌++◌, Option, None, Some, map, refl, sym, ap, subst, ◌∙◌, arith, rules}
use Rattle.std.specs.Prelude.{is_some, unwrap_or, if◌then◌else◌, Result, Ok, Err, IfOk, ◌&&◌}
use Rattle.std.specs.declared.alloc.AllocError.{AllocError}
use Rattle.std.specs.Option.{option_map_or}
use Rattle.ordered_json.specs.declared.json.Member.{Member}
use Rattle.ordered_json.specs.declared.json.OrderedJson.{OrderedJson, the_lemmas as json_lemmas}
use Rattle.ordered_json.specs.declared.json.OrderedJson.TheVariants as json
use Rattle.ordered_json.specs.Words.{MemberParts, as_list, as_object, as_text, member_parts, place_of}
use Rattle.machine_json.specs.declared.expressions.FormPlace.TheVariants.{AtOperator}
use Rattle.std.specs.Result.{result_err}
use Rattle.xs_model.specs.declared.expr.Expr.{Expr}
use Rattle.machine_json.specs.declared.expressions.FormFault.{FormFault}
use Rattle.machine_json.specs.declared.expressions.FormFault.TheVariants.{Unknown, Memory}
use Rattle.machine_json.specs.Expressions.{HasUnknownForm, IsExpressionReading}
use Rattle.machine_json.specs.FirstFaults.{IsLeastPlace}
use Rattle.machine_json.proofs.ExpressionLemmas.{least_left, least_min, least_right, meaning_excludes}
use Rattle.action_table.specs.declared.role.Shape.{Shape}
use Rattle.action_table.specs.declared.role.TableRole.{TableRole}
use Rattle.action_table.specs.declared.role.TableRole.TheVariants as role
use Rattle.action_table.specs.Shapes.{has_needed, is_complete, is_relative, table_item_role, list_role, items_in, key_role, members_in, shape_of, shapes, takes}
use Rattle.action_table.specs.TablePlaces.{HasItemFault, HasMemberFault, HasTableFault, IsLeastOf, at_key, in_first, in_items, in_later, in_members, in_rest, in_value, itself, least_of, own_fault, unknown}

-- the least of two kinds of places
pub least-of : (A B C : ℕ → Type 0) (a b : Option ℕ) → IsLeastOf A a → IsLeastOf B b → ((n : ℕ) → A n → C n) → ((n : ℕ) → B n → C n) → ((n : ℕ) → C n → A n ⊎ B n) → IsLeastOf C (least_of a b)
least-of A B C None None no_a no_b from_a from_b split = λ place has. elim (split place has) [ inl in_a ↦ no_a place in_a | inr in_b ↦ no_b place in_b ]
least-of A B C None (Some q) no_a b from_a from_b split = least_right A B C q b no_a from_b split
least-of A B C (Some p) None a no_b from_a from_b split = least_left A B C p a no_b from_a split
least-of A B C (Some p) (Some q) a b from_a from_b split = least_min A B C p q a b from_a from_b split

-- places that are the same have the same least one
pub least-same : (A B : ℕ → Type 0) (a : Option ℕ) → IsLeastOf A a → ((n : ℕ) → A n → B n) → ((n : ℕ) → B n → A n) → IsLeastOf B a
least-same A B None no_a from_a to_a = λ place has. no_a place (to_a place has)
least-same A B (Some p) a from_a to_a = record { there = from_a p a.there; no_earlier = λ other has. a.no_earlier other (to_a other has) }

-- ---- members

member-left : (where_it_stands : TableRole) (form : Option Shape) (members rest : List MemberParts) (place : ℕ) → HasMemberFault where_it_stands form members place → HasMemberFault where_it_stands form (members ++ rest) place
member-left where_it_stands form _ rest _ (at_key _ _ m ms none) = at_key where_it_stands form m (ms ++ rest) none
member-left where_it_stands form _ rest place (in_value _ part _ m ms _ is has) = in_value where_it_stands part form m (ms ++ rest) place is has
member-left where_it_stands form _ rest place (in_later _ _ m ms _ has) = in_later where_it_stands form m (ms ++ rest) place (member-left where_it_stands form ms rest place has)

member-last : (where_it_stands : TableRole) (form : Option Shape) (members : List MemberParts) (member : MemberParts) (place : ℕ) → HasMemberFault where_it_stands form (member ∷ []) place → HasMemberFault where_it_stands form (members ++ member ∷ []) place
member-last where_it_stands form [] member place has = has
member-last where_it_stands form (m ∷ ms) member place has = in_later where_it_stands form m (ms ++ member ∷ []) place (member-last where_it_stands form ms member place has)

later_member : (where_it_stands : TableRole) (form : Option Shape) (m : MemberParts) (ms : List MemberParts) (member : MemberParts) (place : ℕ) → HasMemberFault where_it_stands form ms place ⊎ HasMemberFault where_it_stands form (member ∷ []) place → HasMemberFault where_it_stands form (m ∷ ms) place ⊎ HasMemberFault where_it_stands form (member ∷ []) place
later_member where_it_stands form m ms member place (inl has) = inl (in_later where_it_stands form m ms place has)
later_member where_it_stands form m ms member place (inr has) = inr has

member-split : (where_it_stands : TableRole) (form : Option Shape) (members : List MemberParts) (member : MemberParts) (place : ℕ) → HasMemberFault where_it_stands form (members ++ member ∷ []) place → HasMemberFault where_it_stands form members place ⊎ HasMemberFault where_it_stands form (member ∷ []) place
member-split where_it_stands form [] member place has = inr has
member-split where_it_stands form (m ∷ ms) member _ (at_key _ _ _ _ none) = inl (at_key where_it_stands form m ms none)
member-split where_it_stands form (m ∷ ms) member place (in_value _ part _ _ _ _ is has) = inl (in_value where_it_stands part form m ms place is has)
member-split where_it_stands form (m ∷ ms) member place (in_later _ _ _ _ _ has) = later_member where_it_stands form m ms member place (member-split where_it_stands form ms member place has)

pub members-more : (where_it_stands : TableRole) (form : Option Shape) (members : List MemberParts) (member : MemberParts) (least found : Option ℕ) → IsLeastOf (HasMemberFault where_it_stands form members) least → IsLeastOf (HasMemberFault where_it_stands form (member ∷ [])) found → IsLeastOf (HasMemberFault where_it_stands form (members ++ member ∷ [])) (least_of least found)
members-more where_it_stands form members member least found so_far here =
    least-of (HasMemberFault where_it_stands form members) (HasMemberFault where_it_stands form (member ∷ [])) (HasMemberFault where_it_stands form (members ++ member ∷ [])) least found so_far here
    (λ n has. member-left where_it_stands form members (member ∷ []) n has) (λ n has. member-last where_it_stands form members member n has) (λ n has. member-split where_it_stands form members member n has)

no_members_left : (where_it_stands : TableRole) (form : Option Shape) (place : ℕ) → HasMemberFault where_it_stands form [] place → ⊥
no_members_left where_it_stands form place has = elim has [ ]

pub members-none : (where_it_stands : TableRole) (form : Option Shape) → IsLeastOf (HasMemberFault where_it_stands form []) None
members-none where_it_stands form = λ place has. no_members_left where_it_stands form place has

only_key : (where_it_stands : TableRole) (form : Option Shape) (member : MemberParts) (other : ℕ) → key_role where_it_stands form member.key ≡ None → HasMemberFault where_it_stands form (member ∷ []) other → member.key_place ≤ other
only_key where_it_stands form member _ is (at_key _ _ _ _ none) = omega arith
only_key where_it_stands form member other is (in_value _ part _ _ _ _ some has) = absurd (cc (is, some))
only_key where_it_stands form member other is (in_later _ _ _ _ _ has) = absurd (no_members_left where_it_stands form other has)

pub one-key : (where_it_stands : TableRole) (form : Option Shape) (member : MemberParts) → key_role where_it_stands form member.key ≡ None → IsLeastOf (HasMemberFault where_it_stands form (member ∷ [])) (Some member.key_place)
one-key where_it_stands form member is = record {
  there = at_key where_it_stands form member [] is;
  no_earlier = λ other has. only_key where_it_stands form member other is has;
}

same_part : (where_it_stands : TableRole) (form : Option Shape) (key : List ℕ) (part other : TableRole) → key_role where_it_stands form key ≡ Some part → key_role where_it_stands form key ≡ Some other → other ≡ part
same_part where_it_stands form key part other is other_is = cc

from_value : (where_it_stands : TableRole) (form : Option Shape) (member : MemberParts) (part : TableRole) (place : ℕ) → key_role where_it_stands form member.key ≡ Some part → HasMemberFault where_it_stands form (member ∷ []) place → HasTableFault part member.value place
from_value where_it_stands form member part _ is (at_key _ _ _ _ none) = absurd (cc (is, none))
from_value where_it_stands form member part place is (in_value _ other _ _ _ _ some has) = subst (λ (r : TableRole). HasTableFault r member.value place) (same_part where_it_stands form member.key part other is some) has
from_value where_it_stands form member part place is (in_later _ _ _ _ _ has) = absurd (no_members_left where_it_stands form place has)

pub one-value : (where_it_stands : TableRole) (form : Option Shape) (member : MemberParts) (part : TableRole) (found : Option ℕ) → key_role where_it_stands form member.key ≡ Some part → IsLeastOf (HasTableFault part member.value) found → IsLeastOf (HasMemberFault where_it_stands form (member ∷ [])) found
one-value where_it_stands form member part found is least =
    least-same (HasTableFault part member.value) (HasMemberFault where_it_stands form (member ∷ [])) found least
    (λ n has. in_value where_it_stands part form member [] n is has) (λ n has. from_value where_it_stands form member part n is has)

-- ---- items

item-left : (where_it_stands : TableRole) (jsons rest : List OrderedJson) (place : ℕ) → HasItemFault where_it_stands jsons place → HasItemFault where_it_stands (jsons ++ rest) place
item-left where_it_stands _ rest place (in_first _ j js _ has) = in_first where_it_stands j (js ++ rest) place has
item-left where_it_stands _ rest place (in_rest _ j js _ has) = in_rest where_it_stands j (js ++ rest) place (item-left where_it_stands js rest place has)

item-last : (where_it_stands : TableRole) (jsons : List OrderedJson) (json : OrderedJson) (place : ℕ) → HasTableFault where_it_stands json place → HasItemFault where_it_stands (jsons ++ json ∷ []) place
item-last where_it_stands [] json place has = in_first where_it_stands json [] place has
item-last where_it_stands (j ∷ js) json place has = in_rest where_it_stands j (js ++ json ∷ []) place (item-last where_it_stands js json place has)

later_item : (where_it_stands : TableRole) (j : OrderedJson) (js : List OrderedJson) (json : OrderedJson) (place : ℕ) → HasItemFault where_it_stands js place ⊎ HasTableFault where_it_stands json place → HasItemFault where_it_stands (j ∷ js) place ⊎ HasTableFault where_it_stands json place
later_item where_it_stands j js json place (inl has) = inl (in_rest where_it_stands j js place has)
later_item where_it_stands j js json place (inr has) = inr has

no_items_left : (where_it_stands : TableRole) (place : ℕ) → HasItemFault where_it_stands [] place → ⊥
no_items_left where_it_stands place has = elim has [ ]

item-split : (where_it_stands : TableRole) (jsons : List OrderedJson) (json : OrderedJson) (place : ℕ) → HasItemFault where_it_stands (jsons ++ json ∷ []) place → HasItemFault where_it_stands jsons place ⊎ HasTableFault where_it_stands json place
item-split where_it_stands [] json place (in_first _ _ _ _ has) = inr has
item-split where_it_stands [] json place (in_rest _ _ _ _ has) = absurd (no_items_left where_it_stands place has)
item-split where_it_stands (j ∷ js) json place (in_first _ _ _ _ has) = inl (in_first where_it_stands j js place has)
item-split where_it_stands (j ∷ js) json place (in_rest _ _ _ _ has) = later_item where_it_stands j js json place (item-split where_it_stands js json place has)

pub items-none : (where_it_stands : TableRole) → IsLeastOf (HasItemFault where_it_stands []) None
items-none where_it_stands = λ place has. no_items_left where_it_stands place has

pub items-more : (where_it_stands : TableRole) (jsons : List OrderedJson) (json : OrderedJson) (least found : Option ℕ) → IsLeastOf (HasItemFault where_it_stands jsons) least → IsLeastOf (HasTableFault where_it_stands json) found → IsLeastOf (HasItemFault where_it_stands (jsons ++ json ∷ [])) (least_of least found)
items-more where_it_stands jsons json least found so_far here =
    least-of (HasItemFault where_it_stands jsons) (HasTableFault where_it_stands json) (HasItemFault where_it_stands (jsons ++ json ∷ [])) least found so_far here
    (λ n has. item-left where_it_stands jsons (json ∷ []) n has) (λ n has. item-last where_it_stands jsons json n has) (λ n has. item-split where_it_stands jsons json n has)

-- ---- a value

-- the value's own fault, those in its members and those in its items
abbrev Parted : TableRole → OrderedJson → ℕ → Type 0
Parted where_it_stands json place =
    (own_fault where_it_stands json ≡ Some place)
    ⊎ (HasMemberFault where_it_stands (shape_of where_it_stands (members_in where_it_stands json)) (members_in where_it_stands json) place
    ⊎ HasItemFault (table_item_role where_it_stands) (items_in where_it_stands json) place)

-- whether expressions stand there
abbrev pub is_expression : TableRole → Bool
is_expression role.Expression = true
is_expression _ = false

parted : (where_it_stands : TableRole) (json : OrderedJson) (place : ℕ) → is_expression where_it_stands ≡ false → HasTableFault where_it_stands json place → Parted where_it_stands json place
parted where_it_stands json place plain (itself _ _ _ is) = inl is
parted _ json place plain (unknown _ _ has) = absurd (cc plain)
parted where_it_stands json place plain (in_members _ _ _ has) = inr (inl has)
parted where_it_stands json place plain (in_items _ _ _ has) = inr (inr has)

from_parts : (where_it_stands : TableRole) (json : OrderedJson) (place : ℕ) → HasMemberFault where_it_stands (shape_of where_it_stands (members_in where_it_stands json)) (members_in where_it_stands json) place ⊎ HasItemFault (table_item_role where_it_stands) (items_in where_it_stands json) place → HasTableFault where_it_stands json place
from_parts where_it_stands json place (inl has) = in_members where_it_stands json place has
from_parts where_it_stands json place (inr has) = in_items where_it_stands json place has

some_same : (p q : ℕ) → Some p ≡ Some q → p ≡ q
some_same p q is = cc

own_least : (own : Option ℕ) → IsLeastOf (λ (p : ℕ). own ≡ Some p) own
own_least None = λ place is. absurd (cc is)
own_least (Some p) = record { there = refl; no_earlier = λ other is. omega (arith, some_same p other is) }

pub value-least : (where_it_stands : TableRole) (json : OrderedJson) (members items : Option ℕ) → is_expression where_it_stands ≡ false
    → IsLeastOf (HasMemberFault where_it_stands (shape_of where_it_stands (members_in where_it_stands json)) (members_in where_it_stands json)) members
    → IsLeastOf (HasItemFault (table_item_role where_it_stands) (items_in where_it_stands json)) items
    → IsLeastOf (HasTableFault where_it_stands json) (least_of (own_fault where_it_stands json) (least_of members items))
value-least where_it_stands json members items plain in_the_members in_the_items =
    let M : ℕ → Type 0 = HasMemberFault where_it_stands (shape_of where_it_stands (members_in where_it_stands json)) (members_in where_it_stands json) in
    let I : ℕ → Type 0 = HasItemFault (table_item_role where_it_stands) (items_in where_it_stands json) in
    least-of (λ (p : ℕ). own_fault where_it_stands json ≡ Some p) (λ (p : ℕ). M p ⊎ I p) (HasTableFault where_it_stands json) (own_fault where_it_stands json) (least_of members items)
    (own_least (own_fault where_it_stands json))
    (least-of M I (λ (p : ℕ). M p ⊎ I p) members items in_the_members in_the_items (λ n has. inl has) (λ n has. inr has) (λ n has. has))
    (λ n is. itself where_it_stands json n is) (λ n has. from_parts where_it_stands json n has) (λ n has. parted where_it_stands json n plain has)

-- ---- kinds of values

of_no_object : (o : Option (List MemberParts)) → is_some o ≡ false → unwrap_or o [] ≡ []
of_no_object None is = refl
of_no_object (Some members) is = absurd (cc is)

of_no_list : (o : Option (List OrderedJson)) → is_some o ≡ false → unwrap_or o [] ≡ []
of_no_list None is = refl
of_no_list (Some items) is = absurd (cc is)

or_left : (a b : Bool) → (a || b) ≡ false → a ≡ false
or_left true b is = absurd (cc is)
or_left false b is = refl

or_right : (a b : Bool) → (a || b) ≡ false → b ≡ false
or_right true b is = absurd (cc is)
or_right false b is = is

-- of a value that may not stand there nothing is looked at
pub refused-members : (where_it_stands : TableRole) (json : OrderedJson) → takes where_it_stands json ≡ false → members_in where_it_stands json ≡ []
refused-members role.Implementations json is = of_no_object (as_object json) is
refused-members role.Expressions json is = of_no_object (as_object json) is
refused-members role.Expression json is = refl
refused-members role.Actions json is = of_no_object (as_object json) is
refused-members role.Action json is = of_no_object (as_object json) (or_left (is_some (as_object json)) (is_some (as_list json)) is)
refused-members role.Form json is = of_no_object (as_object json) is
refused-members role.ItemList json is = refl
refused-members role.Item json is = of_no_object (as_object json) is
refused-members role.Target json is = of_no_object (as_object json) (or_left (is_some (as_object json)) (option_map_or is_relative (as_text json) false) is)
refused-members role.Actors json is = of_no_object (as_object json) is
refused-members role.Actor json is = of_no_object (as_object json) is
refused-members role.Name json is = refl
refused-members role.Nothing json is = of_no_object (as_object json) is

pub refused-items : (where_it_stands : TableRole) (json : OrderedJson) → takes where_it_stands json ≡ false → items_in where_it_stands json ≡ []
refused-items role.Action json is = of_no_list (as_list json) (or_right (is_some (as_object json)) (is_some (as_list json)) is)
refused-items role.ItemList json is = of_no_list (as_list json) is
refused-items role.Implementations json is = refl
refused-items role.Expressions json is = refl
refused-items role.Expression json is = refl
refused-items role.Actions json is = refl
refused-items role.Form json is = refl
refused-items role.Item json is = refl
refused-items role.Target json is = refl
refused-items role.Actors json is = refl
refused-items role.Actor json is = refl
refused-items role.Name json is = refl
refused-items role.Nothing json is = refl

-- where no object stands no member is looked at, and where no list stands no item
pub plain-members : (where_it_stands : TableRole) (json : OrderedJson) → as_object json ≡ None → members_in where_it_stands json ≡ []
plain-members role.Expression json is = refl
plain-members role.Name json is = refl
plain-members role.ItemList json is = refl
plain-members role.Implementations json is = ap (λ (o : Option (List MemberParts)). unwrap_or o []) is
plain-members role.Expressions json is = ap (λ (o : Option (List MemberParts)). unwrap_or o []) is
plain-members role.Actions json is = ap (λ (o : Option (List MemberParts)). unwrap_or o []) is
plain-members role.Action json is = ap (λ (o : Option (List MemberParts)). unwrap_or o []) is
plain-members role.Form json is = ap (λ (o : Option (List MemberParts)). unwrap_or o []) is
plain-members role.Item json is = ap (λ (o : Option (List MemberParts)). unwrap_or o []) is
plain-members role.Target json is = ap (λ (o : Option (List MemberParts)). unwrap_or o []) is
plain-members role.Actors json is = ap (λ (o : Option (List MemberParts)). unwrap_or o []) is
plain-members role.Actor json is = ap (λ (o : Option (List MemberParts)). unwrap_or o []) is
plain-members role.Nothing json is = ap (λ (o : Option (List MemberParts)). unwrap_or o []) is

pub plain-items : (where_it_stands : TableRole) (json : OrderedJson) → as_list json ≡ None → items_in where_it_stands json ≡ []
plain-items role.Action json is = ap (λ (o : Option (List OrderedJson)). unwrap_or o []) is
plain-items role.ItemList json is = ap (λ (o : Option (List OrderedJson)). unwrap_or o []) is
plain-items role.Implementations json is = refl
plain-items role.Expressions json is = refl
plain-items role.Expression json is = refl
plain-items role.Actions json is = refl
plain-items role.Form json is = refl
plain-items role.Item json is = refl
plain-items role.Target json is = refl
plain-items role.Actors json is = refl
plain-items role.Actor json is = refl
plain-items role.Name json is = refl
plain-items role.Nothing json is = refl

-- the least place, by what is known of the parts
pub parts-least : (where_it_stands : TableRole) (json : OrderedJson) (members : List MemberParts) (items : List OrderedJson) (in_the_members in_the_items found : Option ℕ) → is_expression where_it_stands ≡ false
    → members_in where_it_stands json ≡ members → items_in where_it_stands json ≡ items
    → IsLeastOf (HasMemberFault where_it_stands (shape_of where_it_stands members) members) in_the_members
    → IsLeastOf (HasItemFault (table_item_role where_it_stands) items) in_the_items
    → least_of (own_fault where_it_stands json) (least_of in_the_members in_the_items) ≡ found
    → IsLeastOf (HasTableFault where_it_stands json) found
parts-least where_it_stands json members items in_the_members in_the_items found plain members_are items_are members_least items_least is =
    subst (λ (o : Option ℕ). IsLeastOf (HasTableFault where_it_stands json) o) is
    (value-least where_it_stands json in_the_members in_the_items plain
    (subst (λ (ms : List MemberParts). IsLeastOf (HasMemberFault where_it_stands (shape_of where_it_stands ms) ms) in_the_members) (sym members_are) members_least)
    (subst (λ (js : List OrderedJson). IsLeastOf (HasItemFault (table_item_role where_it_stands) js) in_the_items) (sym items_are) items_least))

-- an expression has the faults of its unknown forms
no_shape : (members : List MemberParts) → shape_of role.Expression members ≡ None
unfolding shapes
no_shape [] = refl
no_shape (member ∷ members) = no_shape members

always_complete : (o : Option (List MemberParts)) → option_map_or (is_complete role.Expression) o true ≡ true
always_complete None = refl
always_complete (Some []) = refl
always_complete (Some (member ∷ members)) = ap (λ (s : Option Shape). option_map_or (has_needed (member ∷ members)) s true) (no_shape (member ∷ members))

expression-own : (json : OrderedJson) → own_fault role.Expression json ≡ None
expression-own json = ap (λ (b : Bool). if b then None else Some (place_of json)) (always_complete (as_object json))

only_unknown : (json : OrderedJson) (place : ℕ) → HasTableFault role.Expression json place → HasUnknownForm AtOperator json place
only_unknown json place (itself _ _ _ is) = absurd (cc (is, expression-own json))
only_unknown json place (unknown _ _ has) = has
only_unknown json place (in_members _ _ _ has) = absurd (no_members_left role.Expression (shape_of role.Expression []) place has)
only_unknown json place (in_items _ _ _ has) = absurd (no_items_left role.Expression place has)

pub expression-least : (json : OrderedJson) (found : Option ℕ) → IsLeastOf (HasUnknownForm AtOperator json) found → IsLeastOf (HasTableFault role.Expression json) found
expression-least json found least = least-same (HasUnknownForm AtOperator json) (HasTableFault role.Expression json) found least (λ n has. unknown json n has) (λ n has. only_unknown json n has)

-- ---- readings

same_place : (p q : ℕ) → Some (Unknown p) ≡ Some (Unknown q) → p ≡ q
same_place p q is = cc

-- an expression that is read has no unknown form, and one that is refused has the least one
pub read-none : (json : OrderedJson) (read : Result Expr FormFault) → IsExpressionReading AtOperator json read → result_err read ≡ None → IsLeastOf (HasUnknownForm AtOperator json) None
read-none json (Ok e) it is = λ place has. meaning_excludes AtOperator json e place it has
read-none json (Err fault) it is = absurd (cc is)

pub read-unknown : (json : OrderedJson) (read : Result Expr FormFault) (place : ℕ) → IsExpressionReading AtOperator json read → result_err read ≡ Some (Unknown place) → IsLeastOf (HasUnknownForm AtOperator json) (Some place)
read-unknown json (Ok e) place it is = absurd (cc is)
read-unknown json (Err (Unknown p)) place least is = subst (λ (n : ℕ). IsLeastPlace (HasUnknownForm AtOperator json) n) (same_place p place is) least
read-unknown json (Err Memory) place it is = absurd (cc is)

-- what an object's own fault is
own-object : (where_it_stands : TableRole) (json : OrderedJson) (members : List MemberParts) → as_object json ≡ Some members → takes where_it_stands json ≡ true → own_fault where_it_stands json ≡ (if is_complete where_it_stands members then None else Some (place_of json))
own-object where_it_stands json members is taken =
    ap (λ (b : Bool). if b && option_map_or (is_complete where_it_stands) (as_object json) true then None else Some (place_of json)) taken
    ∙ ap (λ (o : Option (List MemberParts)). if option_map_or (is_complete where_it_stands) o true then None else Some (place_of json)) is

own-none : (where_it_stands : TableRole) (json : OrderedJson) → as_object json ≡ None → takes where_it_stands json ≡ true → own_fault where_it_stands json ≡ None
own-none where_it_stands json is taken =
    ap (λ (b : Bool). if b && option_map_or (is_complete where_it_stands) (as_object json) true then None else Some (place_of json)) taken
    ∙ ap (λ (o : Option (List MemberParts)). if option_map_or (is_complete where_it_stands) o true then None else Some (place_of json)) is

own-refused : (where_it_stands : TableRole) (json : OrderedJson) → takes where_it_stands json ≡ false → own_fault where_it_stands json ≡ Some (place_of json)
own-refused where_it_stands json refused =
    ap (λ (b : Bool). if b && option_map_or (is_complete where_it_stands) (as_object json) true then None else Some (place_of json)) refused

pub not-expression : (where_it_stands : TableRole) → (where_it_stands ≡ role.Expression → ⊥) → is_expression where_it_stands ≡ false
not-expression role.Expression h = absurd (h refl)
not-expression role.Implementations h = refl
not-expression role.Expressions h = refl
not-expression role.Actions h = refl
not-expression role.Action h = refl
not-expression role.Form h = refl
not-expression role.ItemList h = refl
not-expression role.Item h = refl
not-expression role.Target h = refl
not-expression role.Actors h = refl
not-expression role.Actor h = refl
not-expression role.Name h = refl
not-expression role.Nothing h = refl

pub refused-least : (where_it_stands : TableRole) (json : OrderedJson) → is_expression where_it_stands ≡ false → takes where_it_stands json ≡ false → IsLeastOf (HasTableFault where_it_stands json) (Some (place_of json))
refused-least where_it_stands json plain refused =
    parts-least where_it_stands json [] [] None None (Some (place_of json)) plain (refused-members where_it_stands json refused) (refused-items where_it_stands json refused)
    (members-none where_it_stands (shape_of where_it_stands [])) (items-none (table_item_role where_it_stands))
    (ap (λ (o : Option ℕ). least_of o None) (own-refused where_it_stands json refused))

-- an object that may stand there has its members looked at
taken-members : (where_it_stands : TableRole) (json : OrderedJson) (members : List MemberParts) → is_expression where_it_stands ≡ false → takes where_it_stands json ≡ true → as_object json ≡ Some members → as_list json ≡ None → as_text json ≡ None → members_in where_it_stands json ≡ members
taken-members role.Expression json members plain taken is no_list no_text = absurd (cc plain)
taken-members role.Name json members plain taken is no_list no_text = absurd (cc (taken, ap (λ (o : Option (List ℕ)). is_some o) no_text))
taken-members role.ItemList json members plain taken is no_list no_text = absurd (cc (taken, ap (λ (o : Option (List OrderedJson)). is_some o) no_list))
taken-members role.Implementations json members plain taken is no_list no_text = ap (λ (o : Option (List MemberParts)). unwrap_or o []) is
taken-members role.Expressions json members plain taken is no_list no_text = ap (λ (o : Option (List MemberParts)). unwrap_or o []) is
taken-members role.Actions json members plain taken is no_list no_text = ap (λ (o : Option (List MemberParts)). unwrap_or o []) is
taken-members role.Action json members plain taken is no_list no_text = ap (λ (o : Option (List MemberParts)). unwrap_or o []) is
taken-members role.Form json members plain taken is no_list no_text = ap (λ (o : Option (List MemberParts)). unwrap_or o []) is
taken-members role.Item json members plain taken is no_list no_text = ap (λ (o : Option (List MemberParts)). unwrap_or o []) is
taken-members role.Target json members plain taken is no_list no_text = ap (λ (o : Option (List MemberParts)). unwrap_or o []) is
taken-members role.Actors json members plain taken is no_list no_text = ap (λ (o : Option (List MemberParts)). unwrap_or o []) is
taken-members role.Actor json members plain taken is no_list no_text = ap (λ (o : Option (List MemberParts)). unwrap_or o []) is
taken-members role.Nothing json members plain taken is no_list no_text = ap (λ (o : Option (List MemberParts)). unwrap_or o []) is

least-none : (own : Option ℕ) → least_of own None ≡ own
least-none None = refl
least-none (Some place) = refl

none-least : (own inner : Option ℕ) → least_of own (least_of inner None) ≡ least_of own inner
none-least own inner = ap (λ (o : Option ℕ). least_of own o) (least-none inner)

pub object-least : (where_it_stands : TableRole) (place : ℕ) (members : List Member) (own inner found : Option ℕ) → is_expression where_it_stands ≡ false → takes where_it_stands (json.Object place members) ≡ true
    → own ≡ (if is_complete where_it_stands (map member_parts members) then None else Some place)
    → IsLeastOf (HasMemberFault where_it_stands (shape_of where_it_stands (map member_parts members)) (map member_parts members)) inner
    → found ≡ least_of own inner → IsLeastOf (HasTableFault where_it_stands (json.Object place members)) found
object-least where_it_stands place members own inner found plain taken own_is inner_least is =
    let object_is : as_object (json.Object place members) ≡ Some (map member_parts members) = search (rules, json_lemmas) in
    let no_list : as_list (json.Object place members) ≡ None = search (rules, json_lemmas) in
    let no_text : as_text (json.Object place members) ≡ None = search (rules, json_lemmas) in
    let place_is : place_of (json.Object place members) ≡ place = search (rules, json_lemmas) in
    parts-least where_it_stands (json.Object place members) (map member_parts members) [] inner None found plain
    (taken-members where_it_stands (json.Object place members) (map member_parts members) plain taken object_is no_list no_text)
    (plain-items where_it_stands (json.Object place members) no_list) inner_least (items-none (table_item_role where_it_stands))
    (none-least (own_fault where_it_stands (json.Object place members)) inner
    ∙ ap (λ (o : Option ℕ). least_of o inner) (own-object where_it_stands (json.Object place members) (map member_parts members) object_is taken
    ∙ ap (λ (n : ℕ). if is_complete where_it_stands (map member_parts members) then None else Some n) place_is ∙ sym own_is) ∙ sym is)

pub list-least : (where_it_stands part : TableRole) (place : ℕ) (items : List OrderedJson) (found : Option ℕ) → is_expression where_it_stands ≡ false → takes where_it_stands (json.List place items) ≡ true → list_role where_it_stands ≡ Some part → IsLeastOf (HasItemFault part items) found → IsLeastOf (HasTableFault where_it_stands (json.List place items)) found
list-least where_it_stands part place items found plain taken part_is least =
    let list_is : as_list (json.List place items) ≡ Some items = search (rules, json_lemmas) in
    let no_object : as_object (json.List place items) ≡ None = search (rules, json_lemmas) in
    parts-least where_it_stands (json.List place items) [] items None found found plain (plain-members where_it_stands (json.List place items) no_object)
    (ap (λ (o : Option TableRole). option_map_or (λ (p : TableRole). unwrap_or (as_list (json.List place items)) []) o []) part_is ∙ ap (λ (o : Option (List OrderedJson)). unwrap_or o []) list_is)
    (members-none where_it_stands (shape_of where_it_stands []))
    (subst (λ (r : TableRole). IsLeastOf (HasItemFault r items) found) (sym (ap (λ (o : Option TableRole). unwrap_or o where_it_stands) part_is)) least)
    (ap (λ (o : Option ℕ). least_of o found) (own-none where_it_stands (json.List place items) no_object taken))

pub scalar-least : (where_it_stands : TableRole) (json : OrderedJson) → is_expression where_it_stands ≡ false → takes where_it_stands json ≡ true → as_object json ≡ None → as_list json ≡ None → IsLeastOf (HasTableFault where_it_stands json) None
scalar-least where_it_stands json plain taken no_object no_list =
    parts-least where_it_stands json [] [] None None None plain (plain-members where_it_stands json no_object) (plain-items where_it_stands json no_list)
    (members-none where_it_stands (shape_of where_it_stands [])) (items-none (table_item_role where_it_stands))
    (ap (λ (o : Option ℕ). least_of o None) (own-none where_it_stands json no_object taken))

pub no_list-least : (where_it_stands : TableRole) (place : ℕ) (items : List OrderedJson) → is_expression where_it_stands ≡ false → takes where_it_stands (json.List place items) ≡ true → list_role where_it_stands ≡ None → IsLeastOf (HasTableFault where_it_stands (json.List place items)) None
no_list-least where_it_stands place items plain taken none_is =
    let no_object : as_object (json.List place items) ≡ None = search (rules, json_lemmas) in
    parts-least where_it_stands (json.List place items) [] [] None None None plain (plain-members where_it_stands (json.List place items) no_object)
    (ap (λ (o : Option TableRole). option_map_or (λ (p : TableRole). unwrap_or (as_list (json.List place items)) []) o []) none_is)
    (members-none where_it_stands (shape_of where_it_stands [])) (items-none (table_item_role where_it_stands))
    (ap (λ (o : Option ℕ). least_of o None) (own-none where_it_stands (json.List place items) no_object taken))

-- a fact of what a call gave, where it follows from another
pub given-too : (P Q : Option ℕ → Type 0) (r : Result (Option ℕ) AllocError) → ((found : Option ℕ) → P found → Q found) → IfOk r P → IfOk r Q
given-too P Q (Ok found) follows h = follows found h
given-too P Q (Err e) follows h = h
