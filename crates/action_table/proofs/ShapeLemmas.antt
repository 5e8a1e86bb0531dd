-- The least place at which a text is out of its outer shape.
use Rattle.std.proofs.Common.{◌≡◌, ℕ, zero, suc, Bool, true, false, ◌⊎◌, inl, inr, List, [], ◌∷◌, ◌++◌, Option, None, Some, refl, sym, ◌∙◌, subst, arith}
use Rattle.std.specs.Prelude.{codes, is_some, if◌then◌else◌}
use Rattle.std.specs.List.{Contains}
use Rattle.std.specs.Option.{option_and_then}
use Rattle.std.proofs.lemmas.List.Elements.{Contains-append_cases, Contains-append_left, Contains-push}
use Rattle.ordered_json.specs.declared.json.OrderedJson.{OrderedJson}
use Rattle.ordered_json.specs.Words.{MemberParts, as_list, as_object, get, get_list, place_of}
use Rattle.action_table.specs.OuterShape.{HasOuterShape, HasShapeFault, IsItemsFault, IsMachinesFault, IsMembersFault, IsNoObject, IsOtherMember, IsPlaceAmong, IsTablePartFault, is_outer_key}
use Rattle.action_table.specs.TablePlaces.{IsLeastOf, least_of}
use Rattle.action_table.proofs.FirstLemmas.{least-of}
use Rattle.action_table.proofs.ThereLemmas.{then-some}

-- the one place that there is
pub one-place : (p : ℕ) → IsLeastOf (λ place. place ≡ p) (Some p)
one-place p = record { there = refl; no_earlier = λ other is. omega (arith, is) }

-- ---- one more of a list

none-contained : {X : Type 0} (x : X) → Contains [] x → ⊥
none-contained x in_none = omega (arith, in_none.1)

only-contained : {X : Type 0} (x y : X) → Contains (x ∷ []) y → x ≡ y
only-contained x y (zero, within, is) = is
only-contained x y (suc k, within, is) = absurd (omega (arith, within))

pub among-none : {X : Type 0} (HasPlace : X → ℕ → Type 0) → IsLeastOf (IsPlaceAmong HasPlace []) None
among-none HasPlace = λ place it. none-contained it.0 it.1

pub among-push : {X : Type 0} (HasPlace : X → ℕ → Type 0) (xs : List X) (x : X) (least found : Option ℕ) → IsLeastOf (IsPlaceAmong HasPlace xs) least → IsLeastOf (HasPlace x) found
    → IsLeastOf (IsPlaceAmong HasPlace (xs ++ x ∷ [])) (least_of least found)
among-push HasPlace xs x least found sofar here =
    least-of (IsPlaceAmong HasPlace xs) (HasPlace x) (IsPlaceAmong HasPlace (xs ++ x ∷ [])) least found sofar here
    (λ place it. (it.0, Contains-append_left xs (x ∷ []) it.0 it.1, it.2))
    (λ place it. (x, Contains-push xs x, it))
    (λ place it. elim (Contains-append_cases xs (x ∷ []) it.0 it.1) [
      | inl before ↦ inl (it.0, before, it.2)
      | inr last ↦ inr (subst (λ y. HasPlace y place) (sym (only-contained x it.0 last)) it.2)
    ])

-- ---- values

pub other-least : (member : MemberParts) (test : Bool) → is_outer_key member.key ≡ test → IsLeastOf (IsOtherMember member) (if test then None else Some member.key_place)
other-least member true is = λ place it. let both : true ≡ false = sym is ∙ it.0 in absurd (cc)
other-least member false is = record { there = (is, refl); no_earlier = λ other it. omega (arith, it.1) }

pub object-least : (json : OrderedJson) (o : Option (List MemberParts)) → as_object json ≡ o → IsLeastOf (IsNoObject json) (if is_some o then None else Some (place_of json))
object-least json None is = record { there = (is, refl); no_earlier = λ other it. omega (arith, it.1) }
object-least json (Some members) is = λ place it. let both : Some members ≡ None = sym is ∙ it.0 in absurd (cc)

-- ---- the whole

pub members-least : (json : OrderedJson) (members : List MemberParts) (key machines table : Option ℕ) → as_object json ≡ Some members
    → IsLeastOf (IsPlaceAmong IsOtherMember members) key → IsLeastOf (IsMachinesFault (get (codes "machines") members)) machines
    → IsLeastOf (IsTablePartFault (get (codes "implementations") members)) table → IsLeastOf (HasShapeFault json) (least_of (least_of key machines) table)
members-least json members key machines table is first second third =
    subst (λ o. IsLeastOf (IsMembersFault json o) (least_of (least_of key machines) table)) (sym is)
    (least-of (λ place. IsPlaceAmong IsOtherMember members place ⊎ IsMachinesFault (get (codes "machines") members) place)
    (IsTablePartFault (get (codes "implementations") members)) (IsMembersFault json (Some members)) (least_of key machines) table
    (least-of (IsPlaceAmong IsOtherMember members) (IsMachinesFault (get (codes "machines") members))
    (λ place. IsPlaceAmong IsOtherMember members place ⊎ IsMachinesFault (get (codes "machines") members) place) key machines first second
    (λ place it. inl it) (λ place it. inr it) (λ place it. it))
    third (λ place it. inl it) (λ place it. inr it) (λ place it. it))

pub no-members-least : (json : OrderedJson) → as_object json ≡ None → IsLeastOf (HasShapeFault json) (Some (place_of json))
no-members-least json is = subst (λ o. IsLeastOf (IsMembersFault json o) (Some (place_of json))) (sym is) (one-place (place_of json))

-- ---- a text in its shape

module _ (json : OrderedJson) (faultless : (place : ℕ) → ¬ HasShapeFault json place) where
  pub no-object : as_object json ≡ None → ⊥
  no-object is = faultless (place_of json) (subst (λ o. IsMembersFault json o (place_of json)) (sym is) refl)

  no-fault : (members : List MemberParts) (place : ℕ) → as_object json ≡ Some members → ¬ IsMembersFault json (Some members) place
  no-fault members place is = λ it. faultless place (subst (λ o. IsMembersFault json o place) (sym is) it)

  pub no-machines : (members : List MemberParts) → as_object json ≡ Some members → get_list (codes "machines") members ≡ None → ⊥
  no-machines members is none = by-part (get (codes "machines") members) refl none
    where
      by-part : (o : Option OrderedJson) → get (codes "machines") members ≡ o → option_and_then as_list o ≡ None → ⊥
      by-part None at none = no-fault members 0 is (inl (inr (subst (λ o. IsMachinesFault o 0) (sym at) refl)))
      by-part (Some list) at none =
          let fault : IsMachinesFault (Some list) (place_of list) = subst (λ l. IsItemsFault list l (place_of list)) (sym none) refl in
          no-fault members (place_of list) is (inl (inr (subst (λ o. IsMachinesFault o (place_of list)) (sym at) fault)))

  pub no-table : (members : List MemberParts) → as_object json ≡ Some members → get (codes "implementations") members ≡ None → ⊥
  no-table members is none = no-fault members 0 is (inr (subst (λ o. IsTablePartFault o 0) (sym none) refl))

  pub in-shape : (members : List MemberParts) (machines : List OrderedJson) (implementations : OrderedJson) → as_object json ≡ Some members
      → get_list (codes "machines") members ≡ Some machines → get (codes "implementations") members ≡ Some implementations → HasOuterShape json machines implementations
  in-shape members machines implementations is list table =
      let found = then-some as_list (get (codes "machines") members) machines list in
      record {
        members = members;
        members_are = is;
        list = found.0;
        list_is = found.1;
        machines_are = found.2;
        table_is = table;
        faultless = faultless;
      }
