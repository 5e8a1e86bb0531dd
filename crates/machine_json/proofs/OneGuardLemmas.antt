-- A text without faults means one guard.
use Rattle.std.proofs.Common.{◌≡◌, ◌<◌, ◌≤◌, ◌+◌, ℕ, zero, suc, Bool, true, false, cond, ◌&&◌, ◌||◌, List, [], ◌∷◌, Option, None, Some, refl, sym, ap, ◌∙◌, subst, arith, inl, inr}
use Rattle.std.specs.Prelude.{IfSome, codes, count_by, is_some, slice_get, unwrap_or}
use Rattle.std.specs.Option.{option_map_or}
use Rattle.std.proofs.lemmas.Bool.{cases_eq, cases_lt}
use Rattle.std.proofs.lemmas.Bool.Decides.{Decides-eqb}
use Rattle.std.proofs.lemmas.List.Sums.{sum_by-cons}
use Rattle.ordered_json.specs.declared.json.Member.{Member}
use Rattle.ordered_json.specs.declared.json.OrderedJson.{OrderedJson, OrderedJson-F, out-OrderedJson}
use Rattle.ordered_json.specs.Words.{MemberParts, as_object, as_text, get}
use Rattle.xs_model.specs.declared.value.Value.TheVariants as value
use Rattle.node_tree.specs.declared.node.Node.{Node}
use Rattle.machine_json.specs.declared.guards.GuardForm.{GuardForm}
use Rattle.machine_json.specs.declared.guards.GuardForm.TheVariants.{Test, And, Or, Not, In}
use Rattle.machine_json.specs.declared.machine.UnlinkedGuard.{UnlinkedGuard}
use Rattle.machine_json.specs.declared.machine.UnlinkedGuard.TheVariants as guard
use Rattle.machine_json.specs.declared.role.Role.TheVariants as role
use Rattle.machine_json.specs.Faultless.{IsFaultlessAs}
use Rattle.machine_json.specs.FirstPass.{items_of}
use Rattle.machine_json.specs.GuardForms.{form_key}
use Rattle.machine_json.specs.Machines.{MeansGuard, MeansGuardOr, MeansGuards}
use Rattle.machine_json.specs.Machines.MeansGuard.{a_name, with_type, with_and, with_or, with_not, with_state}
use Rattle.machine_json.specs.Machines.MeansGuards.{no_guard, one_guard}
use Rattle.machine_json.specs.Meaning.{named_of, params_of}
use Rattle.machine_json.specs.NodeKinds.{members_of}
use Rattle.machine_json.specs.Roles.{guard_forms, has, has_one_form, is_guard_object, is_object_with, is_text, takes}
use Rattle.machine_json.specs.SecondPass.{led_to}
use Rattle.machine_json.proofs.FaultlessLemmas.{is_taken, of_item, of_member}

-- ---- what is counted

module _ {X : Type 0} (test : X → Bool) where
  counted_more : (x : X) (xs : List X) → count_by test xs ≤ count_by test (x ∷ xs)
  counted_more x xs =
      let split : count_by test (x ∷ xs) ≡ cond (test x) 1 0 + count_by test xs = sum_by-cons (λ y. cond (test y) 1 0) x xs in omega arith

  counted_here : (x : X) (xs : List X) → test x ≡ true → count_by test (x ∷ xs) ≡ 1 + count_by test xs
  counted_here x xs is = sum_by-cons (λ y. cond (test y) 1 0) x xs ∙ ap (λ b. cond b 1 0 + count_by test xs) is

  one_counted : (xs : List X) (i : ℕ) (x : X) → slice_get xs i ≡ Some x → test x ≡ true → 1 ≤ count_by test xs
  one_counted [] i x at is = absurd (cc)
  one_counted (y ∷ xs) zero x at is =
      let same : y ≡ x = cc in
      let here = counted_here y xs (ap test same ∙ is) in omega arith
  one_counted (y ∷ xs) (suc i) x at is = let later = one_counted xs i x at is in let more = counted_more y xs in omega arith

  two_counted : (xs : List X) (i j : ℕ) (x y : X) → i < j → slice_get xs i ≡ Some x → slice_get xs j ≡ Some y → test x ≡ true → test y ≡ true
      → 2 ≤ count_by test xs
  two_counted [] i j x y less at at_too is is_too = absurd (cc)
  two_counted (z ∷ xs) i zero x y less at at_too is is_too = absurd (omega arith)
  two_counted (z ∷ xs) zero (suc j) x y less at at_too is is_too =
      let same : z ≡ x = cc in
      let here = counted_here z xs (ap test same ∙ is) in
      let later = one_counted xs j y at_too is_too in omega arith
  two_counted (z ∷ xs) (suc i) (suc j) x y less at at_too is is_too =
      let later = two_counted xs i j x y (omega arith) at at_too is is_too in let more = counted_more z xs in omega arith

-- ---- one form

-- the place of a form among the forms
abbrev form_place : GuardForm → ℕ
form_place Test = 0
form_place And = 1
form_place Or = 2
form_place Not = 3
form_place In = 4

abbrev form_at : ℕ → GuardForm
form_at zero = Test
form_at (suc zero) = And
form_at (suc (suc zero)) = Or
form_at (suc (suc (suc zero))) = Not
form_at _ = In

form_again : (form : GuardForm) → form_at (form_place form) ≡ form
form_again Test = refl
form_again And = refl
form_again Or = refl
form_again Not = refl
form_again In = refl

key_at : (form : GuardForm) → slice_get guard_forms (form_place form) ≡ Some (form_key form)
key_at Test = refl
key_at And = refl
key_at Or = refl
key_at Not = refl
key_at In = refl

-- an object with one form has the keys of no two
one_form : (members : List MemberParts) (f g : GuardForm) (found other : OrderedJson) → has_one_form members ≡ true
    → get (form_key f) members ≡ Some found → get (form_key g) members ≡ Some other → f ≡ g
one_form members f g found other one at at_too = elim (cases_eq (form_place f) (form_place g)) [
  | inl same ↦ sym (form_again f) ∙ ap form_at same ∙ form_again g
  | inr apart ↦
      let count : count_by (has members) guard_forms ≡ 1 = (Decides-eqb (count_by (has members) guard_forms) 1).0 one in
      let is : has members (form_key f) ≡ true = ap is_some at in
      let is_too : has members (form_key g) ≡ true = ap is_some at_too in
      elim (cases_lt (form_place f) (form_place g)) [
        | inl less ↦
            let two = two_counted (has members) guard_forms (form_place f) (form_place g) (form_key f) (form_key g) less (key_at f) (key_at g) is is_too in
            absurd (omega arith)
        | inr not_less ↦ elim (cases_lt (form_place g) (form_place f)) [
          | inl less ↦
              let two = two_counted (has members) guard_forms (form_place g) (form_place f) (form_key g) (form_key f) less (key_at g) (key_at f) is_too is in
              absurd (omega arith)
          | inr more ↦ (let same : form_place f ≡ form_place g = omega arith in absurd (apart same))
        ]
      ]
]

-- a text has no members
text_has_none : (json : OrderedJson) (text : List ℕ) → as_text json ≡ Some text → members_of json ≡ []
text_has_none json text is = by_layer (out-OrderedJson json) refl
  where
    by_layer : (layer : OrderedJson-F OrderedJson Member) → out-OrderedJson json ≡ layer → members_of json ≡ []
    by_layer (OrderedJson-F.Null place) layer_is = rw layer_is refl
    by_layer (OrderedJson-F.Bool place truth) layer_is = rw layer_is refl
    by_layer (OrderedJson-F.Int place number) layer_is = rw layer_is refl
    by_layer (OrderedJson-F.Text place held) layer_is = rw layer_is refl
    by_layer (OrderedJson-F.List place items) layer_is = rw layer_is refl
    by_layer (OrderedJson-F.Object place members) layer_is =
        let nothing : as_text json ≡ None = rw layer_is refl in
        let never : None ≡ Some text = sym nothing ∙ is in absurd (cc)

-- what has no members has nothing under a key
nothing_under : (key : List ℕ) (json found : OrderedJson) → members_of json ≡ [] → get key (members_of json) ≡ Some found → ⊥
nothing_under key json found none at = let never : None ≡ Some found = sym (ap (get key) none) ∙ at in cc

and_left : (a b : Bool) → (a && b) ≡ true → a ≡ true
and_left true b is = refl
and_left false b is = is

or_right : (a b : Bool) → a ≡ false → (a || b) ≡ true → b ≡ true
or_right false b none is = is
or_right true b none is = absurd (cc)

-- an object that a guard's role takes has one form
one_by_object : (json : OrderedJson) (object : Option (List MemberParts)) (text : Option (List ℕ)) (key : List ℕ) (found : OrderedJson)
    → as_object json ≡ object → as_text json ≡ text → takes role.Guard json ≡ true → get key (members_of json) ≡ Some found → has_one_form (members_of json) ≡ true
one_by_object json None text key found is text_is taken at =
    absurd (nothing_under key json found (ap (λ (o : Option (List MemberParts)). unwrap_or o []) is) at)
one_by_object json object (Some text) key found is text_is taken at = absurd (nothing_under key json found (text_has_none json text text_is) at)
one_by_object json (Some members) None key found is text_is taken at =
    let object_taken : is_object_with is_guard_object json ≡ true = or_right (is_text json) (is_object_with is_guard_object json) (ap is_some text_is) taken in
    let guard_object : is_guard_object members ≡ true =
    sym (ap (λ (o : Option (List MemberParts)). option_map_or is_guard_object o false) is) ∙ object_taken in
    let same : members_of json ≡ members = ap (λ (o : Option (List MemberParts)). unwrap_or o []) is in
    ap has_one_form same ∙ and_left (has_one_form members) _ guard_object

-- ---- one guard

module _ (rows : List Node) (source : ℕ) where
  form_alone : (json : OrderedJson) (key : List ℕ) (found : OrderedJson) → IsFaultlessAs rows source role.Guard json → get key (members_of json) ≡ Some found
      → has_one_form (members_of json) ≡ true
  form_alone json key found sound at =
      one_by_object json (as_object json) (as_text json) key found refl refl (is_taken rows source role.Guard json (λ fault has. has) sound) at

  -- what a guard is of which the value under the key of a form is told
  abbrev IsOfForm : OrderedJson → GuardForm → OrderedJson → UnlinkedGuard → Type 0
  IsOfForm json Test found it = it ≡ guard.Test (named_of found) (params_of (members_of json))
  IsOfForm json And found it = (parts : List UnlinkedGuard) × MeansGuards rows source (items_of found) parts × (it ≡ guard.And parts)
  IsOfForm json Or found it = (parts : List UnlinkedGuard) × MeansGuards rows source (items_of found) parts × (it ≡ guard.Or parts)
  IsOfForm json Not found it = (part : UnlinkedGuard) × MeansGuard rows source found part × (it ≡ guard.Not part)
  IsOfForm json In found it = (node : ℕ) × (led_to rows source found ≡ Some node) × (it ≡ guard.In node)

  same_form_too : (json : OrderedJson) (f g : GuardForm) (found other : OrderedJson) (it : UnlinkedGuard) → has_one_form (members_of json) ≡ true
      → get (form_key f) (members_of json) ≡ Some found → get (form_key g) (members_of json) ≡ Some other → IsOfForm json g other it → IsOfForm json f found it
  same_form_too json f g found other it one at at_too is =
      let same : g ≡ f = one_form (members_of json) g f other found one at_too at in
      let there : get (form_key f) (members_of json) ≡ Some other = subst (λ (h : GuardForm). get (form_key h) (members_of json) ≡ Some other) same at_too in
      let both : Some other ≡ Some found = sym there ∙ at in
      let value_same : other ≡ found = cc in
      subst (λ (h : GuardForm). IsOfForm json h found it) same (subst (λ (o : OrderedJson). IsOfForm json g o it) value_same is)

  -- a guard is told by the one form of its object
  of_form : (json : OrderedJson) (f : GuardForm) (found : OrderedJson) (it : UnlinkedGuard) → has_one_form (members_of json) ≡ true
      → get (form_key f) (members_of json) ≡ Some found → MeansGuard rows source json it → IsOfForm json f found it
  of_form json f found _ one at (a_name _ text is) = absurd (nothing_under (form_key f) json found (text_has_none json text is) at)
  of_form json f found _ one at (with_type _ name is) = same_form_too json f Test found name _ one at is refl
  of_form json f found _ one at (with_and _ list parts is each) = same_form_too json f And found list _ one at is (parts, each, refl)
  of_form json f found _ one at (with_or _ list parts is each) = same_form_too json f Or found list _ one at is (parts, each, refl)
  of_form json f found _ one at (with_not _ inner part is each) = same_form_too json f Not found inner _ one at is (part, each, refl)
  of_form json f found _ one at (with_state _ text node is led) = same_form_too json f In found text _ one at is (node, led, refl)

  -- a text is a name alone
  of_name : (json : OrderedJson) (text : List ℕ) (it : UnlinkedGuard) → as_text json ≡ Some text → MeansGuard rows source json it
      → it ≡ guard.Test (named_of json) value.Null
  of_name json text _ is (a_name _ other is_too) = refl
  of_name json text _ is (with_type _ name at) = absurd (nothing_under (codes "type") json name (text_has_none json text is) at)
  of_name json text _ is (with_and _ list parts at each) = absurd (nothing_under (codes "and") json list (text_has_none json text is) at)
  of_name json text _ is (with_or _ list parts at each) = absurd (nothing_under (codes "or") json list (text_has_none json text is) at)
  of_name json text _ is (with_not _ inner part at each) = absurd (nothing_under (codes "not") json inner (text_has_none json text is) at)
  of_name json text _ is (with_state _ asked node at led) = absurd (nothing_under (codes "stateIn") json asked (text_has_none json text is) at)

  abbrev AreSound : List OrderedJson → Type 0
  AreSound jsons = (k : ℕ) (json : OrderedJson) → slice_get jsons k ≡ Some json → IsFaultlessAs rows source role.Guard json

  parts_sound : (list : OrderedJson) → IsFaultlessAs rows source role.Guards list → AreSound (items_of list)
  parts_sound list sound k item at = of_item rows source role.Guards list k item sound at

  mutual
    pub guard_same : (json : OrderedJson) (g h : UnlinkedGuard) → IsFaultlessAs rows source role.Guard json
        → MeansGuard rows source json g → MeansGuard rows source json h → g ≡ h
    guard_same json _ h sound (a_name _ text is) other = sym (of_name json text h is other)
    guard_same json _ h sound (with_type _ name at) other = sym (of_form json Test name h (form_alone json (codes "type") name sound at) at other)
    guard_same json _ h sound (with_and _ list parts at each) other =
        let it = of_form json And list h (form_alone json (codes "and") list sound at) at other in
        let inside = of_member rows source role.Guard role.Guards json (codes "and") list sound at refl refl in
        ap guard.And (guards_same (items_of list) parts it.0 (parts_sound list inside) each it.1) ∙ sym it.2
    guard_same json _ h sound (with_or _ list parts at each) other =
        let it = of_form json Or list h (form_alone json (codes "or") list sound at) at other in
        let inside = of_member rows source role.Guard role.Guards json (codes "or") list sound at refl refl in
        ap guard.Or (guards_same (items_of list) parts it.0 (parts_sound list inside) each it.1) ∙ sym it.2
    guard_same json _ h sound (with_not _ inner part at each) other =
        let it = of_form json Not inner h (form_alone json (codes "not") inner sound at) at other in
        let inside = of_member rows source role.Guard role.Guard json (codes "not") inner sound at refl refl in
        ap guard.Not (guard_same inner part it.0 inside each it.1) ∙ sym it.2
    guard_same json _ h sound (with_state _ text node at led) other =
        let it = of_form json In text h (form_alone json (codes "stateIn") text sound at) at other in
        let both : Some node ≡ Some it.0 = sym led ∙ it.1 in
        let same : node ≡ it.0 = cc in
        ap guard.In same ∙ sym it.2

    guards_same : (jsons : List OrderedJson) (gs hs : List UnlinkedGuard) → AreSound jsons
        → MeansGuards rows source jsons gs → MeansGuards rows source jsons hs → gs ≡ hs
    guards_same _ _ _ sound no_guard no_guard = refl
    guards_same _ _ _ sound (one_guard json it jsons guards is rest) (one_guard _ other _ others is_too rest_too) =
        let first : it ≡ other = guard_same json it other (sound 0 json refl) is is_too in
        let later : guards ≡ others = guards_same jsons guards others (λ k j at. sound (suc k) j at) rest rest_too in cc

  -- a guard that there may be
  pub guard_or_same : (json : Option OrderedJson) (g h : Option UnlinkedGuard) → IfSome json (IsFaultlessAs rows source role.Guard)
      → MeansGuardOr rows source json g → MeansGuardOr rows source json h → g ≡ h
  guard_or_same None None None sound is is_too = refl
  guard_or_same None None (Some h) sound is is_too = absurd is_too
  guard_or_same None (Some g) h sound is is_too = absurd is
  guard_or_same (Some json) None h sound is is_too = absurd is
  guard_or_same (Some json) (Some g) None sound is is_too = absurd is_too
  guard_or_same (Some json) (Some g) (Some h) sound is is_too = ap Some (guard_same json g h sound is is_too)
