-- The forms of a guard's object, and guards one after another.
use Rattle.std.proofs.Common.{◌≡◌, ℕ, ◌+◌, Bool, true, false, ◌&&◌, ◌||◌, List, [], ◌∷◌, ◌++◌, Some, None, Option, refl, ap, sym, ◌∙◌, subst, map, take, rules, add-one}
use Rattle.std.specs.Prelude.{codes, is_none, is_some, slice_get, unwrap_or, Result, Ok, Err, IfOk}
use Rattle.std.specs.Option.{option_map_or}
use Rattle.std.specs.Map.{lookup}
use Rattle.std.specs.Str.{bytes_eq}
use Rattle.std.specs.declared.alloc.AllocError.{AllocError}
use Rattle.std.proofs.lemmas.Slice.Eq.{bytes_eq-Decides}
use Rattle.ordered_json.specs.declared.json.Member.{Member}
use Rattle.ordered_json.specs.declared.json.OrderedJson.{OrderedJson, OrderedJson-F, out-OrderedJson, the_lemmas as json_lemmas}
use Rattle.ordered_json.specs.declared.json.OrderedJson.TheVariants as json
use Rattle.ordered_json.specs.declared.json.OrderedJson.TheVariants.{rolls-List, rolls-Object}
use Rattle.ordered_json.specs.declared.json.OrderedJson.TheViews.{roll-OrderedJson, roll-out-OrderedJson}
use Rattle.ordered_json.specs.Words.{MemberParts, as_object, as_text, get, member_parts, place_of}
use Rattle.xs_model.specs.declared.value.Value.TheVariants as value
use Rattle.node_tree.specs.declared.node.Node.{Node}
use Rattle.machine_json.specs.declared.fault.MachineFault.TheVariants.{NoTarget}
use Rattle.machine_json.specs.declared.guards.GuardForm.{GuardForm}
use Rattle.machine_json.specs.declared.guards.GuardForm.TheVariants.{Test, And, Or, Not, In}
use Rattle.machine_json.specs.declared.machine.UnlinkedGuard.{UnlinkedGuard}
use Rattle.machine_json.specs.declared.machine.UnlinkedGuard.TheVariants as guard
use Rattle.machine_json.specs.declared.role.Role.TheVariants as role
use Rattle.machine_json.specs.Faultless.{IsFaultlessAs}
use Rattle.machine_json.specs.FirstPass.{items_of}
use Rattle.machine_json.specs.GuardForms.{form_key, forms_by_key}
use Rattle.machine_json.specs.Machines.{MeansGuard, MeansGuards}
use Rattle.machine_json.specs.Machines.MeansGuard.{a_name, with_type, with_and, with_or, with_not, with_state}
use Rattle.machine_json.specs.Machines.MeansGuards.{no_guard, one_guard}
use Rattle.machine_json.specs.Meaning.{named_of, params_of}
use Rattle.machine_json.specs.NodeKinds.{members_of}
use Rattle.machine_json.specs.Roles.{begins_with_hash, has_one_form, is_guard_object, is_object_with, is_text, takes}
use Rattle.machine_json.specs.SecondPass.{led_to}
use Rattle.machine_json.specs.SecondPass.HasLinkFault.{own_link}
use Rattle.machine_json.proofs.FaultlessLemmas.{fails, is_taken, of_member}
use Rattle.machine_json.proofs.NodeLemmas.{not_found}

-- ---- JSON that is no list, and JSON that is no object

pub no_items : (whole : OrderedJson) → ((place : ℕ) (items : List OrderedJson) → whole ≡ json.List place items → ⊥) → items_of whole ≡ []
no_items whole not_list = by_layer (out-OrderedJson whole) refl
  where
    by_layer : (layer : OrderedJson-F OrderedJson Member) → out-OrderedJson whole ≡ layer → items_of whole ≡ []
    by_layer (OrderedJson-F.Null place) is = rw is refl
    by_layer (OrderedJson-F.Bool place truth) is = rw is refl
    by_layer (OrderedJson-F.Int place number) is = rw is refl
    by_layer (OrderedJson-F.Text place text) is = rw is refl
    by_layer (OrderedJson-F.List place items) is = absurd (not_list place items (sym (roll-out-OrderedJson whole) ∙ ap roll-OrderedJson is ∙ rolls-List place items))
    by_layer (OrderedJson-F.Object place members) is = rw is refl

no_object : (whole : OrderedJson) → ((place : ℕ) (members : List Member) → whole ≡ json.Object place members → ⊥) → as_object whole ≡ None
no_object whole not_object = by_layer (out-OrderedJson whole) refl
  where
    by_layer : (layer : OrderedJson-F OrderedJson Member) → out-OrderedJson whole ≡ layer → as_object whole ≡ None
    by_layer (OrderedJson-F.Null place) is = rw is refl
    by_layer (OrderedJson-F.Bool place truth) is = rw is refl
    by_layer (OrderedJson-F.Int place number) is = rw is refl
    by_layer (OrderedJson-F.Text place text) is = rw is refl
    by_layer (OrderedJson-F.List place items) is = rw is refl
    by_layer (OrderedJson-F.Object place members) is = absurd (not_object place members (sym (roll-out-OrderedJson whole) ∙ ap roll-OrderedJson is ∙ rolls-Object place members))

-- ---- a name alone

text_there : (text : Option (List ℕ)) → is_some text ≡ true → (t : List ℕ) × (text ≡ Some t)
text_there None is = absurd (cc)
text_there (Some t) is = (t, refl)

pub or_false : (a b : Bool) → b ≡ false → (a || b) ≡ true → a ≡ true
or_false true b none is = refl
or_false false b none is = absurd (cc)

-- a guard that is no object is a text
pub name_means : (rows : List Node) (source : ℕ) (whole : OrderedJson) (result : Result UnlinkedGuard AllocError)
    → ((place : ℕ) (members : List Member) → whole ≡ json.Object place members → ⊥)
    → IfOk result (λ it. it ≡ guard.Test (named_of whole) value.Null) → IfOk result (λ it. IsFaultlessAs rows source role.Guard whole → MeansGuard rows source whole it)
name_means rows source whole (Err e) not_object is = tt
name_means rows source whole (Ok it) not_object is = λ sound.
    let none = no_object whole not_object in
    let taken : takes role.Guard whole ≡ true = is_taken rows source role.Guard whole (λ fault has. has) sound in
    let no_form : is_object_with is_guard_object whole ≡ false = rw none refl in
    let text : is_text whole ≡ true = or_false (is_text whole) (is_object_with is_guard_object whole) no_form taken in
    let found = text_there (as_text whole) text in
    let P : UnlinkedGuard → Type 0 = λ g. MeansGuard rows source whole g in
    subst P (sym is) (a_name whole found.0 found.1)

-- ---- the form of an object

-- no member so far makes a form
abbrev pub HasNoForm : List MemberParts → Type 0
HasNoForm members = (form : GuardForm) → get (form_key form) members ≡ None

-- there is no such object among those that a guard may be
no_form_refused : (rows : List Node) (source : ℕ) (whole : OrderedJson) (place : ℕ) (members : List Member) → IsFaultlessAs rows source role.Guard whole
    → whole ≡ json.Object place members → HasNoForm (map member_parts members) → ⊥
no_form_refused rows source whole place members sound is none =
    let taken : takes role.Guard whole ≡ true = is_taken rows source role.Guard whole (λ fault has. has) sound in
    let object : takes role.Guard whole ≡ is_guard_object (map member_parts members) = ap (takes role.Guard) is ∙ search (rules, json_lemmas) in
    let no_form : has_one_form (map member_parts members) ≡ false = rw (none Test, none And, none Or, none Not, none In) refl in
    let refused : is_guard_object (map member_parts members) ≡ false = rw no_form refl in
    let both : true ≡ false = sym taken ∙ object ∙ refused in
    absurd (cc)

pub no_form_means : (rows : List Node) (source : ℕ) (whole : OrderedJson) (place : ℕ) (members : List Member) (result : Result UnlinkedGuard AllocError)
    → whole ≡ json.Object place members → HasNoForm (map member_parts members)
    → IfOk result (λ it. IsFaultlessAs rows source role.Guard whole → MeansGuard rows source whole it)
no_form_means rows source whole place members (Err e) is none = tt
no_form_means rows source whole place members (Ok it) is none = λ sound. absurd (no_form_refused rows source whole place members sound is none)

-- the form that a key makes has the key
named_by_tests : (key : List ℕ) (form : GuardForm) (a b c d e : Bool) → bytes_eq key (codes "type") ≡ a → bytes_eq key (codes "and") ≡ b → bytes_eq key (codes "or") ≡ c
    → bytes_eq key (codes "not") ≡ d → bytes_eq key (codes "stateIn") ≡ e → lookup (bytes_eq key) forms_by_key ≡ Some form → bytes_eq key (form_key form) ≡ true
named_by_tests key form true b c d e is_a is_b is_c is_d is_e found =
    let here : lookup (bytes_eq key) forms_by_key ≡ Some Test = rw is_a refl in
    let same : Test ≡ form = cc in rw (← same) is_a
named_by_tests key form false true c d e is_a is_b is_c is_d is_e found =
    let here : lookup (bytes_eq key) forms_by_key ≡ Some And = rw (is_a, is_b) refl in
    let same : And ≡ form = cc in rw (← same) is_b
named_by_tests key form false false true d e is_a is_b is_c is_d is_e found =
    let here : lookup (bytes_eq key) forms_by_key ≡ Some Or = rw (is_a, is_b, is_c) refl in
    let same : Or ≡ form = cc in rw (← same) is_c
named_by_tests key form false false false true e is_a is_b is_c is_d is_e found =
    let here : lookup (bytes_eq key) forms_by_key ≡ Some Not = rw (is_a, is_b, is_c, is_d) refl in
    let same : Not ≡ form = cc in rw (← same) is_d
named_by_tests key form false false false false true is_a is_b is_c is_d is_e found =
    let here : lookup (bytes_eq key) forms_by_key ≡ Some In = rw (is_a, is_b, is_c, is_d, is_e) refl in
    let same : In ≡ form = cc in rw (← same) is_e
named_by_tests key form false false false false false is_a is_b is_c is_d is_e found =
    let here : lookup (bytes_eq key) forms_by_key ≡ None = rw (is_a, is_b, is_c, is_d, is_e) refl in
    absurd (cc)

pub form_named : (key : List ℕ) (form : GuardForm) → lookup (bytes_eq key) forms_by_key ≡ Some form → bytes_eq key (form_key form) ≡ true
form_named key form found = named_by_tests key form _ _ _ _ _ refl refl refl refl refl found

-- a key that makes no form is that of none
other_by_test : (key : List ℕ) (form : GuardForm) (test : Bool) → bytes_eq key (form_key form) ≡ test → (lookup (bytes_eq key) forms_by_key ≡ None) → test ≡ false
other_by_test key form false is none = refl
other_by_test key form true is none =
    let same : key ≡ form_key form = (bytes_eq-Decides key (form_key form)).0 is in
    let there = by_form form in
    let both : Some form ≡ None = sym there ∙ ap (λ k. lookup (bytes_eq k) forms_by_key) (sym same) ∙ none in
    absurd (cc)
  where
    by_form : (f : GuardForm) → lookup (bytes_eq (form_key f)) forms_by_key ≡ Some f
    by_form Test = refl
    by_form And = refl
    by_form Or = refl
    by_form Not = refl
    by_form In = refl

pub no_form_more : (members : List MemberParts) (i : ℕ) (x : MemberParts) → slice_get members i ≡ Some x → HasNoForm (take i members)
    → lookup (bytes_eq x.key) forms_by_key ≡ None → HasNoForm (take (i + 1) members)
no_form_more members i x at before none = λ form.
    rw add-one (not_found (form_key form) members i x at (before form) (other_by_test x.key form (bytes_eq x.key (form_key form)) refl none))

-- ---- the parts of a guard

pub guards_more : (rows : List Node) (source : ℕ) (jsons : List OrderedJson) (guards : List UnlinkedGuard) (json : OrderedJson) (it : UnlinkedGuard)
    → MeansGuards rows source jsons guards → MeansGuard rows source json it → MeansGuards rows source (jsons ++ json ∷ []) (guards ++ it ∷ [])
guards_more rows source _ _ json it no_guard means = one_guard json it [] [] means no_guard
guards_more rows source _ _ json it (one_guard first one jsons guards is rest) means =
    one_guard first one (jsons ++ json ∷ []) (guards ++ it ∷ []) is (guards_more rows source jsons guards json it rest means)

-- ---- the guard of a form

-- what an object with these members means, in which the value stands under the key of the form
abbrev IsMeant : List Node → ℕ → GuardForm → List MemberParts → OrderedJson → UnlinkedGuard → Type 0
IsMeant rows source form members found it =
    (json : OrderedJson) → members_of json ≡ members → get (form_key form) (members_of json) ≡ Some found
    → IsFaultlessAs rows source role.Guard json → MeansGuard rows source json it

pub by_answer : (rows : List Node) (source : ℕ) (form : GuardForm) (members : List MemberParts) (found json : OrderedJson) (result : Result UnlinkedGuard AllocError)
    → members_of json ≡ members → get (form_key form) (members_of json) ≡ Some found
    → IfOk result (IsMeant rows source form members found) → IfOk result (λ it. IsFaultlessAs rows source role.Guard json → MeansGuard rows source json it)
by_answer rows source form members found json (Err e) same at means = tt
by_answer rows source form members found json (Ok it) same at means = means json same at

pub test_means : (rows : List Node) (source : ℕ) (form : GuardForm) (members : List MemberParts) (name : OrderedJson) (result : Result UnlinkedGuard AllocError) → form ≡ Test
    → IfOk result (λ it. it ≡ guard.Test (named_of name) (params_of members)) → IfOk result (IsMeant rows source form members name)
test_means rows source form members name (Err e) is_form is = tt
test_means rows source form members name (Ok it) is_form is = λ json same at sound.
    let P : UnlinkedGuard → Type 0 = λ g. MeansGuard rows source json g in
    let Q : List MemberParts → Type 0 = λ m. MeansGuard rows source json (guard.Test (named_of name) (params_of m)) in
    subst P (sym is) (subst Q same (with_type json name (rw is_form at at)))

pub and_means : (rows : List Node) (source : ℕ) (form : GuardForm) (members : List MemberParts) (list : OrderedJson) (parts : List UnlinkedGuard) → form ≡ And
    → (IsFaultlessAs rows source role.Guards list → MeansGuards rows source (items_of list) parts) → IsMeant rows source form members list (guard.And parts)
and_means rows source form members list parts is_form means = λ json same at sound.
    let there : get (codes "and") (members_of json) ≡ Some list = rw is_form at at in
    with_and json list parts there (means (of_member rows source role.Guard role.Guards json (codes "and") list sound there refl refl))

pub or_means : (rows : List Node) (source : ℕ) (form : GuardForm) (members : List MemberParts) (list : OrderedJson) (parts : List UnlinkedGuard) → form ≡ Or
    → (IsFaultlessAs rows source role.Guards list → MeansGuards rows source (items_of list) parts) → IsMeant rows source form members list (guard.Or parts)
or_means rows source form members list parts is_form means = λ json same at sound.
    let there : get (codes "or") (members_of json) ≡ Some list = rw is_form at at in
    with_or json list parts there (means (of_member rows source role.Guard role.Guards json (codes "or") list sound there refl refl))

pub not_means : (rows : List Node) (source : ℕ) (form : GuardForm) (members : List MemberParts) (inner : OrderedJson) (part boxed : UnlinkedGuard) → form ≡ Not → boxed ≡ part
    → (IsFaultlessAs rows source role.Guard inner → MeansGuard rows source inner part) → IsMeant rows source form members inner (guard.Not boxed)
not_means rows source form members inner part boxed is_form is means = λ json same at sound.
    let there : get (codes "not") (members_of json) ≡ Some inner = rw is_form at at in
    let P : UnlinkedGuard → Type 0 = λ g. MeansGuard rows source inner g in
    with_not json inner boxed there (subst P (sym is) (means (of_member rows source role.Guard role.Guard json (codes "not") inner sound there refl refl)))

pub led : (node : Option ℕ) → is_none node ≡ false → node ≡ Some (unwrap_or node 0)
led None is = absurd (cc)
led (Some n) is = refl

-- a text that has no fault leads to a node
pub leads : (rows : List Node) (source : ℕ) (text : OrderedJson) → (is_text text && is_none (led_to rows source text)) ≡ false → is_text text ≡ true → is_none (led_to rows source text) ≡ false
leads rows source text none is = (let both : (true && is_none (led_to rows source text)) ≡ false = ap (λ b. b && is_none (led_to rows source text)) (sym is) ∙ none in both)

pub state_means : (rows : List Node) (source : ℕ) (form : GuardForm) (members : List MemberParts) (text : OrderedJson) (node : ℕ) → form ≡ In
    → node ≡ unwrap_or (led_to rows source text) 0 → IsMeant rows source form members text (guard.In node)
state_means rows source form members text node is_form is = λ json same at sound.
    let there : get (codes "stateIn") (members_of json) ≡ Some text = rw is_form at at in
    let part = of_member rows source role.Guard role.Reference json (codes "stateIn") text sound there refl refl in
    let taken : takes role.Reference text ≡ true = is_taken rows source role.Reference text (λ fault has. has) part in
    let leads_on = leads rows source text (fails (is_text text && is_none (led_to rows source text)) (NoTarget (place_of text)) (λ fault has. part.second_pass fault (own_link role.Reference text fault has))) (text_with (as_text text) begins_with_hash taken) in
    let P : ℕ → Type 0 = λ n. MeansGuard rows source json (guard.In n) in
    subst P (sym is) (with_state json text (unwrap_or (led_to rows source text) 0) there (led (led_to rows source text) leads_on))
  where
    text_with : (t : Option (List ℕ)) (test : List ℕ → Bool) → option_map_or test t false ≡ true → is_some t ≡ true
    text_with None test h = absurd (cc)
    text_with (Some t) test h = refl
