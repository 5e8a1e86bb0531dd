-- What the parts of a table mean, one more at a time.
use Rattle.std.proofs.Common.{◌≡◌, ℕ, ◌+◌, ◌<◌, Bool, true, false, ◌||◌, cond, List, [], ◌∷◌, ◌++◌, Option, None, Some, map, find, take, drop, get_or, length, ◌≤◌, refl, sym, ap, subst, ◌∙◌, rules}
use Rattle.std.specs.Prelude.{IfOk, Result, Ok, Err, is_some, unwrap_or, codes, option_map, option_and_then, if◌then◌else◌}
use Rattle.std.specs.declared.alloc.AllocError.{AllocError}
use Rattle.std.specs.List.{list_any}
use Rattle.std.specs.Str.{bytes_eq}
use Rattle.std.proofs.lemmas.List.{at_drop_all, at_drop_more, map-append, take_more}
use Rattle.std.proofs.lemmas.List.Sums.{fold-append}
use Rattle.ordered_json.specs.declared.json.Member.{Member}
use Rattle.ordered_json.specs.declared.json.OrderedJson.{OrderedJson, OrderedJson-F, out-OrderedJson, the_lemmas as json_lemmas}
use Rattle.ordered_json.specs.declared.json.OrderedJson.TheVariants as json
use Rattle.ordered_json.specs.Words.{MemberParts, as_list, get, member_parts}
use Rattle.xs_model.specs.Rising.{get as held}
use Rattle.xs_model.specs.declared.expr.Expr.{Expr}
use Rattle.xs_model.specs.declared.action.Target.{Target}
use Rattle.machine_json.specs.declared.machine.Named.{Named}
use Rattle.machine_json.specs.Expressions.{MeansExpr}
use Rattle.action_table.specs.declared.role.Shape.{Shape}
use Rattle.action_table.specs.declared.role.Shape.TheVariants as shape
use Rattle.action_table.specs.declared.role.TableRole.TheVariants as role
use Rattle.action_table.specs.declared.table.UnlinkedForm.{UnlinkedForm, out-UnlinkedForm, the_lemmas as form_lemmas}
use Rattle.action_table.specs.declared.table.UnlinkedForm.TheOpen.{UnlinkedForm-F}
use Rattle.action_table.specs.declared.table.UnlinkedForm.TheVariants as form
use Rattle.action_table.specs.declared.table.UnlinkedItem.{UnlinkedItem}
use Rattle.action_table.specs.declared.table.UnlinkedItem.TheVariants as item
use Rattle.action_table.specs.Shapes.{members_in, shape_of}
use Rattle.action_table.specs.TableMeaning.{IsNameAt, MeanItems, MeansAction, MeansAs, MeansInTurn, MeansItem, MeansNames, MeansOptional, MeansPart, MeansParts, MeansTargetPart, MeansUnder, an_item, as_choice, as_form, as_items, as_parts, firsts, items_under, members_under, no_item, shape_in, with_new_key}

-- ---- one more

pub under-push : {X : Type 0} (Means : OrderedJson → X → Type 0) (members : List MemberParts) (pairs : List (List ℕ × X)) (member : MemberParts) (x : X) → MeansUnder Means members pairs → Means member.value x → MeansUnder Means (members ++ member ∷ []) (pairs ++ (member.key, x) ∷ [])
under-push Means [] [] member x h it = (refl, it, tt)
under-push Means [] (p ∷ ps) member x h it = absurd h
under-push Means (m ∷ ms) [] member x h it = absurd h
under-push Means (m ∷ ms) (p ∷ ps) member x h it = (h.0, h.1, under-push Means ms ps member x h.2 it)

pub turn-push : {X : Type 0} (Means : OrderedJson → X → Type 0) (jsons : List OrderedJson) (xs : List X) (json : OrderedJson) (x : X) → MeansInTurn Means jsons xs → Means json x → MeansInTurn Means (jsons ++ json ∷ []) (xs ++ x ∷ [])
turn-push Means [] [] json x h it = (it, tt)
turn-push Means [] (y ∷ ys) json x h it = absurd h
turn-push Means (j ∷ js) [] json x h it = absurd h
turn-push Means (j ∷ js) (y ∷ ys) json x h it = (h.0, turn-push Means js ys json x h.1 it)

pub items-push : (jsons : List OrderedJson) (items : List UnlinkedItem) (json : OrderedJson) (one : UnlinkedItem) → MeanItems jsons items → MeansItem (members_in role.Item json) one → MeanItems (jsons ++ json ∷ []) (items ++ one ∷ [])
items-push _ _ json one no_item it = an_item json one [] [] it no_item
items-push _ _ json one (an_item j i js is it_too each) it = an_item j i (js ++ json ∷ []) (is ++ one ∷ []) it_too (items-push js is json one each it)

-- ---- one more of those that a loop has been over

pub members-taken : (members : List Member) (i : ℕ) (member : Member) → i < length members → member ≡ get_or members i member → map member_parts (take (i + 1) members) ≡ map member_parts (take i members) ++ member_parts member ∷ []
members-taken members i member below is =
    ap (λ (l : List Member). map member_parts l) (take_more members i member below ∙ ap (λ (m : Member). take i members ++ m ∷ []) (sym is))
    ∙ map-append member_parts (take i members) (member ∷ [])

pub jsons-taken : (jsons : List OrderedJson) (i : ℕ) (json : OrderedJson) → i < length jsons → json ≡ get_or jsons i json → take (i + 1) jsons ≡ take i jsons ++ json ∷ []
jsons-taken jsons i json below is = take_more jsons i json below ∙ ap (λ (j : OrderedJson). take i jsons ++ j ∷ []) (sym is)

pub under-more : {X : Type 0} (Means : OrderedJson → X → Type 0) (members : List Member) (i : ℕ) (member : Member) (pairs new : List (List ℕ × X)) (key : List ℕ) (x : X) → i < length members → member ≡ get_or members i member
    → MeansUnder Means (map member_parts (take i members)) pairs → key ≡ (member_parts member).key → Means (member_parts member).value x → new ≡ pairs ++ (key, x) ∷ []
    → MeansUnder Means (map member_parts (take (i + 1) members)) new
under-more {X} Means members i member pairs new key x below is h key_is it new_is =
    subst (λ (ms : List MemberParts). MeansUnder Means ms new) (sym (members-taken members i member below is))
    (subst (λ (ps : List (List ℕ × X)). MeansUnder Means (map member_parts (take i members) ++ member_parts member ∷ []) ps)
    (sym (new_is ∙ ap (λ (k : List ℕ). pairs ++ (k, x) ∷ []) key_is))
    (under-push Means (map member_parts (take i members)) pairs (member_parts member) x h it))

pub turn-more : {X : Type 0} (Means : OrderedJson → X → Type 0) (jsons : List OrderedJson) (i : ℕ) (json : OrderedJson) (xs new : List X) (x : X) → i < length jsons → json ≡ get_or jsons i json
    → MeansInTurn Means (take i jsons) xs → Means json x → new ≡ xs ++ x ∷ [] → MeansInTurn Means (take (i + 1) jsons) new
turn-more {X} Means jsons i json xs new x below is h it new_is =
    subst (λ (js : List OrderedJson). MeansInTurn Means js new) (sym (jsons-taken jsons i json below is))
    (subst (λ (ys : List X). MeansInTurn Means (take i jsons ++ json ∷ []) ys) (sym new_is)
    (turn-push Means (take i jsons) xs json x h it))

pub each-more : (jsons : List OrderedJson) (i : ℕ) (json : OrderedJson) (items new : List UnlinkedItem) (one : UnlinkedItem) → i < length jsons → json ≡ get_or jsons i json
    → MeanItems (take i jsons) items → MeansItem (members_in role.Item json) one → new ≡ items ++ one ∷ [] → MeanItems (take (i + 1) jsons) new
each-more jsons i json items new one below is h it new_is =
    subst (λ (js : List OrderedJson). MeanItems js new) (sym (jsons-taken jsons i json below is))
    (subst (λ (ys : List UnlinkedItem). MeanItems (take i jsons ++ json ∷ []) ys) (sym new_is)
    (items-push (take i jsons) items json one h it))

-- ---- forms

of-layer : (form_shape : Shape) (members : List MemberParts) (whole : UnlinkedForm) (layer : UnlinkedForm-F UnlinkedForm UnlinkedItem) → out-UnlinkedForm whole ≡ layer → shape_in layer ≡ form_shape → MeansParts members layer → MeansAs form_shape members whole
of-layer form_shape members whole layer is named parts = record {
  is_named = ap (λ (l : UnlinkedForm-F UnlinkedForm UnlinkedItem). shape_in l) is ∙ named;
  parts = subst (λ (l : UnlinkedForm-F UnlinkedForm UnlinkedItem). MeansParts members l) (sym is) parts;
}

pub assign-means : (members : List MemberParts) (values : List (List ℕ × Expr)) → MeansUnder MeansExpr (members_under (codes "assign") members) values → MeansAs shape.Assign members (form.Assign values)
assign-means members values it = of-layer shape.Assign members (form.Assign values) (UnlinkedForm-F.Assign values) (search (rules, form_lemmas)) refl it

pub raise-means : (members : List MemberParts) (event : Expr) (delay id : Option Expr) → MeansPart (get (codes "raise") members) event → MeansOptional (get (codes "delay") members) delay → MeansOptional (get (codes "id") members) id → MeansAs shape.Raise members (form.Raise event delay id)
raise-means members event delay id a b c = of-layer shape.Raise members (form.Raise event delay id) (UnlinkedForm-F.Raise event delay id) (search (rules, form_lemmas)) refl (a, b, c)

pub send-means : (members : List MemberParts) (to : Target) (event : Expr) (delay id : Option Expr) → MeansTargetPart (get (codes "sendTo") members) to → MeansPart (get (codes "event") members) event → MeansOptional (get (codes "delay") members) delay → MeansOptional (get (codes "id") members) id → MeansAs shape.SendTo members (form.SendTo to event delay id)
send-means members to event delay id t a b c = of-layer shape.SendTo members (form.SendTo to event delay id) (UnlinkedForm-F.SendTo to event delay id) (search (rules, form_lemmas)) refl (t, a, b, c)

pub cancel-means : (members : List MemberParts) (id : Expr) → MeansPart (get (codes "cancel") members) id → MeansAs shape.Cancel members (form.Cancel id)
cancel-means members id it = of-layer shape.Cancel members (form.Cancel id) (UnlinkedForm-F.Cancel id) (search (rules, form_lemmas)) refl it

pub spawn-means : (members : List MemberParts) (src : Named) (id input system : Option Expr) → IsNameAt (get (codes "spawnChild") members) src → MeansOptional (get (codes "id") members) id → MeansOptional (get (codes "input") members) input → MeansOptional (get (codes "systemId") members) system → MeansAs shape.SpawnChild members (form.SpawnChild src id input system)
spawn-means members src id input system t a b c = of-layer shape.SpawnChild members (form.SpawnChild src id input system) (UnlinkedForm-F.SpawnChild src id input system) (search (rules, form_lemmas)) refl (t, a, b, c)

pub stop-means : (members : List MemberParts) (id : Expr) → MeansPart (get (codes "stopChild") members) id → MeansAs shape.StopChild members (form.StopChild id)
stop-means members id it = of-layer shape.StopChild members (form.StopChild id) (UnlinkedForm-F.StopChild id) (search (rules, form_lemmas)) refl it

pub enqueue-means : (members : List MemberParts) (items : List UnlinkedItem) → shape_of role.Form members ≡ Some shape.EnqueueActions → MeanItems (items_under (codes "enqueueActions") members) items → MeansAction members (form.EnqueueActions items)
enqueue-means members items named each = as_items members (form.EnqueueActions items) items (search (rules, form_lemmas)) named each

-- a fact of what a call gave, where it follows from another
given : {X : Type 0} (P Q : X → Type 0) (r : Result X AllocError) → ((x : X) → P x → Q x) → IfOk r P → IfOk r Q
given P Q (Ok x) follows h = follows x h
given P Q (Err e) follows h = h

pub parts-mean : (members : List MemberParts) (form_shape : Shape) (r : Result UnlinkedForm AllocError) → shape_of role.Form members ≡ Some form_shape → IfOk r (λ (one : UnlinkedForm). MeansAs form_shape members one) → IfOk r (λ (one : UnlinkedForm). MeansAction members one)
parts-mean members form_shape r named h =
    given (λ (one : UnlinkedForm). MeansAs form_shape members one) (λ (one : UnlinkedForm). MeansAction members one) r
    (λ (one : UnlinkedForm) (it : MeansAs form_shape members one). as_parts members one form_shape named it) h

-- ---- items

pub do-means : (members : List MemberParts) (one : UnlinkedForm) (form_shape : Shape) → shape_of role.Item members ≡ Some form_shape → MeansAs form_shape members one → MeansItem members (item.Do one)
do-means members one form_shape named it = as_form members (item.Do one) one form_shape (search (rules, form_lemmas)) named it

pub choice-means : (members : List MemberParts) (test : Expr) (then_items else_items : List UnlinkedItem) → shape_of role.Item members ≡ Some shape.If → MeansPart (get (codes "if") members) test → MeanItems (items_under (codes "then") members) then_items → MeanItems (items_under (codes "else") members) else_items → MeansItem members (item.If test then_items else_items)
choice-means members test then_items else_items named it thens elses = as_choice members (item.If test then_items else_items) test then_items else_items (search (rules, form_lemmas)) named it thens elses

-- the members of an object that is an item
pub item-members : (place : ℕ) (members : List Member) → members_in role.Item (json.Object place members) ≡ map member_parts members
item-members place members = search (rules, json_lemmas)

-- ---- the value under a key, by what is left of the members

here : (key : List ℕ) (m : MemberParts) (ms : List MemberParts) → bytes_eq m.key key ≡ true → get key (m ∷ ms) ≡ Some m.value
here key m ms is = ap (λ (b : Bool). option_map (λ (x : MemberParts). x.value) (cond b (Some m) (find (λ (x : MemberParts). bytes_eq x.key key) ms))) is

not_here : (key : List ℕ) (m : MemberParts) (ms : List MemberParts) → bytes_eq m.key key ≡ false → get key (m ∷ ms) ≡ get key ms
not_here key m ms is = ap (λ (b : Bool). option_map (λ (x : MemberParts). x.value) (cond b (Some m) (find (λ (x : MemberParts). bytes_eq x.key key) ms))) is

left : (key : List ℕ) (members : List Member) (i : ℕ) (member : Member) → i < length members → member ≡ get_or members i member
    → get key (map member_parts (drop i members)) ≡ get key (member_parts member ∷ map member_parts (drop (i + 1) members))
left key members i member below is =
    at_drop_more (λ (ms : List Member). get key (map member_parts ms)) members i member below
    ∙ ap (λ (m : Member). get key (member_parts m ∷ map member_parts (drop (i + 1) members))) (sym is)

pub found-here : (key : List ℕ) (members : List Member) (i : ℕ) (member : Member) → get key (map member_parts members) ≡ get key (map member_parts (drop i members)) → i < length members → member ≡ get_or members i member → bytes_eq (member_parts member).key key ≡ true → get key (map member_parts members) ≡ Some (member_parts member).value
found-here key members i member so_far below is same = so_far ∙ left key members i member below is ∙ here key (member_parts member) (map member_parts (drop (i + 1) members)) same

pub not-found-here : (key : List ℕ) (members : List Member) (i : ℕ) (member : Member) → get key (map member_parts members) ≡ get key (map member_parts (drop i members)) → i < length members → member ≡ get_or members i member → bytes_eq (member_parts member).key key ≡ false → get key (map member_parts members) ≡ get key (map member_parts (drop (i + 1) members))
not-found-here key members i member so_far below is other = so_far ∙ left key members i member below is ∙ not_here key (member_parts member) (map member_parts (drop (i + 1) members)) other

pub found-nowhere : (key : List ℕ) (members : List Member) (i : ℕ) → get key (map member_parts members) ≡ get key (map member_parts (drop i members)) → length members ≤ i → get key (map member_parts members) ≡ None
found-nowhere key members i so_far end = so_far ∙ at_drop_all (λ (ms : List Member). get key (map member_parts ms)) members i end

-- the items under a key, by the value there
pub items-there : (key : List ℕ) (members : List MemberParts) (value : OrderedJson) → get key members ≡ Some value → items_under key members ≡ unwrap_or (as_list value) []
items-there key members value is = ap (λ (o : Option OrderedJson). unwrap_or (option_and_then as_list o) []) is

pub items-missing : (key : List ℕ) (members : List MemberParts) → get key members ≡ None → items_under key members ≡ []
items-missing key members is = ap (λ (o : Option OrderedJson). unwrap_or (option_and_then as_list o) []) is

-- a value that is no list has no items
json-same : (one other : OrderedJson) → out-OrderedJson one ≡ out-OrderedJson other → one ≡ other
json-same one other is = search (rules, json_lemmas)

list-layer : (place : ℕ) (items : List OrderedJson) → out-OrderedJson (json.List place items) ≡ OrderedJson-F.List place items
list-layer place items = search (rules, json_lemmas)

abbrev list_at : OrderedJson-F OrderedJson Member → Option (List OrderedJson)
list_at (OrderedJson-F.List place items) = Some items
list_at _ = None

no_list-at : (value : OrderedJson) (layer : OrderedJson-F OrderedJson Member) → out-OrderedJson value ≡ layer → ((place : ℕ) (items : List OrderedJson) → value ≡ json.List place items → ⊥) → list_at layer ≡ None
no_list-at value (OrderedJson-F.List place items) is no_list = absurd (no_list place items (json-same value (json.List place items) (is ∙ sym (list-layer place items))))
no_list-at value (OrderedJson-F.Null place) is no_list = refl
no_list-at value (OrderedJson-F.Bool place truth) is no_list = refl
no_list-at value (OrderedJson-F.Int place number) is no_list = refl
no_list-at value (OrderedJson-F.Text place text) is no_list = refl
no_list-at value (OrderedJson-F.Object place members) is no_list = refl

not-list : (value : OrderedJson) → ((place : ℕ) (items : List OrderedJson) → value ≡ json.List place items → ⊥) → as_list value ≡ None
not-list value no_list = no_list-at value (out-OrderedJson value) refl no_list

pub no-items : (key : List ℕ) (members : List MemberParts) (items : List UnlinkedItem) → items_under key members ≡ [] → items ≡ [] → MeanItems (items_under key members) items
no-items key members items none empty =
    subst (λ (jsons : List OrderedJson). MeanItems jsons items) (sym none) (subst (λ (l : List UnlinkedItem). MeanItems [] l) (sym empty) no_item)

pub of-no_list : (key : List ℕ) (members : List MemberParts) (value : OrderedJson) (items : List UnlinkedItem) → get key members ≡ Some value → ((place : ℕ) (list : List OrderedJson) → value ≡ json.List place list → ⊥) → items ≡ [] → MeanItems (items_under key members) items
of-no_list key members value items is no_list empty =
    no-items key members items (items-there key members value is ∙ ap (λ (o : Option (List OrderedJson)). unwrap_or o []) (not-list value no_list)) empty

-- ---- names

either : {X : Type 0} (b c : Bool) (x : X) (o : Option X) → c ≡ is_some o → (b || c) ≡ is_some (cond b (Some x) o)
either true c x o is = refl
either false c x o is = is

-- a name is held where a member has it
pub under-held : {X : Type 0} (Means : OrderedJson → X → Type 0) (key : List ℕ) (members : List MemberParts) (pairs : List (List ℕ × X)) → MeansUnder Means members pairs → list_any (λ (m : MemberParts). bytes_eq key m.key) members ≡ is_some (held key pairs)
under-held Means key [] [] h = refl
under-held Means key [] (p ∷ ps) h = absurd h
under-held Means key (m ∷ ms) [] h = absurd h
under-held Means key (m ∷ ms) (p ∷ ps) h =
    ap (λ (k : List ℕ). bytes_eq key k || list_any (λ (x : MemberParts). bytes_eq key x.key) ms) h.0
    ∙ either (bytes_eq key p.0) (list_any (λ (x : MemberParts). bytes_eq key x.key) ms) p.1 (held key ps) (under-held Means key ms ps h.2)

firsts-more : (members : List MemberParts) (member : MemberParts) → firsts (members ++ member ∷ []) ≡ with_new_key (firsts members) member
firsts-more members member = fold-append with_new_key [] members (member ∷ [])

pub names-old : {X : Type 0} (Means : OrderedJson → X → Type 0) (members : List MemberParts) (names : List (List ℕ × X)) (member : MemberParts) → MeansNames Means members names → is_some (held member.key names) ≡ true → MeansNames Means (members ++ member ∷ []) names
names-old Means members names member h old =
    subst (λ (ms : List MemberParts). MeansUnder Means ms names)
    (sym (firsts-more members member ∙ ap (λ (b : Bool). if b then firsts members else firsts members ++ member ∷ []) (under-held Means member.key (firsts members) names h ∙ old))) h

pub names-new : {X : Type 0} (Means : OrderedJson → X → Type 0) (members : List MemberParts) (names : List (List ℕ × X)) (member : MemberParts) (x : X) → MeansNames Means members names → is_some (held member.key names) ≡ false → Means member.value x → MeansNames Means (members ++ member ∷ []) (names ++ (member.key, x) ∷ [])
names-new Means members names member x h fresh it =
    subst (λ (ms : List MemberParts). MeansUnder Means ms (names ++ (member.key, x) ∷ []))
    (sym (firsts-more members member ∙ ap (λ (b : Bool). if b then firsts members else firsts members ++ member ∷ []) (under-held Means member.key (firsts members) names h ∙ fresh)))
    (under-push Means (firsts members) names member x h it)

-- a loop over members keeps the names of those that it has been over
pub names-kept : {X : Type 0} (Means : OrderedJson → X → Type 0) (members : List Member) (i : ℕ) (member : Member) (names : List (List ℕ × X)) → i < length members → member ≡ get_or members i member
    → MeansNames Means (map member_parts (take i members)) names → is_some (held (member_parts member).key names) ≡ true → MeansNames Means (map member_parts (take (i + 1) members)) names
names-kept Means members i member names below is h old =
    subst (λ (ms : List MemberParts). MeansNames Means ms names) (sym (members-taken members i member below is))
    (names-old Means (map member_parts (take i members)) names (member_parts member) h old)

pub names-more : {X : Type 0} (Means : OrderedJson → X → Type 0) (members : List Member) (i : ℕ) (member : Member) (names new : List (List ℕ × X)) (x : X) → i < length members → member ≡ get_or members i member
    → MeansNames Means (map member_parts (take i members)) names → is_some (held (member_parts member).key names) ≡ false → Means (member_parts member).value x → new ≡ names ++ ((member_parts member).key, x) ∷ []
    → MeansNames Means (map member_parts (take (i + 1) members)) new
names-more {X} Means members i member names new x below is h fresh it new_is =
    subst (λ (ms : List MemberParts). MeansNames Means ms new) (sym (members-taken members i member below is))
    (subst (λ (ps : List (List ℕ × X)). MeansNames Means (map member_parts (take i members) ++ member_parts member ∷ []) ps) (sym new_is)
    (names-new Means (map member_parts (take i members)) names (member_parts member) x h fresh it))
