-- That the implementations mean one table.
use Rattle.std.proofs.Common.{◌≡◌, ℕ, Bool, true, false, List, [], ◌∷◌, Option, None, Some, map, refl, sym, ap, subst, ◌∙◌, rules}
use Rattle.std.specs.Prelude.{codes, unwrap_or}
use Rattle.std.specs.Str.{bytes_eq}
use Rattle.std.specs.Option.{option_map_or}
use Rattle.ordered_json.specs.declared.json.Member.{Member}
use Rattle.ordered_json.specs.declared.json.OrderedJson.{OrderedJson, OrderedJson-F, out-OrderedJson}
use Rattle.ordered_json.specs.Words.{MemberParts, as_object, as_text, get, member_parts}
use Rattle.xs_model.specs.declared.expr.Expr.{Expr}
use Rattle.xs_model.specs.declared.action.Target.{Target}
use Rattle.xs_model.specs.declared.action.Target.TheVariants as target
use Rattle.machine_json.specs.declared.machine.Named.{Named}
use Rattle.machine_json.specs.Expressions.{MeansExpr}
use Rattle.machine_json.specs.Meaning.{listed}
use Rattle.machine_json.proofs.MeaningLemmas.{meaning-same}
use Rattle.action_table.specs.declared.role.Shape.{Shape}
use Rattle.action_table.specs.declared.role.Shape.TheVariants as shape
use Rattle.action_table.specs.declared.role.TableRole.TheVariants as role
use Rattle.action_table.specs.declared.table.Table.{Table}
use Rattle.action_table.specs.declared.table.TableActor.{TableActor}
use Rattle.action_table.specs.declared.table.TableActor.TheVariants as actor
use Rattle.action_table.specs.declared.table.UnlinkedForm.{UnlinkedForm, out-UnlinkedForm, the_lemmas as form_lemmas}
use Rattle.action_table.specs.declared.table.UnlinkedForm.TheOpen.{UnlinkedForm-F, UnlinkedItem-F}
use Rattle.action_table.specs.declared.table.UnlinkedItem.{UnlinkedItem, out-UnlinkedItem}
use Rattle.action_table.specs.Shapes.{members_in, shape_of}
use Rattle.action_table.specs.TableMeaning.{IsNameAt, MeanItems, MeansAction, MeansActions, MeansActor, MeansAs, MeansInTurn, MeansItem, MeansOptional, MeansPart, MeansParts, MeansTable, MeansTarget, MeansTargetPart, MeansUnder, an_item, as_choice, as_form, as_items, as_parts, firsts, items_under, members_under, no_item, shape_in}

-- ---- parts

part-same : (part : Option OrderedJson) (e f : Expr) → MeansPart part e → MeansPart part f → e ≡ f
part-same None e f a b = absurd a
part-same (Some json) e f a b = meaning-same json e f a b

optional-same : (part : Option OrderedJson) (e f : Option Expr) → MeansOptional part e → MeansOptional part f → e ≡ f
optional-same None None None a b = refl
optional-same None (Some e) f a b = absurd a
optional-same None None (Some f) a b = absurd b
optional-same (Some json) None f a b = absurd a
optional-same (Some json) (Some e) None a b = absurd b
optional-same (Some json) (Some e) (Some f) a b = ap (λ (x : Expr). Some x) (meaning-same json e f a b)

some-same : {X : Type 0} (x y : X) (o : Option X) → o ≡ Some x → o ≡ Some y → x ≡ y
some-same x y o a b = cc (a, b)

abbrev named_at : List ℕ → ℕ → Named
named_at name place = record { name = name; place = place }

named-same : (m n : Named) → m.name ≡ n.name → m.place ≡ n.place → m ≡ n
named-same m n names places = ap (λ (name : List ℕ). named_at name m.place) names ∙ ap (λ (place : ℕ). named_at n.name place) places

name-same : (part : Option OrderedJson) (m n : Named) → IsNameAt part m → IsNameAt part n → m ≡ n
name-same None m n a b = absurd a
name-same (Some json) m n a b = named-same m n (some-same m.name n.name (as_text json) a.0 b.0) (sym a.1 ∙ b.1)

cons-same : {X : Type 0} (x y : X) (xs ys : List X) → x ≡ y → xs ≡ ys → x ∷ xs ≡ y ∷ ys
cons-same x y xs ys first rest = cc (first, rest)

keyed-same : {X : Type 0} (k l : List ℕ) (x y : X) (ps qs : List (List ℕ × X)) → k ≡ l → x ≡ y → ps ≡ qs → (k, x) ∷ ps ≡ (l, y) ∷ qs
keyed-same k l x y ps qs keys values rest = cc (keys, values, rest)

under-same : {X : Type 0} (Means : OrderedJson → X → Type 0) → ((json : OrderedJson) (x y : X) → Means json x → Means json y → x ≡ y)
    → (members : List MemberParts) (ps qs : List (List ℕ × X)) → MeansUnder Means members ps → MeansUnder Means members qs → ps ≡ qs
under-same Means one [] [] [] a b = refl
under-same Means one [] (p ∷ ps) qs a b = absurd a
under-same Means one [] [] (q ∷ qs) a b = absurd b
under-same Means one (m ∷ ms) [] qs a b = absurd a
under-same Means one (m ∷ ms) (p ∷ ps) [] a b = absurd b
under-same Means one (m ∷ ms) (p ∷ ps) (q ∷ qs) a b =
    keyed-same p.0 q.0 p.1 q.1 ps qs (sym a.0 ∙ b.0) (one m.value p.1 q.1 a.1 b.1) (under-same Means one ms ps qs a.2 b.2)

turn-same : {X : Type 0} (Means : OrderedJson → X → Type 0) → ((json : OrderedJson) (x y : X) → Means json x → Means json y → x ≡ y)
    → (jsons : List OrderedJson) (xs ys : List X) → MeansInTurn Means jsons xs → MeansInTurn Means jsons ys → xs ≡ ys
turn-same Means one [] [] [] a b = refl
turn-same Means one [] (x ∷ xs) ys a b = absurd a
turn-same Means one [] [] (y ∷ ys) a b = absurd b
turn-same Means one (j ∷ js) [] ys a b = absurd a
turn-same Means one (j ∷ js) (x ∷ xs) [] a b = absurd b
turn-same Means one (j ∷ js) (x ∷ xs) (y ∷ ys) a b = cons-same x y xs ys (one j x y a.0 b.0) (turn-same Means one js xs ys a.1 b.1)

-- ---- targets

abbrev text_at : OrderedJson-F OrderedJson Member → Option (List ℕ)
text_at (OrderedJson-F.Text place text) = Some text
text_at _ = None

abbrev object_at : OrderedJson-F OrderedJson Member → Option (List MemberParts)
object_at (OrderedJson-F.Object place members) = Some (map member_parts members)
object_at _ = None

no_object-at : (layer : OrderedJson-F OrderedJson Member) (text : List ℕ) → text_at layer ≡ Some text → object_at layer ≡ None
no_object-at (OrderedJson-F.Object place members) text is = absurd (cc is)
no_object-at (OrderedJson-F.Null place) text is = refl
no_object-at (OrderedJson-F.Bool place truth) text is = refl
no_object-at (OrderedJson-F.Int place number) text is = refl
no_object-at (OrderedJson-F.Text place own) text is = refl
no_object-at (OrderedJson-F.List place items) text is = refl

text-no_object : (json : OrderedJson) (text : List ℕ) → as_text json ≡ Some text → as_object json ≡ None
text-no_object json text is = no_object-at (out-OrderedJson json) text is

-- a text has no members in which a target would be named
text-unnamed : (json : OrderedJson) (text : List ℕ) (form_shape : Shape) → as_text json ≡ Some text → shape_of role.Target (members_in role.Target json) ≡ Some form_shape → ⊥
text-unnamed json text form_shape is named =
    let unnamed : shape_of role.Target (members_in role.Target json) ≡ None = ap (λ (o : Option (List MemberParts)). shape_of role.Target (unwrap_or o [])) (text-no_object json text is) in
    absurd (cc (sym unnamed ∙ named))

self-parent : (o : Option (List ℕ)) → o ≡ Some (codes "self") → o ≡ Some (codes "parent") → ⊥
self-parent o self parent =
    let other : true ≡ false = ap (λ (t : Option (List ℕ)). option_map_or (bytes_eq (codes "self")) t true) (sym self ∙ parent) in
    absurd (cc other)

target-same : (json : OrderedJson) (s t : Target) → MeansTarget json s → MeansTarget json t → s ≡ t
target-same json target.Own target.Own a b = refl
target-same json target.Own target.Parent a b = absurd (self-parent (as_text json) a b)
target-same json target.Own (target.Child f) a b = absurd (text-unnamed json (codes "self") shape.Child a b.is_named)
target-same json target.Own (target.System f) a b = absurd (text-unnamed json (codes "self") shape.System a b.is_named)
target-same json target.Parent target.Own a b = absurd (self-parent (as_text json) b a)
target-same json target.Parent target.Parent a b = refl
target-same json target.Parent (target.Child f) a b = absurd (text-unnamed json (codes "parent") shape.Child a b.is_named)
target-same json target.Parent (target.System f) a b = absurd (text-unnamed json (codes "parent") shape.System a b.is_named)
target-same json (target.Child e) target.Own a b = absurd (text-unnamed json (codes "self") shape.Child b a.is_named)
target-same json (target.Child e) target.Parent a b = absurd (text-unnamed json (codes "parent") shape.Child b a.is_named)
target-same json (target.Child e) (target.Child f) a b = ap (λ (x : Expr). target.Child x) (part-same (get (codes "child") (members_in role.Target json)) e f a.part b.part)
target-same json (target.Child e) (target.System f) a b = absurd (cc (a.is_named, b.is_named))
target-same json (target.System e) target.Own a b = absurd (text-unnamed json (codes "self") shape.System b a.is_named)
target-same json (target.System e) target.Parent a b = absurd (text-unnamed json (codes "parent") shape.System b a.is_named)
target-same json (target.System e) (target.Child f) a b = absurd (cc (a.is_named, b.is_named))
target-same json (target.System e) (target.System f) a b = ap (λ (x : Expr). target.System x) (part-same (get (codes "system") (members_in role.Target json)) e f a.part b.part)

target_part-same : (part : Option OrderedJson) (s t : Target) → MeansTargetPart part s → MeansTargetPart part t → s ≡ t
target_part-same None s t a b = absurd a
target_part-same (Some json) s t a b = target-same json s t a b

-- ---- forms

-- a form is told by its layer
form-same : (f g : UnlinkedForm) → out-UnlinkedForm f ≡ out-UnlinkedForm g → f ≡ g
form-same f g is = search (rules, form_lemmas)

item_layer-same : (i j : UnlinkedItem) → out-UnlinkedItem i ≡ out-UnlinkedItem j → i ≡ j
item_layer-same i j is = search (rules, form_lemmas)

abbrev raised : Expr → Option Expr → Option Expr → UnlinkedForm-F UnlinkedForm UnlinkedItem
raised event delay id = UnlinkedForm-F.Raise event delay id

abbrev sent : Target → Expr → Option Expr → Option Expr → UnlinkedForm-F UnlinkedForm UnlinkedItem
sent to event delay id = UnlinkedForm-F.SendTo to event delay id

abbrev spawned : Named → Option Expr → Option Expr → Option Expr → UnlinkedForm-F UnlinkedForm UnlinkedItem
spawned src id input system = UnlinkedForm-F.SpawnChild src id input system

raise-same : (a b : Expr) (c d e f : Option Expr) → a ≡ b → c ≡ d → e ≡ f → raised a c e ≡ raised b d f
raise-same a b c d e f x y z = cc (x, y, z)

send-same : (s t : Target) (a b : Expr) (c d e f : Option Expr) → s ≡ t → a ≡ b → c ≡ d → e ≡ f → sent s a c e ≡ sent t b d f
send-same s t a b c d e f w x y z = cc (w, x, y, z)

spawn-same : (m n : Named) (a b c d e f : Option Expr) → m ≡ n → a ≡ b → c ≡ d → e ≡ f → spawned m a c e ≡ spawned n b d f
spawn-same m n a b c d e f w x y z = cc (w, x, y, z)

parts-same : (members : List MemberParts) (f g : UnlinkedForm-F UnlinkedForm UnlinkedItem) → shape_in f ≡ shape_in g → MeansParts members f → MeansParts members g → f ≡ g
parts-same members (UnlinkedForm-F.EnqueueActions items) g is a b = absurd a
parts-same members (UnlinkedForm-F.Assign v) (UnlinkedForm-F.Assign w) is a b =
    ap (λ (l : List (List ℕ × Expr)). UnlinkedForm-F.Assign l) (under-same MeansExpr meaning-same (members_under (codes "assign") members) v w a b)
parts-same members (UnlinkedForm-F.Raise e d i) (UnlinkedForm-F.Raise f k j) is a b =
    raise-same e f d k i j (part-same (get (codes "raise") members) e f a.0 b.0) (optional-same (get (codes "delay") members) d k a.1 b.1) (optional-same (get (codes "id") members) i j a.2 b.2)
parts-same members (UnlinkedForm-F.SendTo s e d i) (UnlinkedForm-F.SendTo t f k j) is a b =
    send-same s t e f d k i j (target_part-same (get (codes "sendTo") members) s t a.0 b.0) (part-same (get (codes "event") members) e f a.1 b.1)
    (optional-same (get (codes "delay") members) d k a.2 b.2) (optional-same (get (codes "id") members) i j a.3 b.3)
parts-same members (UnlinkedForm-F.Cancel e) (UnlinkedForm-F.Cancel f) is a b =
    ap (λ (x : Expr). UnlinkedForm-F.Cancel x) (part-same (get (codes "cancel") members) e f a b)
parts-same members (UnlinkedForm-F.SpawnChild m i p s) (UnlinkedForm-F.SpawnChild n j q t) is a b =
    spawn-same m n i j p q s t (name-same (get (codes "spawnChild") members) m n a.0 b.0) (optional-same (get (codes "id") members) i j a.1 b.1)
    (optional-same (get (codes "input") members) p q a.2 b.2) (optional-same (get (codes "systemId") members) s t a.3 b.3)
parts-same members (UnlinkedForm-F.StopChild e) (UnlinkedForm-F.StopChild f) is a b =
    ap (λ (x : Expr). UnlinkedForm-F.StopChild x) (part-same (get (codes "stopChild") members) e f a b)
parts-same members f g is a b = absurd (cc is)

as-same : (form_shape : Shape) (members : List MemberParts) (f g : UnlinkedForm) → MeansAs form_shape members f → MeansAs form_shape members g → f ≡ g
as-same form_shape members f g a b = form-same f g (parts-same members (out-UnlinkedForm f) (out-UnlinkedForm g) (a.is_named ∙ sym b.is_named) a.parts b.parts)

-- whether a shape is that of a form that is told by its parts alone
abbrev is_plain : Shape → Bool
is_plain shape.EnqueueActions = false
is_plain shape.If = false
is_plain _ = true

plain-layer : (members : List MemberParts) (layer : UnlinkedForm-F UnlinkedForm UnlinkedItem) → MeansParts members layer → is_plain (shape_in layer) ≡ true
plain-layer members (UnlinkedForm-F.Assign v) a = refl
plain-layer members (UnlinkedForm-F.Raise e d i) a = refl
plain-layer members (UnlinkedForm-F.SendTo s e d i) a = refl
plain-layer members (UnlinkedForm-F.Cancel e) a = refl
plain-layer members (UnlinkedForm-F.SpawnChild m i p s) a = refl
plain-layer members (UnlinkedForm-F.StopChild e) a = refl
plain-layer members (UnlinkedForm-F.EnqueueActions items) a = absurd a

-- such a form is neither `enqueueActions` nor a choice
not-plain : (form_shape other : Shape) (members : List MemberParts) (form : UnlinkedForm) (named : Option Shape) → MeansAs form_shape members form → named ≡ Some form_shape → named ≡ Some other → is_plain other ≡ false → ⊥
not-plain form_shape other members form named it is other_is other_not =
    let plain : is_plain form_shape ≡ true = ap is_plain (sym it.is_named) ∙ plain-layer members (out-UnlinkedForm form) it.parts in
    absurd (cc (plain, other_not, some-same form_shape other named is other_is))

-- ---- items, and actions

abbrev chosen : Expr → List UnlinkedItem → List UnlinkedItem → UnlinkedItem-F UnlinkedForm UnlinkedItem
chosen test thens elses = UnlinkedItem-F.If test thens elses

choice-same : (e f : Expr) (thens others elses rest : List UnlinkedItem) → e ≡ f → thens ≡ others → elses ≡ rest → chosen e thens elses ≡ chosen f others rest
choice-same e f thens others elses rest x y z = cc (x, y, z)

mutual
  item-same : (members : List MemberParts) (i j : UnlinkedItem) → MeansItem members i → MeansItem members j → i ≡ j
  item-same members i j (as_form _ _ f s is named it) (as_form _ _ g t other_is other_named other) =
      item_layer-same i j (is ∙ ap (λ (x : UnlinkedForm). UnlinkedItem-F.Do x)
      (as-same s members f g it (subst (λ (x : Shape). MeansAs x members g) (some-same t s (shape_of role.Item members) other_named named) other)) ∙ sym other_is)
  item-same members i j (as_form _ _ f s is named it) (as_choice _ _ test thens elses other_is other_named _ _ _) =
      absurd (not-plain s shape.If members f (shape_of role.Item members) it named other_named refl)
  item-same members i j (as_choice _ _ test thens elses is named _ _ _) (as_form _ _ g t other_is other_named other) =
      absurd (not-plain t shape.If members g (shape_of role.Item members) other other_named named refl)
  item-same members i j (as_choice _ _ e thens elses is named test each_then each_else) (as_choice _ _ f others rest other_is other_named other_test other_then other_else) =
      item_layer-same i j (is ∙ choice-same e f thens others elses rest (part-same (get (codes "if") members) e f test other_test)
      (items-same (items_under (codes "then") members) thens others each_then other_then)
      (items-same (items_under (codes "else") members) elses rest each_else other_else) ∙ sym other_is)

  items-same : (jsons : List OrderedJson) (is js : List UnlinkedItem) → MeanItems jsons is → MeanItems jsons js → is ≡ js
  items-same _ _ _ no_item no_item = refl
  items-same _ _ _ (an_item json i jsons is it each) (an_item _ j _ js other other_each) =
      cons-same i j is js (item-same (members_in role.Item json) i j it other) (items-same jsons is js each other_each)

action-same : (members : List MemberParts) (f g : UnlinkedForm) → MeansAction members f → MeansAction members g → f ≡ g
action-same members f g (as_parts _ _ s named it) (as_parts _ _ t other_named other) =
    as-same s members f g it (subst (λ (x : Shape). MeansAs x members g) (some-same t s (shape_of role.Form members) other_named named) other)
action-same members f g (as_parts _ _ s named it) (as_items _ _ items is other_named each) =
    absurd (not-plain s shape.EnqueueActions members f (shape_of role.Form members) it named other_named refl)
action-same members f g (as_items _ _ items is named each) (as_parts _ _ t other_named other) =
    absurd (not-plain t shape.EnqueueActions members g (shape_of role.Form members) other other_named named refl)
action-same members f g (as_items _ _ items is named each) (as_items _ _ others other_is other_named other_each) =
    form-same f g (is ∙ ap (λ (l : List UnlinkedItem). UnlinkedForm-F.EnqueueActions l) (items-same (items_under (codes "enqueueActions") members) items others each other_each) ∙ sym other_is)

actions-same : (json : OrderedJson) (fs gs : List UnlinkedForm) → MeansActions json fs → MeansActions json gs → fs ≡ gs
actions-same json fs gs a b =
    turn-same (λ (part : OrderedJson). MeansAction (members_in role.Form part)) (λ (part : OrderedJson) (f g : UnlinkedForm). action-same (members_in role.Form part) f g) (listed json) fs gs a b

-- ---- actors, and the table

actor-same : (json : OrderedJson) (x y : TableActor) → MeansActor json x → MeansActor json y → x ≡ y
actor-same json (actor.Machine m) (actor.Machine n) a b = ap (λ (named : Named). actor.Machine named) (name-same (get (codes "machine") (members_in role.Actor json)) m n a.1 b.1)
actor-same json (actor.Machine m) actor.Promise a b = absurd (cc (a.0, b))
actor-same json actor.Promise (actor.Machine n) a b = absurd (cc (a, b.0))
actor-same json actor.Promise actor.Promise a b = refl

abbrev table_with : List (List ℕ × Expr) → List (List ℕ × List UnlinkedForm) → List (List ℕ × Expr) → List (List ℕ × TableActor) → Table
table_with guards actions delays actors = record { guards = guards; actions = actions; delays = delays; actors = actors }

all-same : (a b : List (List ℕ × Expr)) (c d : List (List ℕ × List UnlinkedForm)) (e f : List (List ℕ × Expr)) (g h : List (List ℕ × TableActor)) → a ≡ b → c ≡ d → e ≡ f → g ≡ h → table_with a c e g ≡ table_with b d f h
all-same a b c d e f g h w x y z =
    ap (λ (l : List (List ℕ × Expr)). table_with l c e g) w ∙ ap (λ (l : List (List ℕ × List UnlinkedForm)). table_with b l e g) x
    ∙ ap (λ (l : List (List ℕ × Expr)). table_with b d l g) y ∙ ap (λ (l : List (List ℕ × TableActor)). table_with b d f l) z

pub table-same : (members : List MemberParts) (t u : Table) → MeansTable members t → MeansTable members u → t ≡ u
table-same members t u a b =
    all-same t.guards u.guards t.actions u.actions t.delays u.delays t.actors u.actors
    (under-same MeansExpr meaning-same (firsts (members_under (codes "guards") members)) t.guards u.guards a.guards b.guards)
    (under-same MeansActions actions-same (firsts (members_under (codes "actions") members)) t.actions u.actions a.actions b.actions)
    (under-same MeansExpr meaning-same (firsts (members_under (codes "delays") members)) t.delays u.delays a.delays b.delays)
    (under-same MeansActor actor-same (firsts (members_under (codes "actors") members)) t.actors u.actors a.actors b.actors)
