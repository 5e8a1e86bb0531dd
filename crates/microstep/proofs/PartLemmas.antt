-- What the parts of actions give is within its limits.
use Rattle.std.proofs.Common.{◌≡◌, ◌≤◌, ℕ, Bool, true, false, IsTrue, List, Option, Some, None, Ok, Err, IfSome, if◌then◌else◌, nat_le, pos, negsuc, refl, subst, rules}
use Rattle.std.proofs.lemmas.Bool.{leb-true}
use Rattle.xs_model.specs.declared.expr.Expr.{Expr}
use Rattle.xs_model.specs.declared.value.Value.{Value, out-Value, the_lemmas}
use Rattle.xs_model.specs.declared.value.Value.TheVariants as value
use Rattle.xs_model.specs.declared.value.Value.TheOpen.{Value-F}
use Rattle.xs_model.specs.Eval.{Scope}
use Rattle.office_types.specs.declared.limits.TheConstants.{MAX_MOMENT}
use Rattle.office_types.specs.declared.outcome.FaultName.{FaultName}
use Rattle.office_types.specs.Events.{event_type, init_type, is_reserved}
use Rattle.office_types.specs.Limits.{is_event, is_name, is_short}
use Rattle.office_types.specs.Outcomes.{IsSent, IsTimed}
use Rattle.microstep.specs.Parts.{Stepped, and_then, as_delay, as_text, checked_event, checked_name, delay_in, event_in, input_in, name_in, optional, short_in, value_in}

-- what came before gave something
pub ok-inside : {X Y : Type 0} (r : Stepped X) (f : X → Stepped Y) (y : Y) → and_then r f ≡ Ok y → (x : X) × (r ≡ Ok x) × (f x ≡ Ok y)
ok-inside (Ok x) f y is = (x, refl, is)
ok-inside (Err name) f y is = absurd (cc)

-- a test that let something through
pub if-ok : {X : Type 0} (b : Bool) (x y : X) (name : FaultName) → (if b then Ok x else Err name) ≡ Ok y → (b ≡ true) × (x ≡ y)
if-ok true x y name is = (refl, cc)
if-ok false x y name is = absurd (cc)

pub name-inside : (scope : Scope) (expr : Expr) (name : List ℕ) → name_in scope expr ≡ Ok name → IsTrue (is_name name)
name-inside scope expr name is =
    let given = ok-inside (value_in scope expr) (λ x. and_then (as_text (out-Value x)) checked_name) name is in
    let text = ok-inside (as_text (out-Value given.0)) checked_name name given.2 in
    let checked = if-ok (is_name text.0) text.0 name _ text.2 in
    let P : List ℕ → Type 0 = λ t. IsTrue (is_name t) in
    subst P checked.1 checked.0

pub optional-inside : (scope : Scope) (expr : Option Expr) (name : Option (List ℕ)) → optional (name_in scope) expr ≡ Ok name → IfSome name (λ n. IsTrue (is_name n))
optional-inside scope None name is =
    let same : None ≡ name = cc in
    let P : Option (List ℕ) → Type 0 = λ o. IfSome o (λ n. IsTrue (is_name n)) in
    subst P same tt
optional-inside scope (Some expr) name is =
    let made = ok-inside (name_in scope expr) (λ x. Ok (Some x)) name is in
    let same : Some made.0 ≡ name = cc made.2 in
    let P : Option (List ℕ) → Type 0 = λ o. IfSome o (λ n. IsTrue (is_name n)) in
    subst P same (name-inside scope expr made.0 made.1)

layer-delay : (layer : Value-F Value) (delay : ℕ) → as_delay layer ≡ Ok delay → delay ≤ MAX_MOMENT
layer-delay Value-F.Null delay is = absurd (cc)
layer-delay (Value-F.Bool b) delay is = absurd (cc)
layer-delay (Value-F.Int (pos n)) delay is =
    let checked = if-ok (nat_le n MAX_MOMENT) n delay _ is in
    let P : ℕ → Type 0 = λ m. m ≤ MAX_MOMENT in
    subst P checked.1 (leb-true n MAX_MOMENT checked.0)
layer-delay (Value-F.Int (negsuc n)) delay is = absurd (cc)
layer-delay (Value-F.Text text) delay is = absurd (cc)
layer-delay (Value-F.List members) delay is = absurd (cc)
layer-delay (Value-F.Map members) delay is = absurd (cc)

pub delay-inside : (scope : Scope) (expr : Expr) (delay : ℕ) → delay_in scope expr ≡ Ok delay → delay ≤ MAX_MOMENT
delay-inside scope expr delay is =
    let given = ok-inside (value_in scope expr) (λ x. as_delay (out-Value x)) delay is in
    layer-delay (out-Value given.0) delay given.2

pub short-inside : (scope : Scope) (expr : Expr) (x : Value) → short_in scope expr ≡ Ok x → IsTrue (is_short x)
short-inside scope expr x is =
    let given = ok-inside (value_in scope expr) _ x is in
    let checked = if-ok (is_short given.0) given.0 x _ given.2 in
    let P : Value → Type 0 = λ v. IsTrue (is_short v) in
    subst P checked.1 checked.0

null-short : IsTrue (is_short value.Null)
null-short = search (rules, the_lemmas)

pub input-inside : (scope : Scope) (expr : Option Expr) (x : Value) → input_in scope expr ≡ Ok x → IsTrue (is_short x)
input-inside scope None x is =
    let same : value.Null ≡ x = cc in
    let P : Value → Type 0 = λ v. IsTrue (is_short v) in
    subst P same null-short
input-inside scope (Some expr) x is = short-inside scope expr x is

-- an event that passed the checks
pub record IsMade (event : Value) : Type 0 where
  pub type : List ℕ
  pub type_is : event_type event ≡ Some type
  pub unreserved : is_reserved type ≡ false
  pub short : IsTrue (is_short event)

both-tests : (r s : Bool) (x y : Value) (name other : FaultName) → (if r then Err name else if s then Ok x else Err other) ≡ Ok y → (r ≡ false) × (s ≡ true) × (x ≡ y)
both-tests true s x y name other is = absurd (cc)
both-tests false true x y name other is = (refl, refl, cc)
both-tests false false x y name other is = absurd (cc)

checked-inside : (event made : Value) (type : Option (List ℕ)) → event_type event ≡ type → checked_event event type ≡ Ok made → IsMade made
checked-inside event made None type_is is = absurd (cc)
checked-inside event made (Some type) type_is is =
    let passed = both-tests (is_reserved type) (is_short event) event made _ _ is in
    subst IsMade passed.2 (record { type = type; type_is = type_is; unreserved = passed.0; short = passed.1 })

pub event-inside : (scope : Scope) (expr : Expr) (made : Value) → event_in scope expr ≡ Ok made → IsMade made
event-inside scope expr made is =
    let given = ok-inside (value_in scope expr) (λ event. checked_event event (event_type event)) made is in
    checked-inside given.0 made (event_type given.0) refl given.2

made-event : (event : Value) → IsMade event → IsTrue (is_event event)
made-event event made = rw (made.type_is, made.unreserved) made.short

pub sent : (event : Value) → IsMade event → IsSent event
sent event made = record {
  well_formed = made-event event made;
  unreserved = λ type is.
      let same : made.type ≡ type = cc (made.type_is, is) in
      let P : List ℕ → Type 0 = λ t. is_reserved t ≡ false in
      subst P same made.unreserved;
}

init-reserved : is_reserved init_type ≡ true
init-reserved = refl

pub timed : (event : Value) → IsMade event → IsTimed event
timed event made = record {
  well_formed = made-event event made;
  no_init = λ is.
      let same : made.type ≡ init_type = cc (made.type_is, is) in
      let P : List ℕ → Type 0 = λ t. is_reserved t ≡ false in
      let never : is_reserved init_type ≡ false = subst P same made.unreserved in
      absurd (cc (init-reserved, never));
}
