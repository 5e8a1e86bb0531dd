-- Evaluating the values of an assignment one after the other.
use Rattle.std.proofs.Common.{◌≡◌, ℕ, zero, suc, ◌<◌, ◌≤◌, List, [], ◌∷◌, ◌++◌, length, map, get_or, drop, Result, Ok, Err, refl, sym, ap, ◌∙◌, arith, append_assoc}
use Rattle.xs_model.specs.declared.env.EvalFault.{EvalFault}
use Rattle.xs_model.specs.declared.expr.Expr.{Expr}
use Rattle.xs_model.specs.declared.value.Value.{Value}
use Rattle.xs_model.specs.Eval.{Scope, collect, evaluated_member, one, outcome}
use Rattle.microstep.specs.Actions.{members_assigned}

abbrev Member : Type 0
Member = List ℕ × Value

abbrev Part : Type 0
Part = List ℕ × Expr

-- what an expression of an assignment gives, with its key
abbrev pub member_of : Scope → Part → Result Member EvalFault
member_of scope part = evaluated_member (part.0, outcome scope part.1)

-- these members, and then what the parts from a place on give
abbrev pub assigned_from : Scope → List Member → List Part → ℕ → Result (List Member) EvalFault
assigned_from scope members parts place = one (collect (map (member_of scope) (drop place parts))) (λ rest. Ok (members ++ rest))

itself : (r : Result (List Member) EvalFault) → one r (λ rest. Ok ([] ++ rest)) ≡ r
itself (Ok xs) = refl
itself (Err fault) = refl

pub assigned-start : (scope : Scope) (parts : List Part) → members_assigned scope parts ≡ assigned_from scope [] parts 0
assigned-start scope parts = sym (itself (collect (map (member_of scope) parts)))

pub assigned-end : (scope : Scope) (members : List Member) (parts : List Part) (place : ℕ) → length parts ≤ place → assigned_from scope members parts place ≡ Ok (members ++ [])
assigned-end scope members [] zero past = refl
assigned-end scope members [] (suc place) past = refl
assigned-end scope members (x ∷ parts) zero past = absurd (omega (arith, past))
assigned-end scope members (x ∷ parts) (suc place) past = assigned-end scope members parts place (omega (arith, past))

pub assigned-stops : (scope : Scope) (members : List Member) (parts : List Part) (place : ℕ) (part : Part) (fault : EvalFault) → place < length parts → part ≡ get_or parts place part → outcome scope part.1 ≡ Err fault
    → assigned_from scope members parts place ≡ Err fault
assigned-stops scope members [] place part fault within is gives = absurd (omega (arith, within))
assigned-stops scope members (x ∷ parts) zero part fault within is gives =
    let head : member_of scope x ≡ Err fault = ap (member_of scope) (sym is) ∙ rw gives refl in
    rw head refl
assigned-stops scope members (x ∷ parts) (suc place) part fault within is gives = assigned-stops scope members parts place part fault (omega (arith, within)) is gives

one-one : (members : List Member) (y : Member) (r : Result (List Member) EvalFault) → one (one r (λ ys. Ok (y ∷ ys))) (λ rest. Ok (members ++ rest)) ≡ one r (λ rest. Ok ((members ++ y ∷ []) ++ rest))
one-one members y (Ok ys) = ap Ok (sym (append_assoc members (y ∷ []) ys))
one-one members y (Err fault) = refl

pub assigned-more : (scope : Scope) (members : List Member) (parts : List Part) (place : ℕ) (part : Part) (x : Value) → place < length parts → part ≡ get_or parts place part → outcome scope part.1 ≡ Ok x
    → assigned_from scope members parts place ≡ assigned_from scope (members ++ (part.0, x) ∷ []) parts (suc place)
assigned-more scope members [] place part x within is gives = absurd (omega (arith, within))
assigned-more scope members (first ∷ parts) zero part x within is gives =
    let head : member_of scope first ≡ Ok (part.0, x) = ap (member_of scope) (sym is) ∙ rw gives refl in
    rw head (one-one members (part.0, x) (collect (map (member_of scope) parts)))
assigned-more scope members (first ∷ parts) (suc place) part x within is gives = assigned-more scope members parts place part x (omega (arith, within)) is gives
