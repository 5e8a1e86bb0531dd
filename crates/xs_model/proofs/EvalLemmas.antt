-- Evaluating the parts of a list or a map one after another.
use Rattle.std.proofs.Common.{◌≡◌, ℕ, zero, suc, ◌<◌, ◌≤◌, List, [], ◌∷◌, ◌++◌, length, map, fold, get_or, drop, Result, Ok, Err, refl, sym, ap, ◌∙◌, arith, rules, append_assoc}
use Rattle.xs_model.specs.declared.env.EvalFault.{EvalFault}
use Rattle.xs_model.specs.declared.expr.Expr.{Expr, the_lemmas}
use Rattle.xs_model.specs.declared.expr.Expr.TheVariants as expr
use Rattle.xs_model.specs.declared.value.Value.{Value}
use Rattle.xs_model.specs.declared.value.Value.TheVariants as value
use Rattle.xs_model.specs.Rising.{put}
use Rattle.xs_model.specs.Eval.{Scope, Evaluation, outcome, one, value_if_small, collect, evaluated_member, list_of, map_of, Evaluates}

module _ {X Y : Type 0} (f : X → Result Y EvalFault) (make : List Y → Evaluation) where
  -- what is made of what the parts from a place on give
  abbrev pub rest_of : List X → ℕ → Evaluation
  rest_of parts place = one (collect (map f (drop place parts))) make

  pub rest-end : (parts : List X) (place : ℕ) → length parts ≤ place → rest_of parts place ≡ make []
  rest-end [] zero past = refl
  rest-end [] (suc place) past = refl
  rest-end (x ∷ parts) zero past = absurd (omega (arith, past))
  rest-end (x ∷ parts) (suc place) past = rest-end parts place (omega (arith, past))

  pub rest-Err : (parts : List X) (place : ℕ) (d : X) (fault : EvalFault) → place < length parts → f (get_or parts place d) ≡ Err fault → rest_of parts place ≡ Err fault
  rest-Err [] place d fault within gives = absurd (omega (arith, within))
  rest-Err (x ∷ parts) zero d fault within gives = rw gives refl
  rest-Err (x ∷ parts) (suc place) d fault within gives = rest-Err parts place d fault (omega (arith, within)) gives

module _ {X Y : Type 0} (f : X → Result Y EvalFault) where
  one-one : (make : List Y → Evaluation) (y : Y) (r : Result (List Y) EvalFault) → one (one r (λ ys. Ok (y ∷ ys))) make ≡ one r (λ ys. make (y ∷ ys))
  one-one make y (Ok ys) = refl
  one-one make y (Err fault) = refl

  pub rest-Ok : (make : List Y → Evaluation) (parts : List X) (place : ℕ) (d : X) (y : Y) → place < length parts → f (get_or parts place d) ≡ Ok y
      → rest_of f make parts place ≡ rest_of f (λ ys. make (y ∷ ys)) parts (suc place)
  rest-Ok make [] place d y within gives = absurd (omega (arith, within))
  rest-Ok make (x ∷ parts) zero d y within gives = rw gives (one-one make y (collect (map f parts)))
  rest-Ok make (x ∷ parts) (suc place) d y within gives = rest-Ok make parts place d y (omega (arith, within)) gives

-- ---- lists

abbrev pub list_from : List Value → List Value → Evaluation
list_from members rest = Ok (value.List (members ++ rest))

pub outcome-List : (scope : Scope) (parts : List Expr) → outcome scope (expr.List parts) ≡ value_if_small (list_of (map (outcome scope) parts))
outcome-List scope parts = search (rules, the_lemmas)

pub list-more : (scope : Scope) (members : List Value) (parts : List Expr) (place : ℕ) (d : Expr) (x : Value) → place < length parts → outcome scope (get_or parts place d) ≡ Ok x
    → rest_of (outcome scope) (list_from members) parts place ≡ rest_of (outcome scope) (list_from (members ++ x ∷ [])) parts (suc place)
list-more scope members parts place d x within gives =
    rest-Ok (outcome scope) (list_from members) parts place d x within gives
    ∙ (λ i. rest_of (outcome scope) (λ rest. Ok (value.List (sym (append_assoc members (x ∷ []) rest) i))) parts (suc place))

-- ---- maps

-- what a part gives, with its key
abbrev pub part_of : Scope → List ℕ × Expr → Result (List ℕ × Value) EvalFault
part_of scope part = evaluated_member (part.0, outcome scope part.1)

abbrev pub map_from : List (List ℕ × Value) → List (List ℕ × Value) → Evaluation
map_from members rest = Ok (value.Map (fold (λ done member. put done member.0 member.1) members rest))

map-keyed : (scope : Scope) (parts : List (List ℕ × Expr)) → map evaluated_member (map (λ part. (part.0, outcome scope part.1)) parts) ≡ map (part_of scope) parts
map-keyed scope [] = refl
map-keyed scope (part ∷ parts) = ap (λ rest. part_of scope part ∷ rest) (map-keyed scope parts)

pub outcome-Map : (scope : Scope) (parts : List (List ℕ × Expr)) → outcome scope (expr.Map parts) ≡ value_if_small (map_of (map (λ part. (part.0, outcome scope part.1)) parts))
outcome-Map scope parts = search (rules, the_lemmas)

pub map-start : (scope : Scope) (parts : List (List ℕ × Expr)) → map_of (map (λ part. (part.0, outcome scope part.1)) parts) ≡ rest_of (part_of scope) (map_from []) parts 0
map-start scope parts = ap (λ outs. one (collect outs) (map_from [])) (map-keyed scope parts)

part-Ok : (scope : Scope) (part : List ℕ × Expr) (x : Value) → outcome scope part.1 ≡ Ok x → part_of scope part ≡ Ok (part.0, x)
part-Ok scope part x gives = rw gives refl

part-Err : (scope : Scope) (part : List ℕ × Expr) (fault : EvalFault) → outcome scope part.1 ≡ Err fault → part_of scope part ≡ Err fault
part-Err scope part fault gives = rw gives refl

pub map-more : (scope : Scope) (members : List (List ℕ × Value)) (parts : List (List ℕ × Expr)) (place : ℕ) (part : List ℕ × Expr) (x : Value) → place < length parts → part ≡ get_or parts place part → outcome scope part.1 ≡ Ok x
    → rest_of (part_of scope) (map_from members) parts place ≡ rest_of (part_of scope) (map_from (put members part.0 x)) parts (suc place)
map-more scope members parts place part x within is gives =
    rest-Ok (part_of scope) (map_from members) parts place part (part.0, x) within (ap (part_of scope) (sym is) ∙ part-Ok scope part x gives)

pub map-stops : (scope : Scope) (members : List (List ℕ × Value)) (parts : List (List ℕ × Expr)) (place : ℕ) (part : List ℕ × Expr) (fault : EvalFault) → place < length parts → part ≡ get_or parts place part → outcome scope part.1 ≡ Err fault
    → rest_of (part_of scope) (map_from members) parts place ≡ Err fault
map-stops scope members parts place part fault within is gives =
    rest-Err (part_of scope) (map_from members) parts place part fault within (ap (part_of scope) (sym is) ∙ part-Err scope part fault gives)

-- ---- limits

Evaluates-itself : (r : Evaluation) → Evaluates r r
Evaluates-itself (Ok x) = refl
Evaluates-itself (Err fault) = λ other. refl

-- where a result is an evaluation, the result if small is the evaluation if small
pub Evaluates-value_if_small : (r o : Evaluation) → Evaluates r o → Evaluates (value_if_small r) (value_if_small o)
Evaluates-value_if_small (Ok x) o gives = rw gives (Evaluates-itself (value_if_small (Ok x)))
Evaluates-value_if_small (Err fault) o gives = λ other. ap value_if_small (gives other)
