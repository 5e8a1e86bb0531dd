-- What JSON means as an expression: the table of forms, and what is in none of them.
use Rattle.std.specs.Prelude.{◌≡◌, ℕ, Bool, ◌==◌, List, [], ◌∷◌, map, codes, Option, None, Some, option_map, option_and_then, find, Result, Ok, Err, if◌then◌else◌, unwrap_or}
use Rattle.std.specs.List.{list_any}
use Rattle.std.specs.Option.{option_or}
use Rattle.std.specs.Str.{bytes_eq}
use Rattle.std.specs.Map.{lookup}
use Rattle.xs_data.specs.Ascii.{dollar_sign}
use Rattle.ordered_json.specs.declared.json.Member.{Member}
use Rattle.ordered_json.specs.declared.json.OrderedJson.{OrderedJson, OrderedJson-F, out-OrderedJson}
use Rattle.ordered_json.specs.Words.{MemberParts, member_parts, place_of, as_text, as_list, as_object}
use Rattle.xs_model.specs.declared.expr.Expr.{Expr, out-Expr}
use Rattle.xs_model.specs.declared.expr.Expr.TheOpen.{Expr-F}
use Rattle.xs_model.specs.declared.expr.PathRoot.TheVariants.{Context, Event, Params, Input}
use Rattle.xs_model.specs.declared.expr.Unary.TheVariants.{Decimal, Len, Not}
use Rattle.xs_model.specs.declared.expr.Binary.TheVariants.{Arithmetic, Division, Concat, Append, Equal, Compare}
use Rattle.xs_model.specs.declared.expr.Arithmetic.TheVariants.{Add, Sub, Mul}
use Rattle.xs_model.specs.declared.expr.Division.TheVariants.{Div, Rem}
use Rattle.xs_model.specs.declared.expr.Comparison.TheVariants.{Less, LessOrEqual}
use Rattle.xs_model.specs.declared.expr.Connective.TheVariants.{And, Or}
use Rattle.machine_json.specs.declared.expressions.Operator.{Operator}
use Rattle.machine_json.specs.declared.expressions.Operator.TheVariants as operator
use Rattle.machine_json.specs.declared.expressions.FormPlace.{FormPlace}
use Rattle.machine_json.specs.declared.expressions.FormPlace.TheVariants.{AtObject, AtOperator}
use Rattle.machine_json.specs.declared.expressions.FormFault.{FormFault}
use Rattle.machine_json.specs.declared.expressions.FormFault.TheVariants.{Unknown, Memory}
use Rattle.machine_json.specs.declared.fault.MachineFault.{MachineFault}
use Rattle.machine_json.specs.declared.fault.MachineFault.TheVariants.{BadKind}
use Rattle.machine_json.specs.declared.fault.MachineFault.TheVariants as fault
use Rattle.machine_json.specs.FirstFaults.{IsLeastPlace}
use Rattle.machine_json.specs.JsonValues.{json_value}

-- ---- the table of operators

-- the operators over a path
abbrev pub path_operators : List (List ℕ × Operator)
path_operators =
    (codes "$context", operator.Path Context)
    ∷ (codes "$event", operator.Path Event)
    ∷ (codes "$params", operator.Path Params)
    ∷ (codes "$input", operator.Path Input)
    ∷ []

-- the operators over the values of two operands
abbrev pub binary_operators : List (List ℕ × Operator)
binary_operators =
    (codes "$add", operator.Binary (Arithmetic Add))
    ∷ (codes "$sub", operator.Binary (Arithmetic Sub))
    ∷ (codes "$mul", operator.Binary (Arithmetic Mul))
    ∷ (codes "$div", operator.Binary (Division Div))
    ∷ (codes "$rem", operator.Binary (Division Rem))
    ∷ (codes "$concat", operator.Binary Concat)
    ∷ (codes "$append", operator.Binary Append)
    ∷ (codes "$eq", operator.Binary Equal)
    ∷ (codes "$lt", operator.Binary (Compare Less))
    ∷ (codes "$le", operator.Binary (Compare LessOrEqual))
    ∷ []

-- the operators over the value of one operand, over operands that aren't all evaluated, and `$lit`
abbrev pub other_operators : List (List ℕ × Operator)
other_operators =
    (codes "$text", operator.Unary Decimal)
    ∷ (codes "$len", operator.Unary Len)
    ∷ (codes "$not", operator.Unary Not)
    ∷ (codes "$or_else", operator.OrElse)
    ∷ (codes "$and", operator.Connect And)
    ∷ (codes "$or", operator.Connect Or)
    ∷ (codes "$if", operator.If)
    ∷ (codes "$lit", operator.Lit)
    ∷ []

-- the operator that a key names
unfoldable pub operator_of : List ℕ → Option Operator
operator_of key =
    option_or (lookup (bytes_eq key) path_operators)
    (option_or (lookup (bytes_eq key) binary_operators) (lookup (bytes_eq key) other_operators))

-- ---- one layer: the form, with JSON in place of its operands

-- a form over both members of a list of two
abbrev pub over_two : {X Y : Type 0} → (X → X → Y) → List X → Option Y
over_two form (a ∷ b ∷ []) = Some (form a b)
over_two form _ = None

-- a form over the members of a list of three
abbrev pub over_three : {X Y : Type 0} → (X → X → X → Y) → List X → Option Y
over_three form (a ∷ b ∷ c ∷ []) = Some (form a b c)
over_three form _ = None

-- an operator with what stands under it, if that is as the operator takes it
abbrev pub operator_form : OrderedJson → Operator → Option (Expr-F OrderedJson)
operator_form under (operator.Path root) = option_map (Expr-F.Path root) (as_text under)
operator_form under operator.OrElse = option_and_then (over_two Expr-F.OrElse) (as_list under)
operator_form under (operator.Unary op) = Some (Expr-F.Unary op under)
operator_form under (operator.Binary op) = option_and_then (over_two (Expr-F.Binary op)) (as_list under)
operator_form under (operator.Connect op) = option_and_then (over_two (Expr-F.Connect op)) (as_list under)
operator_form under operator.If = option_and_then (over_three Expr-F.If) (as_list under)
operator_form under operator.Lit = Some (Expr-F.Lit (json_value under))

-- whether a key begins with `$`
abbrev pub begins_with_dollar : List ℕ → Bool
begins_with_dollar [] = Bool.false
begins_with_dollar (byte ∷ bytes) = byte == dollar_sign

-- the form of an object with this one member, whose key begins with `$`
abbrev pub member_form : MemberParts → Option (Expr-F OrderedJson)
member_form member = option_and_then (operator_form member.value) (operator_of member.key)

-- an object with a key that begins with `$` has no other key
abbrev pub only_operator : List MemberParts → Option (Expr-F OrderedJson)
only_operator (member ∷ []) = member_form member
only_operator _ = None

-- the form of an object: a map if no key begins with `$`, else an operator or none
abbrev pub object_form : List MemberParts → Option (Expr-F OrderedJson)
object_form members =
    if list_any (λ member. begins_with_dollar member.key) members
    then only_operator members
    else Some (Expr-F.Map (map (λ member. (member.key, member.value)) members))

-- the form of a layer of JSON; None is an unknown form
abbrev pub layer_form : OrderedJson-F OrderedJson Member → Option (Expr-F OrderedJson)
layer_form (OrderedJson-F.Null place) = Some Expr-F.Null
layer_form (OrderedJson-F.Bool place truth) = Some (Expr-F.Bool truth)
layer_form (OrderedJson-F.Int place number) = Some (Expr-F.Int number)
layer_form (OrderedJson-F.Text place text) = Some (Expr-F.Text text)
layer_form (OrderedJson-F.List place items) = Some (Expr-F.List items)
layer_form (OrderedJson-F.Object place members) = object_form (map member_parts members)

-- the form of JSON as an expression; None is an unknown form
abbrev pub form_of : OrderedJson → Option (Expr-F OrderedJson)
form_of json = layer_form (out-OrderedJson json)

-- the operands of a form, from left to right
abbrev pub operands : {X : Type 0} → Expr-F X → List X
operands Expr-F.Null = []
operands (Expr-F.Bool truth) = []
operands (Expr-F.Int number) = []
operands (Expr-F.Text text) = []
operands (Expr-F.List parts) = parts
operands (Expr-F.Map parts) = map (λ part. part.1) parts
operands (Expr-F.Path root path) = []
operands (Expr-F.OrElse a b) = a ∷ b ∷ []
operands (Expr-F.Unary op a) = a ∷ []
operands (Expr-F.Binary op a b) = a ∷ b ∷ []
operands (Expr-F.Connect op a b) = a ∷ b ∷ []
operands (Expr-F.If test a b) = test ∷ a ∷ b ∷ []
operands (Expr-F.Lit value) = []

-- a form without its operands
abbrev pub outline_of : {X : Type 0} → Expr-F X → Expr-F (Unit {0})
outline_of Expr-F.Null = Expr-F.Null
outline_of (Expr-F.Bool truth) = Expr-F.Bool truth
outline_of (Expr-F.Int number) = Expr-F.Int number
outline_of (Expr-F.Text text) = Expr-F.Text text
outline_of (Expr-F.List parts) = Expr-F.List (map (λ part. tt) parts)
outline_of (Expr-F.Map parts) = Expr-F.Map (map (λ part. (part.0, tt)) parts)
outline_of (Expr-F.Path root path) = Expr-F.Path root path
outline_of (Expr-F.OrElse a b) = Expr-F.OrElse tt tt
outline_of (Expr-F.Unary op a) = Expr-F.Unary op tt
outline_of (Expr-F.Binary op a b) = Expr-F.Binary op tt tt
outline_of (Expr-F.Connect op a b) = Expr-F.Connect op tt tt
outline_of (Expr-F.If test a b) = Expr-F.If tt tt tt
outline_of (Expr-F.Lit value) = Expr-F.Lit value

-- ---- meaning

mutual
  -- JSON means the expression of its form whose operands its own operands mean
  pub data MeansExpr : OrderedJson → Expr → Type 0 where
    means : (json : OrderedJson) (expr : Expr) (form : Expr-F OrderedJson) → form_of json ≡ Some form
        → outline_of form ≡ outline_of (out-Expr expr)
        → EachMeans (operands form) (operands (out-Expr expr)) → MeansExpr json expr

  -- each means the expression in its place
  pub data EachMeans : List OrderedJson → List Expr → Type 0 where
    none : EachMeans [] []
    more : (json : OrderedJson) (expr : Expr) (jsons : List OrderedJson) (exprs : List Expr)
        → MeansExpr json expr → EachMeans jsons exprs → EachMeans (json ∷ jsons) (expr ∷ exprs)

-- ---- unknown forms

-- the key of an object that begins with `$`, the first of several
abbrev pub operator_place : List MemberParts → Option ℕ
operator_place members =
    option_map (λ member. member.key_place) (find (λ member. begins_with_dollar member.key) members)

-- an object in no form is answered at its own place, or at that of a key
abbrev pub place_at : FormPlace → ℕ → ℕ → ℕ
place_at AtObject place key_place = place
place_at AtOperator place key_place = key_place

-- where an object in no form is answered that begins at the place: there, or at its first key that begins with `$`
abbrev pub object_place : FormPlace → ℕ → List MemberParts → ℕ
object_place answered place members = place_at answered place (unwrap_or (operator_place members) place)

-- where JSON in no form is answered
abbrev pub form_place : FormPlace → OrderedJson → ℕ
form_place answered json = object_place answered (place_of json) (unwrap_or (as_object json) [])

mutual
  -- in JSON that is read as an expression an unknown form is answered at the place: its own, or that of one of
  -- its operands; of JSON that is in no form itself the members aren't looked at
  pub data HasUnknownForm : FormPlace → OrderedJson → ℕ → Type 0 where
    itself : (answered : FormPlace) (json : OrderedJson) → form_of json ≡ None
        → HasUnknownForm answered json (form_place answered json)
    within : (answered : FormPlace) (json : OrderedJson) (form : Expr-F OrderedJson) (place : ℕ)
        → form_of json ≡ Some form → HasUnknownAmong answered (operands form) place
        → HasUnknownForm answered json place

  -- in one of them it is
  pub data HasUnknownAmong : FormPlace → List OrderedJson → ℕ → Type 0 where
    first : (answered : FormPlace) (json : OrderedJson) (jsons : List OrderedJson) (place : ℕ)
        → HasUnknownForm answered json place → HasUnknownAmong answered (json ∷ jsons) place
    later : (answered : FormPlace) (json : OrderedJson) (jsons : List OrderedJson) (place : ℕ)
        → HasUnknownAmong answered jsons place → HasUnknownAmong answered (json ∷ jsons) place

-- what reading JSON as an expression answers: what it means, or the least place of its unknown forms;
-- memory may run out
abbrev pub IsExpressionReading : FormPlace → OrderedJson → Result Expr FormFault → Type 0
IsExpressionReading answered json (Ok expr) = MeansExpr json expr
IsExpressionReading answered json (Err (Unknown place)) = IsLeastPlace (HasUnknownForm answered json) place
IsExpressionReading answered json (Err Memory) = Unit {0}

-- the same of `read_expr`: an unknown form is BadKind at its object
abbrev pub IsExprReading : OrderedJson → Result Expr MachineFault → Type 0
IsExprReading json (Ok expr) = MeansExpr json expr
IsExprReading json (Err (BadKind place)) = IsLeastPlace (HasUnknownForm AtObject json) place
IsExprReading json (Err fault.Memory) = Unit {0}
IsExprReading json (Err _) = ⊥
