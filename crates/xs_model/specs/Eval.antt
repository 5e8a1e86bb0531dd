-- What an expression gives in a scope: the table of forms, one equation for each row.
use Rattle.std.specs.Prelude.{◌≡◌, ◌≢◌, MatchResult, ℕ, ◌-◌, ◌^◌, Bool, true, false, not, ◌&&◌, List, [], ◌∷◌, ◌++◌, length, map, fold, Option, Some, None, Result, Ok, Err, if◌then◌else◌, nat_le, ℤ, pos, negsuc, ◌+ℤ◌, ◌-ℤ◌, ◌*ℤ◌, int_lt, int_le, int_div, int_rem}
use Rattle.std.specs.Ordering.{nat_cmp, int_eq, is_lt, is_le}
use Rattle.std.specs.Cmp.Lexicographic.{slice_cmp}
use Rattle.std.specs.Fmt.{signed_decimal}
use Rattle.xs_model.specs.declared.env.Env.{Env}
use Rattle.xs_model.specs.declared.env.EvalFault.{EvalFault}
use Rattle.xs_model.specs.declared.env.EvalFault.TheVariants.{Missing, Kind, Range, TooLarge, Memory}
use Rattle.xs_model.specs.declared.expr.Expr.{Expr, fold-Expr}
use Rattle.xs_model.specs.declared.expr.Expr.TheOpen.{Expr-F}
use Rattle.xs_model.specs.declared.expr.PathRoot.{PathRoot}
use Rattle.xs_model.specs.declared.expr.PathRoot.TheVariants.{Context, Event, Params, Input}
use Rattle.xs_model.specs.declared.expr.Arithmetic.{Arithmetic}
use Rattle.xs_model.specs.declared.expr.Arithmetic.TheVariants.{Add, Sub, Mul}
use Rattle.xs_model.specs.declared.expr.Division.{Division}
use Rattle.xs_model.specs.declared.expr.Division.TheVariants.{Div, Rem}
use Rattle.xs_model.specs.declared.expr.Comparison.{Comparison}
use Rattle.xs_model.specs.declared.expr.Comparison.TheVariants.{Less, LessOrEqual}
use Rattle.xs_model.specs.declared.expr.Unary.{Unary}
use Rattle.xs_model.specs.declared.expr.Unary.TheVariants.{Decimal, Len, Not}
use Rattle.xs_model.specs.declared.expr.Binary.{Binary}
use Rattle.xs_model.specs.declared.expr.Binary.TheVariants as binary_op
use Rattle.xs_model.specs.declared.expr.Connective.{Connective}
use Rattle.xs_model.specs.declared.expr.Connective.TheVariants.{And, Or}
use Rattle.xs_model.specs.declared.limits.TheConstants.{MAX_NESTING, MAX_VALUE_TEXT}
use Rattle.xs_model.specs.declared.value.Value.{Value, out-Value}
use Rattle.xs_model.specs.declared.value.Value.TheVariants as value
use Rattle.xs_model.specs.declared.value.Value.TheOpen.{Value-F}
use Rattle.xs_model.specs.Compact.{compact_text, nesting}
use Rattle.xs_model.specs.Paths.{at_path}
use Rattle.xs_model.specs.Rising.{put}
use Rattle.xs_model.specs.Equality.{same}

-- the four values that an expression reads
pub record Scope : Type 0 where
  pub context : Value
  pub event : Value
  pub params : Value
  pub input : Value

-- the values that an environment lends
abbrev pub scope_of : Env → Scope
scope_of env = record {
  context = env.context.now;
  event = env.event.now;
  params = env.params.now;
  input = env.input.now;
}

-- what an evaluation gives: a value or a fault
abbrev pub Evaluation : Type 0
Evaluation = Result Value EvalFault

-- the operand's fault, or what is made of its value
abbrev pub one : {X Y : Type 0} → Result X EvalFault → (X → Result Y EvalFault) → Result Y EvalFault
one (Err fault) make = Err fault
one (Ok x) make = make x

-- both operands, the first one's fault before the second's
abbrev pub pair_of : Evaluation → Evaluation → Result (Value × Value) EvalFault
pair_of a b = one a (λ x. one b (λ y. Ok (x, y)))

-- what is made of both operands
abbrev pub both : Evaluation → Evaluation → (Value → Value → Evaluation) → Evaluation
both a b make = one (pair_of a b) (λ p. make p.0 p.1)

-- ---- limits

-- a value that an operator, a list or a map may give
abbrev pub is_small : Value → Bool
is_small x = nat_le (length (compact_text x)) MAX_VALUE_TEXT && nat_le (nesting x) MAX_NESTING

-- what an operator, a list or a map gives has to be small
abbrev pub value_if_small : Evaluation → Evaluation
value_if_small evaluation = one evaluation (λ x. if is_small x then Ok x else Err TooLarge)

-- a number of 64 bits with sign
abbrev pub in_range : ℤ → Evaluation
in_range n =
    if int_le (negsuc (2 ^ 63 - 1)) n && int_le n (pos (2 ^ 63 - 1)) then Ok (value.Int n) else Err Range

-- ---- operators on values

-- what stands at a path, or Missing
abbrev pub value_or_missing : Option Value → Evaluation
value_or_missing None = Err Missing
value_or_missing (Some x) = Ok x

-- what a path begins in
abbrev pub root_value : PathRoot → Scope → Value
root_value Context scope = scope.context
root_value Event scope = scope.event
root_value Params scope = scope.params
root_value Input scope = scope.input

-- b where a finds nothing
abbrev pub or_else : Evaluation → Evaluation → Evaluation
or_else (Err Missing) b = b
or_else a _ = a

abbrev pub arithmetic : Arithmetic → Value-F Value → Value-F Value → Evaluation
arithmetic Add (Value-F.Int m) (Value-F.Int n) = in_range (m +ℤ n)
arithmetic Sub (Value-F.Int m) (Value-F.Int n) = in_range (m -ℤ n)
arithmetic Mul (Value-F.Int m) (Value-F.Int n) = in_range (m *ℤ n)
arithmetic _ _ _ = Err Kind

-- towards zero; Range for a divisor of zero
abbrev pub division : Division → Value-F Value → Value-F Value → Evaluation
division Div (Value-F.Int m) (Value-F.Int n) =
    if int_eq n (pos 0) then Err Range else in_range (int_div m n)
division Rem (Value-F.Int m) (Value-F.Int n) =
    if int_eq n (pos 0) then Err Range else in_range (int_rem m n)
division _ _ _ = Err Kind

abbrev pub concat : Value-F Value → Value-F Value → Evaluation
concat (Value-F.Text s) (Value-F.Text t) = Ok (value.Text (s ++ t))
concat _ _ = Err Kind

abbrev pub decimal_text : Value-F Value → Evaluation
decimal_text (Value-F.Int n) = Ok (value.Text (signed_decimal n))
decimal_text _ = Err Kind

abbrev pub append : Value-F Value → Value → Evaluation
append (Value-F.List members) x = Ok (value.List (members ++ x ∷ []))
append _ _ = Err Kind

-- the members of a list or a map, or the bytes of a text
abbrev pub len : Value-F Value → Evaluation
len (Value-F.List members) = Ok (value.Int (pos (length members)))
len (Value-F.Map members) = Ok (value.Int (pos (length members)))
len (Value-F.Text text) = Ok (value.Int (pos (length text)))
len _ = Err Kind

-- two numbers, or two texts by their bytes
abbrev pub compare : Comparison → Value-F Value → Value-F Value → Evaluation
compare Less (Value-F.Int m) (Value-F.Int n) = Ok (value.Bool (int_lt m n))
compare LessOrEqual (Value-F.Int m) (Value-F.Int n) = Ok (value.Bool (int_le m n))
compare Less (Value-F.Text s) (Value-F.Text t) =
    Ok (value.Bool (is_lt (slice_cmp nat_cmp s t)))
compare LessOrEqual (Value-F.Text s) (Value-F.Text t) =
    Ok (value.Bool (is_le (slice_cmp nat_cmp s t)))
compare _ _ _ = Err Kind

-- a truth value; another kind is Kind
abbrev pub truth : Value-F Value → Result Bool EvalFault
truth (Value-F.Bool b) = Ok b
truth _ = Err Kind

-- the truth value that an operand gives
abbrev pub truth_of : Evaluation → Result Bool EvalFault
truth_of a = one a (λ x. truth (out-Value x))

abbrev pub a_bool : Bool → Evaluation
a_bool b = Ok (value.Bool b)

-- whether the first operand's truth value is already that of the whole
abbrev pub decides : Connective → Bool → Bool
decides And first = not first
decides Or first = first

-- the second operand is asked only where the first one doesn't decide
abbrev pub connect : Connective → Bool → Evaluation → Evaluation
connect op first b = if decides op first then a_bool first else one (truth_of b) a_bool

-- the operators of one operand, by its value
abbrev pub unary : Unary → Value-F Value → Evaluation
unary Decimal x = decimal_text x
unary Len x = len x
unary Not x = one (truth x) (λ b. a_bool (not b))

-- the operators of two operands, by their values
abbrev pub binary : Binary → Value → Value → Evaluation
binary (binary_op.Arithmetic op) x y = arithmetic op (out-Value x) (out-Value y)
binary (binary_op.Division op) x y = division op (out-Value x) (out-Value y)
binary binary_op.Concat x y = concat (out-Value x) (out-Value y)
binary binary_op.Append x y = append (out-Value x) y
binary binary_op.Equal x y = a_bool (same x y)
binary (binary_op.Compare op) x y = compare op (out-Value x) (out-Value y)

-- ---- lists and maps

-- each of the results, or the first fault
abbrev pub collect : {X : Type 0} → List (Result X EvalFault) → Result (List X) EvalFault
collect [] = Ok []
collect (Err fault ∷ rest) = Err fault
collect (Ok x ∷ rest) = one (collect rest) (λ xs. Ok (x ∷ xs))

-- a key with what its part gives
abbrev pub evaluated_member : List ℕ × Evaluation → Result (List ℕ × Value) EvalFault
evaluated_member part = one part.1 (λ x. Ok (part.0, x))

-- the members put one after another
abbrev pub members_by_key : List (List ℕ × Value) → List (List ℕ × Value)
members_by_key members = fold (λ done member. put done member.0 member.1) [] members

-- the list of what the parts give
abbrev pub list_of : List Evaluation → Evaluation
list_of parts = one (collect parts) (λ members. Ok (value.List members))

-- the map of what the parts give
abbrev pub map_of : List (List ℕ × Evaluation) → Evaluation
map_of parts =
    one (collect (map evaluated_member parts)) (λ members. Ok (value.Map (members_by_key members)))

-- ---- the table

-- what an expression gives, before the limits, whose parts give these outcomes
abbrev pub row : Scope → Expr-F Evaluation → Evaluation
row scope Expr-F.Null = Ok value.Null
row scope (Expr-F.Bool b) = Ok (value.Bool b)
row scope (Expr-F.Int n) = Ok (value.Int n)
row scope (Expr-F.Text text) = Ok (value.Text text)
row scope (Expr-F.List parts) = list_of parts
row scope (Expr-F.Map parts) = map_of parts
row scope (Expr-F.Path root path) = value_or_missing (at_path path (root_value root scope))
row scope (Expr-F.OrElse a b) = or_else a b
row scope (Expr-F.Unary op a) = one a (λ x. unary op (out-Value x))
row scope (Expr-F.Binary op a b) = both a b (λ x y. binary op x y)
row scope (Expr-F.Connect op a b) = one (truth_of a) (λ first. connect op first b)
row scope (Expr-F.If c a b) = one (truth_of c) (λ yes. if yes then a else b)
row scope (Expr-F.Lit x) = Ok x

-- a scalar has no limit of its own
abbrev pub is_scalar : {X : Type 0} → Expr-F X → Bool
is_scalar Expr-F.Null = true
is_scalar (Expr-F.Bool b) = true
is_scalar (Expr-F.Int n) = true
is_scalar (Expr-F.Text text) = true
is_scalar _ = false

-- what an expression gives whose parts give these outcomes
abbrev pub within_limits : Scope → Expr-F Evaluation → Evaluation
within_limits scope layer =
    if is_scalar layer then row scope layer else value_if_small (row scope layer)

-- what an expression gives
abbrev pub outcome : Scope → Expr → Evaluation
outcome scope = fold-Expr Evaluation (within_limits scope)

-- the result is this evaluation, unless there was no memory
abbrev pub Evaluates : {X : Type 0} → Result X EvalFault → Result X EvalFault → Type 0
Evaluates result expected =
    MatchResult result (λ x. expected ≡ Ok x) (λ fault. fault ≢ Memory → expected ≡ Err fault)
