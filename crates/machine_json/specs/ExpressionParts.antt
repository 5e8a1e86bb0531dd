-- What the parts of a reading of expressions answer.
use Rattle.std.specs.Prelude.{◌≡◌, ℕ, min, List, [], ◌∷◌, map, Option, None, Some, Result, Ok, Err}
use Rattle.ordered_json.specs.declared.json.OrderedJson.{OrderedJson}
use Rattle.ordered_json.specs.Words.{MemberParts}
use Rattle.xs_model.specs.declared.expr.Expr.{Expr, out-Expr}
use Rattle.xs_model.specs.declared.expr.Expr.TheOpen.{Expr-F}
use Rattle.xs_model.specs.declared.expr.PathRoot.{PathRoot}
use Rattle.machine_json.specs.declared.expressions.FormPlace.{FormPlace}
use Rattle.machine_json.specs.declared.expressions.FormFault.{FormFault}
use Rattle.machine_json.specs.declared.expressions.FormFault.TheVariants.{Unknown, Memory}
use Rattle.machine_json.specs.Expressions.{EachMeans, HasUnknownAmong, operands, outline_of}
use Rattle.machine_json.specs.FirstFaults.{IsLeastPlace}

-- ---- several readings

-- the lesser of the places so far and one more
abbrev pub lesser : Option ℕ → ℕ → Option ℕ
lesser None place = Some place
lesser (Some other) place = Some (min other place)

-- both, or the fault at the lesser place; want of memory comes before any fault
abbrev pub joined : {X Y : Type 0} → Result X FormFault → Result Y FormFault → Result (X × Y) FormFault
joined (Ok x) (Ok y) = Ok (x, y)
joined (Ok x) (Err fault) = Err fault
joined (Err fault) (Ok y) = Err fault
joined (Err Memory) (Err fault) = Err Memory
joined (Err (Unknown place)) (Err Memory) = Err Memory
joined (Err (Unknown place)) (Err (Unknown other)) = Err (Unknown (min place other))

-- what stands under the keys
abbrev pub values_under : List MemberParts → List OrderedJson
values_under members = map (λ member. member.value) members

-- the fault is the first of those in any of them, or want of memory
abbrev pub IsFirstUnknown : FormPlace → List OrderedJson → FormFault → Type 0
IsFirstUnknown answered jsons (Unknown place) = IsLeastPlace (HasUnknownAmong answered jsons) place
IsFirstUnknown answered jsons Memory = Unit {0}

-- the keys of the members, and what stands under them means the expressions in turn
pub record HaveKeysAndMean (members : List MemberParts) (parts : List (List ℕ × Expr)) : Type 0 where
  pub keys : map (λ member. member.key) members ≡ map (λ part. part.0) parts
  pub values : EachMeans (values_under members) (map (λ part. part.1) parts)

-- ---- one form

-- the expression is of this form, and the operands mean its operands
pub record MeansForm (form : Expr-F OrderedJson) (expr : Expr) : Type 0 where
  pub outline : outline_of form ≡ outline_of (out-Expr expr)
  pub each : EachMeans (operands form) (operands (out-Expr expr))

-- what reading a form answers; `unknown` is where no form is answered
abbrev pub IsFormReading : FormPlace → ℕ → Option (Expr-F OrderedJson) → Result Expr FormFault → Type 0
IsFormReading answered unknown None (Ok expr) = ⊥
IsFormReading answered unknown None (Err (Unknown place)) = place ≡ unknown
IsFormReading answered unknown None (Err Memory) = Unit {0}
IsFormReading answered unknown (Some form) (Ok expr) = MeansForm form expr
IsFormReading answered unknown (Some form) (Err fault) = IsFirstUnknown answered (operands form) fault

-- what reading a path answers
abbrev pub IsPathReading : PathRoot → ℕ → Option (List ℕ) → Result Expr FormFault → Type 0
IsPathReading root unknown None (Ok expr) = ⊥
IsPathReading root unknown None (Err (Unknown place)) = place ≡ unknown
IsPathReading root unknown None (Err Memory) = Unit {0}
IsPathReading root unknown (Some path) (Ok expr) = out-Expr expr ≡ Expr-F.Path root path
IsPathReading root unknown (Some path) (Err (Unknown place)) = ⊥
IsPathReading root unknown (Some path) (Err Memory) = Unit {0}

-- what reading each of a list answers
abbrev pub IsEachReading : FormPlace → List OrderedJson → Result (List Expr) FormFault → Type 0
IsEachReading answered jsons (Ok exprs) = EachMeans jsons exprs
IsEachReading answered jsons (Err fault) = IsFirstUnknown answered jsons fault

-- what reading a list of operands answers, where None is a list of another length
abbrev pub IsListReading : FormPlace → ℕ → Option (List OrderedJson) → Result (List Expr) FormFault → Type 0
IsListReading answered unknown None (Ok exprs) = ⊥
IsListReading answered unknown None (Err (Unknown place)) = place ≡ unknown
IsListReading answered unknown None (Err Memory) = Unit {0}
IsListReading answered unknown (Some jsons) result = IsEachReading answered jsons result

-- the list if it has two members, and if it has three
abbrev pub if_two : Option (List OrderedJson) → Option (List OrderedJson)
if_two (Some (a ∷ b ∷ [])) = Some (a ∷ b ∷ [])
if_two _ = None

abbrev pub if_three : Option (List OrderedJson) → Option (List OrderedJson)
if_three (Some (a ∷ b ∷ c ∷ [])) = Some (a ∷ b ∷ c ∷ [])
if_three _ = None

-- what is made of the answer, or its fault
abbrev pub made_of : {X Y : Type 0} → (X → Y) → Result X FormFault → Result Y FormFault
made_of make (Ok x) = Ok (make x)
made_of make (Err fault) = Err fault

-- one, two and three expressions as a list
abbrev pub one_listed : Expr → List Expr
one_listed expr = expr ∷ []

abbrev pub two_listed : Expr × Expr → List Expr
two_listed exprs = exprs.0 ∷ one_listed exprs.1

abbrev pub three_listed : Expr × (Expr × Expr) → List Expr
three_listed exprs = exprs.0 ∷ two_listed exprs.1

-- what reading a list of two operands answers, and one of three
abbrev pub IsTwoReading : FormPlace → ℕ → Option (List OrderedJson) → Result (Expr × Expr) FormFault → Type 0
IsTwoReading answered unknown jsons result = IsListReading answered unknown (if_two jsons) (made_of two_listed result)

abbrev pub IsThreeReading : FormPlace → ℕ → Option (List OrderedJson) → Result (Expr × (Expr × Expr)) FormFault → Type 0
IsThreeReading answered unknown jsons result = IsListReading answered unknown (if_three jsons) (made_of three_listed result)
