-- Objects as expressions, member by member.
use Rattle.std.proofs.Common.{◌≡◌, ℕ, Bool, true, false, List, [], ◌∷◌, ◌++◌, Option, None, Some, map, find, length, get_or, ◌<◌, ◌≤◌, ◌⊎◌, inl, inr, arith, refl, sym, ap, subst, ◌∙◌, rules, ◌||◌}
use Rattle.std.specs.Prelude.{Result, Ok, Err, option_map, unwrap_or, is_some, if◌then◌else◌}
use Rattle.std.specs.List.{list_any}
use Rattle.std.proofs.lemmas.List.{map-append}
use Rattle.ordered_json.specs.declared.json.Member.{Member}
use Rattle.ordered_json.specs.declared.json.OrderedJson.{OrderedJson}
use Rattle.ordered_json.specs.Words.{MemberParts, key_of, member_parts}
use Rattle.xs_model.specs.declared.expr.Expr.{Expr, the_lemmas}
use Rattle.xs_model.specs.declared.expr.Expr.TheOpen.{Expr-F}
use Rattle.xs_model.specs.declared.expr.Expr.TheVariants as expr
use Rattle.machine_json.specs.declared.expressions.FormPlace.{FormPlace}
use Rattle.machine_json.specs.declared.expressions.FormFault.{FormFault}
use Rattle.machine_json.specs.Expressions.{EachMeans, HasUnknownAmong, HasUnknownForm, MeansExpr, begins_with_dollar, more, none, object_form, object_place, only_operator, operands, place_at}
use Rattle.machine_json.specs.ExpressionParts.{HaveKeysAndMean, IsFirstUnknown, IsFormReading, MeansForm, lesser, values_under}
use Rattle.machine_json.specs.FirstFaults.{IsLeastPlace}
use Rattle.machine_json.proofs.ExpressionLemmas.{SoFar, form-means, so_far-means, so_far-unknown}

-- a member as the key and what stands under it
abbrev pub under_key : MemberParts → List ℕ × OrderedJson
under_key member = (member.key, member.value)

-- ---- lists

each-units : (jsons : List OrderedJson) (exprs : List Expr) → EachMeans jsons exprs → map (λ (j : OrderedJson). tt {0}) jsons ≡ map (λ (e : Expr). tt {0}) exprs
each-units _ _ none = refl
each-units _ _ (more json expr jsons exprs it each) = ap (λ (l : List (Unit {0})). tt {0} ∷ l) (each-units jsons exprs each)

pub list-means : (items : List OrderedJson) (parts : List Expr) → EachMeans items parts → MeansForm (Expr-F.List items) (expr.List parts)
list-means items parts each = form-means (Expr-F.List items) (expr.List parts) (Expr-F.List parts) (search (rules, the_lemmas))
    (ap (λ (l : List (Unit {0})). Expr-F.List l) (each-units items parts each)) each

-- ---- the first key that begins with `$`

pub find-parts : (members : List Member) → find (λ (m : MemberParts). begins_with_dollar m.key) (map member_parts members) ≡ option_map member_parts (find (λ (m : Member). begins_with_dollar (key_of m)) members)
find-parts [] = refl
find-parts (m ∷ ms) = elim (begins_with_dollar (key_of m)) as (λ b. (if b then Some (member_parts m) else find (λ (x : MemberParts). begins_with_dollar x.key) (map member_parts ms)) ≡ option_map member_parts (if b then Some m else find (λ (x : Member). begins_with_dollar (key_of x)) ms)) [ true ↦ refl | false ↦ find-parts ms ]

any-find : (members : List Member) → list_any (λ (m : MemberParts). begins_with_dollar m.key) (map member_parts members) ≡ is_some (find (λ (m : Member). begins_with_dollar (key_of m)) members)
any-find [] = refl
any-find (m ∷ ms) = elim (begins_with_dollar (key_of m)) as (λ b. (b || list_any (λ (x : MemberParts). begins_with_dollar x.key) (map member_parts ms)) ≡ is_some (if b then Some m else find (λ (x : Member). begins_with_dollar (key_of x)) ms)) [ true ↦ refl | false ↦ any-find ms ]

-- an object without such a key is a map
pub map-form : (members : List Member) → find (λ (m : Member). begins_with_dollar (key_of m)) members ≡ None → object_form (map member_parts members) ≡ Some (Expr-F.Map (map under_key (map member_parts members)))
map-form members is =
    ap (λ (b : Bool). if b then only_operator (map member_parts members) else Some (Expr-F.Map (map under_key (map member_parts members))))
    (any-find members ∙ ap (λ (o : Option Member). is_some o) is)

-- an object with such a key is an operator or in no form
pub operator-form : (members : List Member) (m : Member) → find (λ (x : Member). begins_with_dollar (key_of x)) members ≡ Some m → object_form (map member_parts members) ≡ only_operator (map member_parts members)
operator-form members m is =
    ap (λ (b : Bool). if b then only_operator (map member_parts members) else Some (Expr-F.Map (map under_key (map member_parts members))))
    (any-find members ∙ ap (λ (o : Option Member). is_some o) is)

-- where such an object is answered
pub operator-place : (answered : FormPlace) (members : List Member) (m : Member) (place : ℕ) → find (λ (x : Member). begins_with_dollar (key_of x)) members ≡ Some m → object_place answered place (map member_parts members) ≡ place_at answered place (member_parts m).key_place
operator-place answered members m place is =
    ap (λ (o : Option MemberParts). place_at answered place (unwrap_or (option_map (λ (x : MemberParts). x.key_place) o) place))
    (find-parts members ∙ ap (λ (o : Option Member). option_map member_parts o) is)

-- of several members none is the operator
pub only-none : (members : List Member) → (length members < 1) ⊎ (2 ≤ length members) → only_operator (map member_parts members) ≡ None
only-none [] h = refl
only-none (m ∷ []) (inl low) = absurd (omega arith)
only-none (m ∷ []) (inr high) = absurd (omega arith)
only-none (m ∷ n ∷ rest) h = refl

pub only-one : (members : List Member) (m : Member) → 1 ≤ length members → length members < 2 → m ≡ get_or members 0 m → members ≡ m ∷ []
only-one [] m low high is = absurd (omega arith)
only-one (x ∷ []) m low high is = search rules
only-one (x ∷ y ∷ rest) m low high is = absurd (omega arith)

-- what reading such an object answers
pub operator-reading : (answered : FormPlace) (place unknown : ℕ) (members : List Member) (m : Member) (form : Option (Expr-F OrderedJson)) (result : Result Expr FormFault) → find (λ (x : Member). begins_with_dollar (key_of x)) members ≡ Some m → unknown ≡ place_at answered place (member_parts m).key_place → only_operator (map member_parts members) ≡ form → IsFormReading answered unknown form result → IsFormReading answered (object_place answered place (map member_parts members)) (object_form (map member_parts members)) result
operator-reading answered place unknown members m form result found unknown_is is h =
    subst (λ (o : Option (Expr-F OrderedJson)). IsFormReading answered (object_place answered place (map member_parts members)) o result) (sym (operator-form members m found ∙ is))
    (subst (λ (n : ℕ). IsFormReading answered n form result) (unknown_is ∙ sym (operator-place answered members m place found)) h)

-- ---- maps

-- a key without what stands under it
abbrev bare : List ℕ → List ℕ × Unit {0}
bare key = (key, tt {0})

key_units : (parts : List (List ℕ × Expr)) → map (λ (p : List ℕ × Expr). bare p.0) parts ≡ map bare (map (λ (p : List ℕ × Expr). p.0) parts)
key_units [] = refl
key_units (p ∷ ps) = ap (λ (l : List (List ℕ × Unit {0})). bare p.0 ∷ l) (key_units ps)

member_units : (members : List MemberParts) → map (λ (p : List ℕ × OrderedJson). bare p.0) (map under_key members) ≡ map bare (map (λ (m : MemberParts). m.key) members)
member_units [] = refl
member_units (m ∷ ms) = ap (λ (l : List (List ℕ × Unit {0})). bare m.key ∷ l) (member_units ms)

pub map-operands : (members : List MemberParts) → operands (Expr-F.Map (map under_key members)) ≡ values_under members
map-operands [] = refl
map-operands (m ∷ ms) = ap (λ (l : List OrderedJson). m.value ∷ l) (map-operands ms)

pub map-means : (members : List MemberParts) (parts : List (List ℕ × Expr)) → HaveKeysAndMean members parts → MeansForm (Expr-F.Map (map under_key members)) (expr.Map parts)
map-means members parts have = form-means (Expr-F.Map (map under_key members)) (expr.Map parts) (Expr-F.Map parts) (search (rules, the_lemmas))
    (ap (λ (l : List (List ℕ × Unit {0})). Expr-F.Map l) (member_units members ∙ ap (λ (l : List (List ℕ)). map bare l) have.keys ∙ sym (key_units parts)))
    (subst (λ (l : List OrderedJson). EachMeans l (map (λ (p : List ℕ × Expr). p.1) parts)) (sym (map-operands members)) have.values)

-- what reading an object that is a map answers
pub map-reading : (answered : FormPlace) (unknown : ℕ) (members : List Member) (parts : List (List ℕ × Expr)) → find (λ (m : Member). begins_with_dollar (key_of m)) members ≡ None → HaveKeysAndMean (map member_parts members) parts → IsFormReading answered unknown (object_form (map member_parts members)) (Ok (expr.Map parts))
map-reading answered unknown members parts found have =
    subst (λ (o : Option (Expr-F OrderedJson)). IsFormReading answered unknown o (Ok (expr.Map parts))) (sym (map-form members found)) (map-means (map member_parts members) parts have)

pub map-fault : (answered : FormPlace) (unknown : ℕ) (members : List Member) (fault : FormFault) → find (λ (m : Member). begins_with_dollar (key_of m)) members ≡ None → IsFirstUnknown answered (values_under (map member_parts members)) fault → IsFormReading answered unknown (object_form (map member_parts members)) (Err fault)
map-fault answered unknown members fault found h =
    subst (λ (o : Option (Expr-F OrderedJson)). IsFormReading answered unknown o (Err fault)) (sym (map-form members found))
    (subst (λ (l : List OrderedJson). IsFirstUnknown answered l fault) (sym (map-operands (map member_parts members))) h)

-- what is known after these members
abbrev pub MapSoFar : FormPlace → List MemberParts → List (List ℕ × Expr) → Option ℕ → Type 0
MapSoFar answered members parts None = HaveKeysAndMean members parts
MapSoFar answered members parts (Some place) = IsLeastPlace (HasUnknownAmong answered (values_under members)) place

pub map_so_far-means : (answered : FormPlace) (members : List MemberParts) (parts : List (List ℕ × Expr)) (least : Option ℕ) (member : MemberParts) (e : Expr) → MapSoFar answered members parts least → MeansExpr member.value e → MapSoFar answered (members ++ member ∷ []) (parts ++ (member.key, e) ∷ []) least
map_so_far-means answered members parts None member e have it = record {
  keys = map-append (λ (m : MemberParts). m.key) members (member ∷ []) ∙ ap (λ (l : List (List ℕ)). l ++ member.key ∷ []) have.keys
      ∙ sym (map-append (λ (p : List ℕ × Expr). p.0) parts ((member.key, e) ∷ []));
  values = subst (λ (l : List OrderedJson). EachMeans l (map (λ (p : List ℕ × Expr). p.1) (parts ++ (member.key, e) ∷ []))) (sym (map-append (λ (m : MemberParts). m.value) members (member ∷ [])))
      (subst (λ (l : List Expr). EachMeans (values_under members ++ member.value ∷ []) l) (sym (map-append (λ (p : List ℕ × Expr). p.1) parts ((member.key, e) ∷ [])))
      (so_far-means answered (values_under members) (map (λ (p : List ℕ × Expr). p.1) parts) None member.value e have.values it));
}
map_so_far-means answered members parts (Some place) member e least it =
    subst (λ (l : List OrderedJson). IsLeastPlace (HasUnknownAmong answered l) place) (sym (map-append (λ (m : MemberParts). m.value) members (member ∷ [])))
    (so_far-means answered (values_under members) [] (Some place) member.value e least it)

pub map_so_far-unknown : (answered : FormPlace) (members : List MemberParts) (parts : List (List ℕ × Expr)) (least : Option ℕ) (member : MemberParts) (place : ℕ) → MapSoFar answered members parts least → IsLeastPlace (HasUnknownForm answered member.value) place → MapSoFar answered (members ++ member ∷ []) parts (lesser least place)
map_so_far-unknown answered members parts None member place have here =
    subst (λ (l : List OrderedJson). IsLeastPlace (HasUnknownAmong answered l) place) (sym (map-append (λ (m : MemberParts). m.value) members (member ∷ [])))
    (so_far-unknown answered (values_under members) (map (λ (p : List ℕ × Expr). p.1) parts) None member.value place have.values here)
map_so_far-unknown answered members parts (Some other) member place least here =
    subst (λ (l : List OrderedJson). SoFar answered l [] (lesser (Some other) place)) (sym (map-append (λ (m : MemberParts). m.value) members (member ∷ [])))
    (so_far-unknown answered (values_under members) [] (Some other) member.value place least here)
