-- Meanings and unknown forms of expressions.
use Rattle.std.proofs.Common.{◌≡◌, ℕ, ℤ, Bool, ◌≤◌, ◌<◌, min, length, get_or, ◌⊎◌, inl, inr, List, [], ◌∷◌, ◌++◌, Option, None, Some, map, refl, sym, ap, subst, ◌∙◌, arith, rules}
use Rattle.std.specs.Prelude.{Result, Ok, Err, option_and_then, option_map}
use Rattle.ordered_json.specs.declared.json.Member.{Member}
use Rattle.ordered_json.specs.declared.json.OrderedJson.{OrderedJson, the_lemmas as json_lemmas}
use Rattle.ordered_json.specs.declared.json.OrderedJson.TheVariants as json
use Rattle.ordered_json.specs.Words.{MemberParts, as_list, member_parts}
use Rattle.xs_model.specs.declared.expr.Expr.{Expr, out-Expr, the_lemmas}
use Rattle.xs_model.specs.declared.expr.Expr.TheOpen.{Expr-F}
use Rattle.xs_model.specs.declared.expr.Expr.TheVariants as expr
use Rattle.xs_model.specs.declared.expr.Binary.{Binary}
use Rattle.xs_model.specs.declared.expr.Connective.{Connective}
use Rattle.xs_model.specs.declared.expr.PathRoot.{PathRoot}
use Rattle.xs_model.specs.declared.expr.Unary.{Unary}
use Rattle.xs_model.specs.declared.value.Value.{Value}
use Rattle.machine_json.specs.declared.expressions.FormPlace.{FormPlace}
use Rattle.machine_json.specs.declared.expressions.FormFault.{FormFault}
use Rattle.machine_json.specs.declared.expressions.FormFault.TheVariants.{Unknown, Memory}
use Rattle.machine_json.specs.declared.expressions.Operator.{Operator}
use Rattle.machine_json.specs.Expressions.{EachMeans, HasUnknownAmong, HasUnknownForm, IsExpressionReading, MeansExpr, member_form, object_form, object_place, operator_form, operator_of, over_three, over_two, first, form_of, form_place, itself, later, means, more, none, operands, outline_of, within}
use Rattle.machine_json.specs.ExpressionParts.{IsEachReading, IsFirstUnknown, IsFormReading, IsListReading, IsPathReading, IsTwoReading, IsThreeReading, MeansForm, joined, lesser, made_of, one_listed, three_listed, two_listed}
use Rattle.machine_json.specs.FirstFaults.{IsLeastPlace}

-- ---- one meaning or a fault, never both

-- the form of JSON is one
pub same_form : (json : OrderedJson) (form other : Expr-F OrderedJson) → form_of json ≡ Some form → form_of json ≡ Some other → other ≡ form
same_form json form other is other_is = cc

no_form : (json : OrderedJson) (form : Expr-F OrderedJson) → form_of json ≡ Some form → form_of json ≡ None → ⊥
no_form json form is none_is = cc

mutual
  -- JSON that means an expression has no unknown form
  pub meaning_excludes : (answered : FormPlace) (json : OrderedJson) (expr : Expr) (place : ℕ) → MeansExpr json expr → HasUnknownForm answered json place → ⊥
  meaning_excludes answered json expr place (means _ _ form is outline each) (itself _ _ none_is) = no_form json form is none_is
  meaning_excludes answered json expr place (means _ _ form is outline each) (within _ _ other _ other_is among) =
      meanings_exclude answered (operands form) (operands (out-Expr expr)) place each
      (subst (λ (f : Expr-F OrderedJson). HasUnknownAmong answered (operands f) place) (same_form json form other is other_is) among)

  pub meanings_exclude : (answered : FormPlace) (jsons : List OrderedJson) (exprs : List Expr) (place : ℕ) → EachMeans jsons exprs → HasUnknownAmong answered jsons place → ⊥
  meanings_exclude answered _ _ place none h = elim h [ ]
  meanings_exclude answered _ _ place (more json expr jsons exprs means_it each) (first _ _ _ _ has) = meaning_excludes answered json expr place means_it has
  meanings_exclude answered _ _ place (more json expr jsons exprs means_it each) (later _ _ _ _ has) = meanings_exclude answered jsons exprs place each has

-- ---- one more

pub each-push : (jsons : List OrderedJson) (exprs : List Expr) (json : OrderedJson) (expr : Expr) → EachMeans jsons exprs → MeansExpr json expr → EachMeans (jsons ++ json ∷ []) (exprs ++ expr ∷ [])
each-push _ _ json expr none it = more json expr [] [] it none
each-push _ _ json expr (more j e js es it_too each) it = more j e (js ++ json ∷ []) (es ++ expr ∷ []) it_too (each-push js es json expr each it)

among-left : (answered : FormPlace) (jsons rest : List OrderedJson) (place : ℕ) → HasUnknownAmong answered jsons place → HasUnknownAmong answered (jsons ++ rest) place
among-left answered _ rest place (first _ j js _ has) = first answered j (js ++ rest) place has
among-left answered _ rest place (later _ j js _ has) = later answered j (js ++ rest) place (among-left answered js rest place has)

among-last : (answered : FormPlace) (jsons : List OrderedJson) (json : OrderedJson) (place : ℕ) → HasUnknownForm answered json place → HasUnknownAmong answered (jsons ++ json ∷ []) place
among-last answered [] json place has = first answered json [] place has
among-last answered (j ∷ js) json place has = later answered j (js ++ json ∷ []) place (among-last answered js json place has)

later_either : (answered : FormPlace) (j : OrderedJson) (js : List OrderedJson) (json : OrderedJson) (place : ℕ) → HasUnknownAmong answered js place ⊎ HasUnknownForm answered json place → HasUnknownAmong answered (j ∷ js) place ⊎ HasUnknownForm answered json place
later_either answered j js json place (inl has) = inl (later answered j js place has)
later_either answered j js json place (inr has) = inr has

pub among-split : (answered : FormPlace) (jsons : List OrderedJson) (json : OrderedJson) (place : ℕ) → HasUnknownAmong answered (jsons ++ json ∷ []) place → HasUnknownAmong answered jsons place ⊎ HasUnknownForm answered json place
among-split answered [] json place (first _ _ _ _ has) = inr has
among-split answered [] json place (later _ _ _ _ has) = elim has [ ]
among-split answered (j ∷ js) json place (first _ _ _ _ has) = inl (first answered j js place has)
among-split answered (j ∷ js) json place (later _ _ _ _ has) = later_either answered j js json place (among-split answered js json place has)

-- ---- the least of two

le_or : (p q : ℕ) → (p ≤ q) ⊎ (q ≤ p)
le_or p q = search (rules, arith)

-- the least of two kinds of places
pub least_min : (A B C : ℕ → Type 0) (p q : ℕ) → IsLeastPlace A p → IsLeastPlace B q → ((n : ℕ) → A n → C n) → ((n : ℕ) → B n → C n) → ((n : ℕ) → C n → A n ⊎ B n) → IsLeastPlace C (min p q)
least_min A B C p q a b from_a from_b split = record {
  there = elim (le_or p q) [
    | inl below ↦ subst C (omega arith) (from_a p a.there)
    | inr above ↦ subst C (omega arith) (from_b q b.there)
  ];
  no_earlier = λ other has. elim (split other has) [
    | inl in_a ↦ omega (arith, a.no_earlier other in_a)
    | inr in_b ↦ omega (arith, b.no_earlier other in_b)
  ];
}

-- the least where the other kind has no place
pub least_left : (A B C : ℕ → Type 0) (p : ℕ) → IsLeastPlace A p → ((n : ℕ) → B n → ⊥) → ((n : ℕ) → A n → C n) → ((n : ℕ) → C n → A n ⊎ B n) → IsLeastPlace C p
least_left A B C p a no_b from_a split = record {
  there = from_a p a.there;
  no_earlier = λ other has. elim (split other has) [
    | inl in_a ↦ a.no_earlier other in_a
    | inr in_b ↦ absurd (no_b other in_b)
  ];
}

pub least_right : (A B C : ℕ → Type 0) (q : ℕ) → IsLeastPlace B q → ((n : ℕ) → A n → ⊥) → ((n : ℕ) → B n → C n) → ((n : ℕ) → C n → A n ⊎ B n) → IsLeastPlace C q
least_right A B C q b no_a from_b split = record {
  there = from_b q b.there;
  no_earlier = λ other has. elim (split other has) [
    | inl in_a ↦ absurd (no_a other in_a)
    | inr in_b ↦ b.no_earlier other in_b
  ];
}

-- ---- a loop over a list

-- what is known after these: what they mean so far, or the least place so far
abbrev pub SoFar : FormPlace → List OrderedJson → List Expr → Option ℕ → Type 0
SoFar answered jsons exprs None = EachMeans jsons exprs
SoFar answered jsons exprs (Some place) = IsLeastPlace (HasUnknownAmong answered jsons) place

pub so_far-means : (answered : FormPlace) (jsons : List OrderedJson) (exprs : List Expr) (least : Option ℕ) (json : OrderedJson) (expr : Expr) → SoFar answered jsons exprs least → MeansExpr json expr → SoFar answered (jsons ++ json ∷ []) (exprs ++ expr ∷ []) least
so_far-means answered jsons exprs None json expr each it = each-push jsons exprs json expr each it
so_far-means answered jsons exprs (Some place) json expr least it =
    least_left (HasUnknownAmong answered jsons) (HasUnknownForm answered json) (HasUnknownAmong answered (jsons ++ json ∷ [])) place least
    (λ other has. meaning_excludes answered json expr other it has) (λ n has. among-left answered jsons (json ∷ []) n has) (λ n has. among-split answered jsons json n has)

pub so_far-unknown : (answered : FormPlace) (jsons : List OrderedJson) (exprs : List Expr) (least : Option ℕ) (json : OrderedJson) (place : ℕ) → SoFar answered jsons exprs least → IsLeastPlace (HasUnknownForm answered json) place → SoFar answered (jsons ++ json ∷ []) exprs (lesser least place)
so_far-unknown answered jsons exprs None json place each here =
    least_right (HasUnknownAmong answered jsons) (HasUnknownForm answered json) (HasUnknownAmong answered (jsons ++ json ∷ [])) place here
    (λ other has. meanings_exclude answered jsons exprs other each has) (λ n has. among-last answered jsons json n has) (λ n has. among-split answered jsons json n has)
so_far-unknown answered jsons exprs (Some other) json place least here =
    least_min (HasUnknownAmong answered jsons) (HasUnknownForm answered json) (HasUnknownAmong answered (jsons ++ json ∷ [])) other place least here
    (λ n has. among-left answered jsons (json ∷ []) n has) (λ n has. among-last answered jsons json n has) (λ n has. among-split answered jsons json n has)

-- ---- operands one by one

first_or_later : (answered : FormPlace) (json : OrderedJson) (jsons : List OrderedJson) (place : ℕ) → HasUnknownAmong answered (json ∷ jsons) place → HasUnknownForm answered json place ⊎ HasUnknownAmong answered jsons place
first_or_later answered json jsons place (first _ _ _ _ has) = inl has
first_or_later answered json jsons place (later _ _ _ _ has) = inr has

pub each-joined : {X : Type 0} (answered : FormPlace) (json : OrderedJson) (jsons : List OrderedJson) (listed : X → List Expr) (one : Result Expr FormFault) (others : Result X FormFault) → IsExpressionReading answered json one → IsEachReading answered jsons (made_of listed others) → IsEachReading answered (json ∷ jsons) (made_of (λ (p : Expr × X). p.0 ∷ listed p.1) (joined one others))
each-joined answered json jsons listed (Ok expr) (Ok x) it each = more json expr jsons (listed x) it each
each-joined answered json jsons listed (Ok expr) (Err Memory) it each = tt
each-joined answered json jsons listed (Ok expr) (Err (Unknown q)) it least =
    least_right (HasUnknownForm answered json) (HasUnknownAmong answered jsons) (HasUnknownAmong answered (json ∷ jsons)) q least
    (λ other has. meaning_excludes answered json expr other it has) (λ n has. later answered json jsons n has) (λ n has. first_or_later answered json jsons n has)
each-joined answered json jsons listed (Err Memory) (Ok x) it each = tt
each-joined answered json jsons listed (Err (Unknown p)) (Ok x) it each =
    least_left (HasUnknownForm answered json) (HasUnknownAmong answered jsons) (HasUnknownAmong answered (json ∷ jsons)) p it
    (λ other has. meanings_exclude answered jsons (listed x) other each has) (λ n has. first answered json jsons n has) (λ n has. first_or_later answered json jsons n has)
each-joined answered json jsons listed (Err Memory) (Err fault) it each = tt
each-joined answered json jsons listed (Err (Unknown p)) (Err Memory) it each = tt
each-joined answered json jsons listed (Err (Unknown p)) (Err (Unknown q)) it least =
    least_min (HasUnknownForm answered json) (HasUnknownAmong answered jsons) (HasUnknownAmong answered (json ∷ jsons)) p q it least
    (λ n has. first answered json jsons n has) (λ n has. later answered json jsons n has) (λ n has. first_or_later answered json jsons n has)

pub each-one : (answered : FormPlace) (json : OrderedJson) (one : Result Expr FormFault) → IsExpressionReading answered json one → IsEachReading answered (json ∷ []) (made_of one_listed one)
each-one answered json (Ok expr) it = more json expr [] [] it none
each-one answered json (Err Memory) it = tt
each-one answered json (Err (Unknown place)) least =
    least_left (HasUnknownForm answered json) (HasUnknownAmong answered []) (HasUnknownAmong answered (json ∷ [])) place least
    (λ other has. elim has [ ]) (λ n has. first answered json [] n has) (λ n has. first_or_later answered json [] n has)

-- ---- one form

only_itself : (answered : FormPlace) (json : OrderedJson) (place other : ℕ) → form_of json ≡ None → place ≡ form_place answered json → HasUnknownForm answered json other → place ≤ other
only_itself answered json place _ is h (itself _ _ _) = omega arith
only_itself answered json place other is h (within _ _ form _ form_is _) = absurd (no_form json form form_is is)

among_operands : (answered : FormPlace) (json : OrderedJson) (form : Expr-F OrderedJson) (place other : ℕ) → form_of json ≡ Some form → IsLeastPlace (HasUnknownAmong answered (operands form)) place → HasUnknownForm answered json other → place ≤ other
among_operands answered json form place _ is least (itself _ _ none_is) = absurd (no_form json form is none_is)
among_operands answered json form place other is least (within _ _ form' _ form_is has) =
    least.no_earlier other (subst (λ (f : Expr-F OrderedJson). HasUnknownAmong answered (operands f) other) (same_form json form form' is form_is) has)

-- what reading the form of JSON answers is what reading the JSON answers
pub reading-from_form : (answered : FormPlace) (json : OrderedJson) (result : Result Expr FormFault) (form : Option (Expr-F OrderedJson)) → form_of json ≡ form → IsFormReading answered (form_place answered json) form result → IsExpressionReading answered json result
reading-from_form answered json (Ok expr) None is h = absurd h
reading-from_form answered json (Ok expr) (Some form) is h = means json expr form is h.outline h.each
reading-from_form answered json (Err Memory) form is h = tt
reading-from_form answered json (Err (Unknown place)) None is h = record {
  there = subst (HasUnknownForm answered json) (sym h) (itself answered json is);
  no_earlier = λ other has. only_itself answered json place other is h has;
}
reading-from_form answered json (Err (Unknown place)) (Some form) is h = record {
  there = within answered json form place is h.there;
  no_earlier = λ other has. among_operands answered json form place other is h has;
}

-- an expression by its layer
pub form-means : (form : Expr-F OrderedJson) (expr : Expr) (layer : Expr-F Expr) → out-Expr expr ≡ layer → outline_of form ≡ outline_of layer → EachMeans (operands form) (operands layer) → MeansForm form expr
form-means form expr layer is outline each = record {
  outline = outline ∙ ap (λ (l : Expr-F Expr). outline_of l) (sym is);
  each = subst (λ (l : Expr-F Expr). EachMeans (operands form) (operands l)) (sym is) each;
}

-- an operator over one operand
pub unary-reading : (answered : FormPlace) (unknown : ℕ) (op : Unary) (json : OrderedJson) (one : Result Expr FormFault) → IsExpressionReading answered json one → IsFormReading answered unknown (Some (Expr-F.Unary op json)) (made_of (expr.Unary op) one)
unary-reading answered unknown op json (Ok e) it = form-means (Expr-F.Unary op json) (expr.Unary op e) (Expr-F.Unary op e) (search (rules, the_lemmas)) refl (more json e [] [] it none)
unary-reading answered unknown op json (Err Memory) it = tt
unary-reading answered unknown op json (Err (Unknown place)) it = each-one answered json (Err (Unknown place)) it

-- where there are no operands the answer is that of no form
no_form-reading : {X : Type 0} (answered : FormPlace) (unknown : ℕ) (listed : X → List Expr) (make : X → Expr) (result : Result X FormFault) → IsListReading answered unknown None (made_of listed result) → IsFormReading answered unknown None (made_of make result)
no_form-reading answered unknown listed make (Ok x) h = h
no_form-reading answered unknown listed make (Err Memory) h = h
no_form-reading answered unknown listed make (Err (Unknown place)) h = h

-- an operator over two operands
pub two-reading : (answered : FormPlace) (unknown : ℕ) (form : OrderedJson → OrderedJson → Expr-F OrderedJson) (make : Expr → Expr → Expr) → ((a b : OrderedJson) → operands (form a b) ≡ a ∷ b ∷ []) → ((a b : OrderedJson) (x y : Expr) → EachMeans (a ∷ b ∷ []) (x ∷ y ∷ []) → MeansForm (form a b) (make x y)) → (jsons : Option (List OrderedJson)) (result : Result (Expr × Expr) FormFault) → IsTwoReading answered unknown jsons result → IsFormReading answered unknown (option_and_then (over_two form) jsons) (made_of (λ (p : Expr × Expr). make p.0 p.1) result)
two-reading answered unknown form make over means_it None result h = no_form-reading answered unknown two_listed (λ (p : Expr × Expr). make p.0 p.1) result h
two-reading answered unknown form make over means_it (Some []) result h = no_form-reading answered unknown two_listed (λ (p : Expr × Expr). make p.0 p.1) result h
two-reading answered unknown form make over means_it (Some (a ∷ [])) result h = no_form-reading answered unknown two_listed (λ (p : Expr × Expr). make p.0 p.1) result h
two-reading answered unknown form make over means_it (Some (a ∷ b ∷ [])) (Ok p) h = means_it a b p.0 p.1 h
two-reading answered unknown form make over means_it (Some (a ∷ b ∷ [])) (Err fault) h = subst (λ (js : List OrderedJson). IsFirstUnknown answered js fault) (sym (over a b)) h
two-reading answered unknown form make over means_it (Some (a ∷ b ∷ c ∷ rest)) result h = no_form-reading answered unknown two_listed (λ (p : Expr × Expr). make p.0 p.1) result h

pub or_else-reading : (answered : FormPlace) (unknown : ℕ) (jsons : Option (List OrderedJson)) (result : Result (Expr × Expr) FormFault) → IsTwoReading answered unknown jsons result → IsFormReading answered unknown (option_and_then (over_two Expr-F.OrElse) jsons) (made_of (λ (p : Expr × Expr). expr.OrElse p.0 p.1) result)
or_else-reading answered unknown jsons result h = two-reading answered unknown Expr-F.OrElse expr.OrElse (λ a b. refl)
    (λ a b x y each. form-means (Expr-F.OrElse a b) (expr.OrElse x y) (Expr-F.OrElse x y) (search (rules, the_lemmas)) refl each) jsons result h

pub binary-reading : (answered : FormPlace) (unknown : ℕ) (op : Binary) (jsons : Option (List OrderedJson)) (result : Result (Expr × Expr) FormFault) → IsTwoReading answered unknown jsons result → IsFormReading answered unknown (option_and_then (over_two (Expr-F.Binary op)) jsons) (made_of (λ (p : Expr × Expr). expr.Binary op p.0 p.1) result)
binary-reading answered unknown op jsons result h = two-reading answered unknown (Expr-F.Binary op) (expr.Binary op) (λ a b. refl)
    (λ a b x y each. form-means (Expr-F.Binary op a b) (expr.Binary op x y) (Expr-F.Binary op x y) (search (rules, the_lemmas)) refl each) jsons result h

pub connect-reading : (answered : FormPlace) (unknown : ℕ) (op : Connective) (jsons : Option (List OrderedJson)) (result : Result (Expr × Expr) FormFault) → IsTwoReading answered unknown jsons result → IsFormReading answered unknown (option_and_then (over_two (Expr-F.Connect op)) jsons) (made_of (λ (p : Expr × Expr). expr.Connect op p.0 p.1) result)
connect-reading answered unknown op jsons result h = two-reading answered unknown (Expr-F.Connect op) (expr.Connect op) (λ a b. refl)
    (λ a b x y each. form-means (Expr-F.Connect op a b) (expr.Connect op x y) (Expr-F.Connect op x y) (search (rules, the_lemmas)) refl each) jsons result h

abbrev if_of : Expr × (Expr × Expr) → Expr
if_of p = expr.If p.0 p.1.0 p.1.1

-- `$if`, over three
pub if-reading : (answered : FormPlace) (unknown : ℕ) (jsons : Option (List OrderedJson)) (result : Result (Expr × (Expr × Expr)) FormFault) → IsThreeReading answered unknown jsons result → IsFormReading answered unknown (option_and_then (over_three Expr-F.If) jsons) (made_of (λ (p : Expr × (Expr × Expr)). expr.If p.0 p.1.0 p.1.1) result)
if-reading answered unknown None result h = no_form-reading answered unknown three_listed if_of result h
if-reading answered unknown (Some []) result h = no_form-reading answered unknown three_listed if_of result h
if-reading answered unknown (Some (a ∷ [])) result h = no_form-reading answered unknown three_listed if_of result h
if-reading answered unknown (Some (a ∷ b ∷ [])) result h = no_form-reading answered unknown three_listed if_of result h
if-reading answered unknown (Some (a ∷ b ∷ c ∷ [])) (Ok p) h = form-means (Expr-F.If a b c) (expr.If p.0 p.1.0 p.1.1) (Expr-F.If p.0 p.1.0 p.1.1) (search (rules, the_lemmas)) refl h
if-reading answered unknown (Some (a ∷ b ∷ c ∷ [])) (Err fault) h = h
if-reading answered unknown (Some (a ∷ b ∷ c ∷ d ∷ rest)) result h = no_form-reading answered unknown three_listed if_of result h

pub path-reading : (answered : FormPlace) (unknown : ℕ) (root : PathRoot) (path : Option (List ℕ)) (result : Result Expr FormFault) → IsPathReading root unknown path result → IsFormReading answered unknown (option_map (Expr-F.Path root) path) result
path-reading answered unknown root None (Ok e) h = h
path-reading answered unknown root None (Err (Unknown place)) h = h
path-reading answered unknown root None (Err Memory) h = h
path-reading answered unknown root (Some path) (Ok e) is = form-means (Expr-F.Path root path) e (Expr-F.Path root path) is refl none
path-reading answered unknown root (Some path) (Err (Unknown place)) h = absurd h
path-reading answered unknown root (Some path) (Err Memory) h = h

pub lit-reading : (answered : FormPlace) (unknown : ℕ) (value given : Value) → given ≡ value → IsFormReading answered unknown (Some (Expr-F.Lit value)) (Ok (expr.Lit given))
lit-reading answered unknown value given is = form-means (Expr-F.Lit value) (expr.Lit given) (Expr-F.Lit given) (search (rules, the_lemmas)) (ap (λ (v : Value). Expr-F.Lit v) (sym is)) none

-- ---- lists of exactly two and three

pub exact-two : (items : List OrderedJson) (a b : OrderedJson) → 2 ≤ length items → length items < 3 → a ≡ get_or items 0 a → b ≡ get_or items 1 b → items ≡ a ∷ b ∷ []
exact-two [] a b low high first_is second_is = absurd (omega arith)
exact-two (x ∷ []) a b low high first_is second_is = absurd (omega arith)
exact-two (x ∷ y ∷ []) a b low high first_is second_is = search rules
exact-two (x ∷ y ∷ z ∷ rest) a b low high first_is second_is = absurd (omega arith)

pub exact-three : (items : List OrderedJson) (a b c : OrderedJson) → 3 ≤ length items → length items < 4 → a ≡ get_or items 0 a → b ≡ get_or items 1 b → c ≡ get_or items 2 c → items ≡ a ∷ b ∷ c ∷ []
exact-three [] a b c low high a_is b_is c_is = absurd (omega arith)
exact-three (x ∷ []) a b c low high a_is b_is c_is = absurd (omega arith)
exact-three (x ∷ y ∷ []) a b c low high a_is b_is c_is = absurd (omega arith)
exact-three (x ∷ y ∷ z ∷ []) a b c low high a_is b_is c_is = search rules
exact-three (x ∷ y ∷ z ∷ w ∷ rest) a b c low high a_is b_is c_is = absurd (omega arith)

-- ---- kind by kind

-- what a form means whose layer is known
means-form : (json : OrderedJson) (form : Expr-F OrderedJson) (e : Expr) → form_of json ≡ Some form → MeansForm form e → MeansExpr json e
means-form json form e is h = means json e form is h.outline h.each

pub null-means : (place : ℕ) → MeansExpr (json.Null place) expr.Null
null-means place = means-form (json.Null place) Expr-F.Null expr.Null (search (rules, json_lemmas)) (form-means Expr-F.Null expr.Null Expr-F.Null (search (rules, the_lemmas)) refl none)

pub bool-means : (place : ℕ) (truth : Bool) → MeansExpr (json.Bool place truth) (expr.Bool truth)
bool-means place truth = means-form (json.Bool place truth) (Expr-F.Bool truth) (expr.Bool truth) (search (rules, json_lemmas)) (form-means (Expr-F.Bool truth) (expr.Bool truth) (Expr-F.Bool truth) (search (rules, the_lemmas)) refl none)

pub int-means : (place : ℕ) (n : ℤ) → MeansExpr (json.Int place n) (expr.Int n)
int-means place n = means-form (json.Int place n) (Expr-F.Int n) (expr.Int n) (search (rules, json_lemmas)) (form-means (Expr-F.Int n) (expr.Int n) (Expr-F.Int n) (search (rules, the_lemmas)) refl none)

pub text-means : (place : ℕ) (text : List ℕ) → MeansExpr (json.Text place text) (expr.Text text)
text-means place text = means-form (json.Text place text) (Expr-F.Text text) (expr.Text text) (search (rules, json_lemmas)) (form-means (Expr-F.Text text) (expr.Text text) (Expr-F.Text text) (search (rules, the_lemmas)) refl none)

-- an array and an object, by what reading the parts answers
pub list-form : (place : ℕ) (items : List OrderedJson) → form_of (json.List place items) ≡ Some (Expr-F.List items)
list-form place items = search (rules, json_lemmas)

pub object-form : (place : ℕ) (members : List Member) → form_of (json.Object place members) ≡ object_form (map member_parts members)
object-form place members = search (rules, json_lemmas)

pub object-place : (answered : FormPlace) (place : ℕ) (members : List Member) → form_place answered (json.Object place members) ≡ object_place answered place (map member_parts members)
object-place answered place members = search (rules, json_lemmas)

pub list-items : (place : ℕ) (items : List OrderedJson) → as_list (json.List place items) ≡ Some items
list-items place items = search (rules, json_lemmas)

-- an object's only member by its operator
pub member-reading : (answered : FormPlace) (unknown : ℕ) (member : MemberParts) (op : Operator) (result : Result Expr FormFault) → operator_of member.key ≡ Some op → IsFormReading answered unknown (operator_form member.value op) result → IsFormReading answered unknown (member_form member) result
member-reading answered unknown member op result is h = subst (λ (o : Option Operator). IsFormReading answered unknown (option_and_then (operator_form member.value) o) result) (sym is) h

-- two and three operands in a list
pub two-joined : (answered : FormPlace) (unknown : ℕ) (under : Option (List OrderedJson)) (a b : OrderedJson) (first_one second_one : Result Expr FormFault) (result : Result (Expr × Expr) FormFault) → under ≡ Some (a ∷ b ∷ []) → result ≡ joined first_one second_one → IsExpressionReading answered a first_one → IsExpressionReading answered b second_one → IsTwoReading answered unknown under result
two-joined answered unknown under a b first_one second_one result under_is is a_read b_read =
    subst (λ (u : Option (List OrderedJson)). IsTwoReading answered unknown u result) (sym under_is)
    (subst (λ (r : Result (Expr × Expr) FormFault). IsTwoReading answered unknown (Some (a ∷ b ∷ [])) r) (sym is)
    (each-joined answered a (b ∷ []) one_listed first_one second_one a_read (each-one answered b second_one b_read)))

pub three-joined : (answered : FormPlace) (unknown : ℕ) (under : Option (List OrderedJson)) (a b c : OrderedJson) (first_one second_one third_one : Result Expr FormFault) (result : Result (Expr × (Expr × Expr)) FormFault) → under ≡ Some (a ∷ b ∷ c ∷ []) → result ≡ joined first_one (joined second_one third_one) → IsExpressionReading answered a first_one → IsExpressionReading answered b second_one → IsExpressionReading answered c third_one → IsThreeReading answered unknown under result
three-joined answered unknown under a b c first_one second_one third_one result under_is is a_read b_read c_read =
    subst (λ (u : Option (List OrderedJson)). IsThreeReading answered unknown u result) (sym under_is)
    (subst (λ (r : Result (Expr × (Expr × Expr)) FormFault). IsThreeReading answered unknown (Some (a ∷ b ∷ c ∷ [])) r) (sym is)
    (each-joined answered a (b ∷ c ∷ []) two_listed first_one (joined second_one third_one) a_read
    (each-joined answered b (c ∷ []) one_listed second_one third_one b_read (each-one answered c third_one c_read))))
