-- That the meaning of an expression is one.
use Rattle.std.proofs.Common.{◌≡◌, ℕ, List, [], ◌∷◌, map, refl, sym, ap, subst, ◌∙◌, rules}
use Rattle.ordered_json.specs.declared.json.OrderedJson.{OrderedJson}
use Rattle.xs_model.specs.declared.expr.Expr.{Expr, out-Expr, the_lemmas}
use Rattle.xs_model.specs.declared.expr.Expr.TheOpen.{Expr-F}
use Rattle.machine_json.specs.Expressions.{EachMeans, MeansExpr, means, more, none, operands, outline_of}
use Rattle.machine_json.proofs.ExpressionLemmas.{same_form}

-- keys with what stands under them
abbrev keyed : {X : Type 0} → List (List ℕ × Unit {0}) → List X → List (List ℕ × X)
keyed [] xs = []
keyed (key ∷ keys) [] = []
keyed (key ∷ keys) (x ∷ xs) = (key.0, x) ∷ keyed keys xs

-- a form of its outline and its operands
abbrev filled : {X : Type 0} → Expr-F (Unit {0}) → List X → Expr-F X
filled Expr-F.Null xs = Expr-F.Null
filled (Expr-F.Bool truth) xs = Expr-F.Bool truth
filled (Expr-F.Int number) xs = Expr-F.Int number
filled (Expr-F.Text text) xs = Expr-F.Text text
filled (Expr-F.List parts) xs = Expr-F.List xs
filled (Expr-F.Map parts) xs = Expr-F.Map (keyed parts xs)
filled (Expr-F.Path root path) xs = Expr-F.Path root path
filled (Expr-F.OrElse a b) (x ∷ y ∷ []) = Expr-F.OrElse x y
filled (Expr-F.Unary op a) (x ∷ []) = Expr-F.Unary op x
filled (Expr-F.Binary op a b) (x ∷ y ∷ []) = Expr-F.Binary op x y
filled (Expr-F.Connect op a b) (x ∷ y ∷ []) = Expr-F.Connect op x y
filled (Expr-F.If test a b) (x ∷ y ∷ z ∷ []) = Expr-F.If x y z
filled (Expr-F.Lit value) xs = Expr-F.Lit value
filled _ xs = Expr-F.Null

keyed-same : (parts : List (List ℕ × Expr)) → keyed (map (λ (part : List ℕ × Expr). let pair : List ℕ × Unit {0} = (part.0, tt {0}) in pair) parts) (map (λ (part : List ℕ × Expr). part.1) parts) ≡ parts
keyed-same [] = refl
keyed-same (p ∷ ps) = ap (λ (l : List (List ℕ × Expr)). p ∷ l) (keyed-same ps)

filled-same : (layer : Expr-F Expr) → filled (outline_of layer) (operands layer) ≡ layer
filled-same Expr-F.Null = refl
filled-same (Expr-F.Bool truth) = refl
filled-same (Expr-F.Int number) = refl
filled-same (Expr-F.Text text) = refl
filled-same (Expr-F.List parts) = refl
filled-same (Expr-F.Map parts) = ap (λ (l : List (List ℕ × Expr)). Expr-F.Map l) (keyed-same parts)
filled-same (Expr-F.Path root path) = refl
filled-same (Expr-F.OrElse a b) = refl
filled-same (Expr-F.Unary op a) = refl
filled-same (Expr-F.Binary op a b) = refl
filled-same (Expr-F.Connect op a b) = refl
filled-same (Expr-F.If test a b) = refl
filled-same (Expr-F.Lit value) = refl

-- an expression is told by its layer
layer-same : (e f : Expr) → out-Expr e ≡ out-Expr f → e ≡ f
layer-same e f is = search (rules, the_lemmas)

parts-same : (e f : Expr) → outline_of (out-Expr e) ≡ outline_of (out-Expr f) → operands (out-Expr e) ≡ operands (out-Expr f) → e ≡ f
parts-same e f outlines all = layer-same e f
    (sym (filled-same (out-Expr e)) ∙ ap (λ (o : Expr-F (Unit {0})). filled o (operands (out-Expr e))) outlines
    ∙ ap (λ (l : List Expr). filled (outline_of (out-Expr f)) l) all ∙ filled-same (out-Expr f))

cons-same : (e f : Expr) (es fs : List Expr) → e ≡ f → es ≡ fs → e ∷ es ≡ f ∷ fs
cons-same e f es fs first rest = cc

mutual
  pub meaning-same : (json : OrderedJson) (e f : Expr) → MeansExpr json e → MeansExpr json f → e ≡ f
  meaning-same json e f (means _ _ form is outline each) (means _ _ other other_is other_outline other_each) =
      let same : other ≡ form = same_form json form other is other_is in
      parts-same e f (sym outline ∙ ap (λ (o : Expr-F OrderedJson). outline_of o) (sym same) ∙ other_outline)
      (meanings-same (operands form) (operands (out-Expr e)) (operands (out-Expr f)) each
      (subst (λ (o : Expr-F OrderedJson). EachMeans (operands o) (operands (out-Expr f))) same other_each))

  pub meanings-same : (jsons : List OrderedJson) (es fs : List Expr) → EachMeans jsons es → EachMeans jsons fs → es ≡ fs
  meanings-same _ _ _ none none = refl
  meanings-same _ _ _ (more json e jsons es it each) (more _ f _ fs other other_each) =
      cons-same e f es fs (meaning-same json e f it other) (meanings-same jsons es fs each other_each)
