-- Unequal values have unequal compact texts: from the first byte on, a text tells the value that it begins with.
use Rattle.std.proofs.Common.{◌≡◌, ℕ, ◌≤◌, true, false, cond, nat_lt, List, [], ◌∷◌, ◌++◌, map, pos, negsuc, decimal, refl, sym, ap, ◌∙◌, subst, arith, append_assoc, ◌==◌, get_or}
use Rattle.std.specs.Char.{digit_value}
use Rattle.std.specs.List.{AllByRecursion, join_with_byte}
use Rattle.std.specs.Str.Parse.{IsNumeral}
use Rattle.std.proofs.lemmas.Fmt.{decimal_is_IsNumeral}
use Rattle.xs_model.proofs.CompactLemmas.{map-keyed}
use Rattle.xs_model.proofs.PartLemmas.{Parts, by_parts, parts_every}
use Rattle.xs_model.proofs.SpellingLemmas.{EndsNumber, numbers_end, quoted_end}
use Rattle.xs_model.specs.Compact.{quoted_text, bracketed_text, layer_text, compact_text, keyed_text}
use Rattle.xs_model.specs.Laws.{IsOf64Bits, HasNumbersOf64Bits, CompactTextIsInjective}
use Rattle.xs_model.specs.declared.value.Value.{Value, out-Value}
use Rattle.xs_model.specs.declared.value.Value.TheFolds.{map-Value, fold-roll-Value, fold_out-Value, every_here-Value}
use Rattle.xs_model.specs.declared.value.Value.TheOpen.{Value-F}
use Rattle.xs_model.specs.declared.value.Value.TheViews.{roll-Value, roll-out-Value, out-roll-Value}

-- ---- lists of pieces

-- where a text of x stands, it is the text of no other that is fit, and what follows is the same
abbrev Tells : {X : Type 0} → (X → Type 0) → (X → List ℕ) → X → Type 0
Tells {X} Fit text x = (y : X) (r s : List ℕ) → Fit x → Fit y → EndsNumber r → EndsNumber s → text x ++ r ≡ text y ++ s → (x ≡ y) × (r ≡ s)

module _ {X : Type 0} (Fit : X → Type 0) (text : X → List ℕ) (closing : ℕ) (no_comma : closing ≡ 44 → ⊥) (no_digit : 10 ≤ digit_value closing)
    (opens : (x : X) (r s : List ℕ) → Fit x → text x ++ r ≡ closing ∷ s → ⊥) where
  -- the pieces after the first one, and then t
  abbrev after : List X → List ℕ → List ℕ
  after [] t = t
  after (x ∷ xs) t = 44 ∷ (text x ++ after xs t)

  joined : (x : X) (xs : List X) (t : List ℕ) → join_with_byte 44 (map text (x ∷ xs)) ++ t ≡ text x ++ after xs t
  joined x [] t = refl
  joined x (y ∷ ys) t = append_assoc (text x) (44 ∷ join_with_byte 44 (map text (y ∷ ys))) t ∙ ap (λ rest. text x ++ 44 ∷ rest) (joined y ys t)

  after_ends : (xs : List X) (r : List ℕ) → EndsNumber (after xs (closing ∷ r))
  after_ends [] r = no_digit
  after_ends (x ∷ xs) r = omega arith

  after_tells : (xs ys : List X) (r s : List ℕ) → AllByRecursion (Tells Fit text) xs → AllByRecursion Fit xs → AllByRecursion Fit ys
      → after xs (closing ∷ r) ≡ after ys (closing ∷ s) → (xs ≡ ys) × (r ≡ s)
  after_tells [] [] r s tells fx fy e = (refl, cc)
  after_tells [] (y ∷ ys) r s tells fx fy e = absurd (no_comma cc)
  after_tells (x ∷ xs) [] r s tells fx fy e = absurd (no_comma cc)
  after_tells (x ∷ xs) (y ∷ ys) r s tells fx fy e =
      let here : text x ++ after xs (closing ∷ r) ≡ text y ++ after ys (closing ∷ s) = cc in
      let one = tells.0 y (after xs (closing ∷ r)) (after ys (closing ∷ s)) fx.0 fy.0 (after_ends xs r) (after_ends ys s) here in
      let more = after_tells xs ys r s tells.1 fx.1 fy.1 one.1 in
      (λ i. one.0 i ∷ more.0 i, more.1)

  pub pieces_tell : (xs ys : List X) (r s : List ℕ) → AllByRecursion (Tells Fit text) xs → AllByRecursion Fit xs → AllByRecursion Fit ys
      → join_with_byte 44 (map text xs) ++ closing ∷ r ≡ join_with_byte 44 (map text ys) ++ closing ∷ s → (xs ≡ ys) × (r ≡ s)
  pieces_tell [] [] r s tells fx fy e = (refl, cc)
  pieces_tell [] (y ∷ ys) r s tells fx fy e = absurd (opens y (after ys (closing ∷ s)) r fy.0 (sym (joined y ys (closing ∷ s)) ∙ sym e))
  pieces_tell (x ∷ xs) [] r s tells fx fy e = absurd (opens x (after xs (closing ∷ r)) s fx.0 (sym (joined x xs (closing ∷ r)) ∙ e))
  pieces_tell (x ∷ xs) (y ∷ ys) r s tells fx fy e =
      let here = sym (joined x xs (closing ∷ r)) ∙ e ∙ joined y ys (closing ∷ s) in
      let one = tells.0 y (after xs (closing ∷ r)) (after ys (closing ∷ s)) fx.0 fy.0 (after_ends xs r) (after_ends ys s) here in
      let more = after_tells xs ys r s tells.1 fx.1 fy.1 one.1 in
      (λ i. one.0 i ∷ more.0 i, more.1)

-- in brackets
unbracketed : (opening closing : ℕ) (pieces others : List (List ℕ)) (r s : List ℕ) → bracketed_text opening closing pieces ++ r ≡ bracketed_text opening closing others ++ s
    → join_with_byte 44 pieces ++ closing ∷ r ≡ join_with_byte 44 others ++ closing ∷ s
unbracketed opening closing pieces others r s e =
    let inner : (join_with_byte 44 pieces ++ closing ∷ []) ++ r ≡ (join_with_byte 44 others ++ closing ∷ []) ++ s = cc in
    sym (append_assoc (join_with_byte 44 pieces) (closing ∷ []) r) ∙ inner ∙ append_assoc (join_with_byte 44 others) (closing ∷ []) s

-- ---- the first byte

-- what the first byte tells of the kind: a minus for each digit, `t` for `f`, and else itself
abbrev mark : List ℕ → ℕ
mark [] = 0
mark (c ∷ rest) = cond (nat_lt (digit_value c) 10) 45 (cond (c == 102) 116 c)

-- what the first byte of each kind's text tells
abbrev layer_mark : Value-F Value → ℕ
layer_mark Value-F.Null = 110
layer_mark (Value-F.Bool b) = 116
layer_mark (Value-F.Int number) = 45
layer_mark (Value-F.Text text) = 34
layer_mark (Value-F.List members) = 91
layer_mark (Value-F.Map members) = 123

numeral_mark : (ds r : List ℕ) → IsNumeral 10 ds → mark (ds ++ r) ≡ 45
numeral_mark [] r numeral = absurd (omega (arith, numeral.0))
numeral_mark (c ∷ ds) r numeral = grind (arith, numeral.1.0)

abbrev layer_of : Value-F Value → List ℕ
layer_of x = layer_text (map-Value Value (List ℕ) compact_text x)

marked : (x : Value-F Value) (r : List ℕ) → IsOf64Bits x → mark (layer_of x ++ r) ≡ layer_mark x
marked Value-F.Null r fits = refl
marked (Value-F.Bool true) r fits = refl
marked (Value-F.Bool false) r fits = refl
marked (Value-F.Int (pos n)) r fits = numeral_mark (decimal n) r (decimal_is_IsNumeral n (omega arith)).0
marked (Value-F.Int (negsuc n)) r fits = refl
marked (Value-F.Text text) r fits = refl
marked (Value-F.List members) r fits = refl
marked (Value-F.Map members) r fits = refl

unlike_93 : (x : Value-F Value) → layer_mark x ≡ 93 → ⊥
unlike_93 Value-F.Null e = omega arith
unlike_93 (Value-F.Bool b) e = omega arith
unlike_93 (Value-F.Int number) e = omega arith
unlike_93 (Value-F.Text text) e = omega arith
unlike_93 (Value-F.List members) e = omega arith
unlike_93 (Value-F.Map members) e = omega arith

opened : (v : Value) → compact_text v ≡ layer_of (out-Value v)
opened v = fold_out-Value (List ℕ) layer_text v

no_bracket : (v : Value) (r s : List ℕ) → HasNumbersOf64Bits v → compact_text v ++ r ≡ 93 ∷ s → ⊥
no_bracket v r s fit e = unlike_93 (out-Value v) (sym (marked (out-Value v) r (every_here-Value IsOf64Bits v fit)) ∙ ap mark (ap (λ t. t ++ r) (sym (opened v)) ∙ e))

-- ---- pairs

abbrev Member : Type 0
Member = List ℕ × Value

abbrev FitMember : Member → Type 0
FitMember m = HasNumbersOf64Bits m.1

abbrev Told : Value → Type 0
Told = Tells HasNumbersOf64Bits compact_text

no_brace : (m : Member) (r s : List ℕ) → FitMember m → keyed_text m ++ r ≡ 125 ∷ s → ⊥
no_brace m r s fit e = let first : ◌≡◌ {A = ℕ} 34 125 = ap mark e in omega arith

member_tells : (m : Member) → Told m.1 → Tells FitMember keyed_text m
member_tells m told n r s fm fn p q e =
    let spread = λ (x : Member) (t : List ℕ). append_assoc (quoted_text x.0) (58 ∷ compact_text x.1) t in
    let key = quoted_end m.0 n.0 (58 ∷ (compact_text m.1 ++ r)) (58 ∷ (compact_text n.1 ++ s)) (sym (spread m r) ∙ e ∙ spread n s) in
    let under : compact_text m.1 ++ r ≡ compact_text n.1 ++ s = cc (key.1) in
    let held = told n.1 r s fm fn p q under in
    (λ i. (key.0 i, held.0 i), held.1)

members_tell : (ms : List Member) → AllByRecursion (λ (m : Member). Told m.1) ms → AllByRecursion (Tells FitMember keyed_text) ms
members_tell [] all = tt
members_tell (m ∷ ms) all = (member_tells m all.0, members_tell ms all.1)

-- ---- values

layers_tell : (x y : Value-F Value) (r s : List ℕ) → Parts Told x → IsOf64Bits x → IsOf64Bits y → Parts HasNumbersOf64Bits x → Parts HasNumbersOf64Bits y
    → EndsNumber r → EndsNumber s → layer_of x ++ r ≡ layer_of y ++ s → (x ≡ y) × (r ≡ s)
layers_tell Value-F.Null Value-F.Null r s told ix iy px py p q e = (refl, cc)
layers_tell (Value-F.Bool true) (Value-F.Bool true) r s told ix iy px py p q e = (refl, cc)
layers_tell (Value-F.Bool true) (Value-F.Bool false) r s told ix iy px py p q e = let letter : ◌≡◌ {A = ℕ} 116 102 = ap (λ t. get_or t 0 0) e in absurd (omega arith)
layers_tell (Value-F.Bool false) (Value-F.Bool true) r s told ix iy px py p q e = let letter : ◌≡◌ {A = ℕ} 102 116 = ap (λ t. get_or t 0 0) e in absurd (omega arith)
layers_tell (Value-F.Bool false) (Value-F.Bool false) r s told ix iy px py p q e = (refl, cc)
layers_tell (Value-F.Int m) (Value-F.Int n) r s told ix iy px py p q e = let parts = numbers_end m n r s ix iy p q e in (ap Value-F.Int parts.0, parts.1)
layers_tell (Value-F.Text m) (Value-F.Text n) r s told ix iy px py p q e = let parts = quoted_end m n r s e in (ap Value-F.Text parts.0, parts.1)
layers_tell (Value-F.List xs) (Value-F.List ys) r s told ix iy px py p q e =
    let inner = unbracketed 91 93 (map compact_text xs) (map compact_text ys) r s e in
    let parts = pieces_tell HasNumbersOf64Bits compact_text 93 (λ e. omega arith) (omega arith) no_bracket xs ys r s told px py inner in
    (ap Value-F.List parts.0, parts.1)
layers_tell (Value-F.Map xs) (Value-F.Map ys) r s told ix iy px py p q e =
    let keyed : bracketed_text 123 125 (map keyed_text xs) ++ r ≡ bracketed_text 123 125 (map keyed_text ys) ++ s =
    ap (λ texts. bracketed_text 123 125 texts ++ r) (sym (map-keyed xs)) ∙ e ∙ ap (λ texts. bracketed_text 123 125 texts ++ s) (map-keyed ys) in
    let inner = unbracketed 123 125 (map keyed_text xs) (map keyed_text ys) r s keyed in
    let parts = pieces_tell FitMember keyed_text 125 (λ e. omega arith) (omega arith) no_brace xs ys r s (members_tell xs told) px py inner in
    (ap Value-F.Map parts.0, parts.1)
layers_tell x y r s told ix iy px py p q e = let marks : layer_mark x ≡ layer_mark y = sym (marked x r ix) ∙ ap mark e ∙ marked y s iy in absurd (omega arith)

pub text_tells : (v : Value) → Told v
text_tells = by_parts Told (λ x told b r s fit_x fit_b p q e.
    let a = roll-Value x in
    let here : layer_of x ++ r ≡ layer_of (out-Value b) ++ s = ap (λ t. t ++ r) (sym (fold-roll-Value (List ℕ) layer_text x)) ∙ e ∙ ap (λ t. t ++ s) (opened b) in
    let numbers : IsOf64Bits x = subst IsOf64Bits (out-roll-Value x) (every_here-Value IsOf64Bits a fit_x) in
    let parts : Parts HasNumbersOf64Bits x = subst (Parts HasNumbersOf64Bits) (out-roll-Value x) (parts_every IsOf64Bits a fit_x) in
    let both = layers_tell x (out-Value b) r s told numbers (every_here-Value IsOf64Bits b fit_b) parts (parts_every IsOf64Bits b fit_b) p q here in
    (ap roll-Value both.0 ∙ roll-out-Value b, both.1))

pub texts_differ : CompactTextIsInjective
texts_differ a b fit_a fit_b e = (text_tells a b [] [] fit_a fit_b tt tt (ap (λ t. t ++ []) e)).0
