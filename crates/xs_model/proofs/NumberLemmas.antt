-- The numbers in each kind of value are of 64 bits where those of its parts are.
use Rattle.std.proofs.Common.{◌≡◌, ℕ, ℤ, List, All, FitsSigned, w64, sym, subst, ◌∙◌}
use Rattle.std.proofs.lemmas.List.Elements.{recursion_from_All}
use Rattle.xs_model.proofs.PartLemmas.{every_from_parts}
use Rattle.xs_model.specs.Laws.{IsOf64Bits, HasNumbersOf64Bits}
use Rattle.xs_model.specs.declared.value.Value.{Value, out-Value}
use Rattle.xs_model.specs.declared.value.Value.TheOpen.{Value-F}
use Rattle.xs_model.specs.declared.value.Value.TheVariants as value
use Rattle.xs_model.specs.declared.value.Value.TheViews.{roll-Value, roll-out-Value}
use Rattle.xs_model.specs.declared.value.Value.TheVariants.{rolls-Int, rolls-List, rolls-Map}

pub numbers-Int : (n : ℤ) → FitsSigned w64 n → HasNumbersOf64Bits (value.Int n)
numbers-Int n fits = subst HasNumbersOf64Bits (rolls-Int n) (every_from_parts IsOf64Bits (Value-F.Int n) fits tt)

pub numbers-List : (xs : List Value) → All HasNumbersOf64Bits xs → HasNumbersOf64Bits (value.List xs)
numbers-List xs all = subst HasNumbersOf64Bits (rolls-List xs) (every_from_parts IsOf64Bits (Value-F.List xs) tt (recursion_from_All HasNumbersOf64Bits xs all))

-- a member's numbers are those under its key
abbrev pub MemberNumbers : List ℕ × Value → Type 0
MemberNumbers m = HasNumbersOf64Bits m.1

pub numbers-Map : (ms : List (List ℕ × Value)) → All MemberNumbers ms → HasNumbersOf64Bits (value.Map ms)
numbers-Map ms all = subst HasNumbersOf64Bits (rolls-Map ms) (every_from_parts IsOf64Bits (Value-F.Map ms) tt (recursion_from_All MemberNumbers ms all))

-- a value with no part and no number of its own
pub numbers_none : (v : Value) → ((n : ℤ) → v ≡ value.Int n → ⊥) → ((xs : List Value) → v ≡ value.List xs → ⊥) → ((ms : List (List ℕ × Value)) → v ≡ value.Map ms → ⊥) → HasNumbersOf64Bits v
numbers_none v no_int no_list no_map = subst HasNumbersOf64Bits (roll-out-Value v) (by_layer (out-Value v) (sym (roll-out-Value v)))
  where
    by_layer : (x : Value-F Value) → v ≡ roll-Value x → HasNumbersOf64Bits (roll-Value x)
    by_layer (Value-F.Int n) is = absurd (no_int n (is ∙ rolls-Int n))
    by_layer (Value-F.List xs) is = absurd (no_list xs (is ∙ rolls-List xs))
    by_layer (Value-F.Map ms) is = absurd (no_map ms (is ∙ rolls-Map ms))
    by_layer x is = every_from_parts IsOf64Bits x tt tt
