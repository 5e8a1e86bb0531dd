-- The nodes of machines are counted one machine after the other.
use Rattle.std.proofs.Common.{◌≡◌, ◌⊎◌, ℕ, ◌+◌, ◌<◌, ◌≤◌, List, [], ◌∷◌, ◌++◌, length, take, Option, None, Some, ap, sym, ◌∙◌, inl, inr, arith}
use Rattle.std.specs.Prelude.{get_or, slice_get}
use Rattle.std.proofs.lemmas.List.{take_more}
use Rattle.std.proofs.lemmas.List.Sums.{sum_by_push}
use Rattle.std.proofs.lemmas.Option.{get_or_from_slice_get, slice_get_cases, slice_get_within}
use Rattle.guard_eval.specs.declared.def.Def.{Def}
use Rattle.office_run.specs.DefinitionsLines.{node_count}

pub count-more : (defs : List Def) (n : ℕ) (def : Def) → slice_get defs n ≡ Some def → node_count (take (n + 1) defs) ≡ node_count (take n defs) + length def.tree
count-more defs n def at =
    let whole = take_more defs n def (slice_get_within defs n def at) ∙ ap (λ d. take n defs ++ d ∷ []) (get_or_from_slice_get defs n def def at) in
    ap node_count whole ∙ sum_by_push (λ (d : Def). length d.tree) (take n defs) def

some_none : {X : Type 0} {x : X} (at : Option X) → at ≡ Some x → at ≡ None → ⊥
some_none at is none = none_some (sym none ∙ is)
  where
    none_some : {X : Type 0} {x : X} → None ≡ Some x → ⊥
    none_some e = cc

either_case : {X : Type 0} (xs : List X) (n : ℕ) → n < length xs → slice_get xs n ≡ None
    → ((x : X) × (n < length xs) × (slice_get xs n ≡ Some x) × (get_or xs n x ≡ x)) ⊎ ((length xs ≤ n) × (slice_get xs n ≡ None)) → ⊥
either_case xs n within none (inl found) = some_none (slice_get xs n) found.2 none
either_case xs n within none (inr past) = omega (arith, past.0, within)

pub none-within : {X : Type 0} (xs : List X) (n : ℕ) → n < length xs → slice_get xs n ≡ None → ⊥
none-within xs n within none = either_case xs n within none (slice_get_cases xs n).1
