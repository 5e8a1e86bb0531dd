use Rattle.std.proofs.Common.{ℕ, List, ◌≡◌, ◌∷◌, ◌++◌, take}
use Rattle.std.specs.List.{flat_map}
use Rattle.json.specs.Token.{begin_array, begin_object}
use Rattle.xs_model.specs.declared.value.Value.{Value}
use Rattle.snapshot_text.specs.Tokens.{data_tokens, keyed_data_tokens}
use Rattle.snapshot_text.specs.ValueData.{value_data}
use Rattle.snapshot_text.proofs.TokenLemmas.{member_data}
use Rattle.snapshot_text.proofs.values.+put_value.Given as goal

abbrev pub decreases-put_value : goal.decreases-put_value
decreases-put_value l = goal.size-put_value l

abbrev pub invariant-loop-item : goal.invariant-loop-item
invariant-loop-item l =
    (l.writer.before ≡ l.fn.writer.before)
    × (l.writer.tokens ≡ l.fn.writer.tokens ++ (begin_array ∷ flat_map (λ (x : Value). data_tokens (value_data x)) (take l.item-index l.item-items)))

abbrev pub invariant-loop-key : goal.invariant-loop-key
invariant-loop-key l =
    (l.writer.before ≡ l.fn.writer.before)
    × (l.writer.tokens ≡ l.fn.writer.tokens ++ (begin_object ∷ flat_map (λ (m : List ℕ × Value). keyed_data_tokens (member_data m)) (take l.key-index l.key-items)))
