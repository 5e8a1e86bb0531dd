use Rattle.std.proofs.Common.{◌≡◌, ◌∷◌, ◌++◌, take}
use Rattle.std.specs.Prelude.{codes}
use Rattle.std.specs.List.{flat_map}
use Rattle.json.specs.Token.{begin_array, key}
use Rattle.office_types.specs.declared.office.Caller.{Caller}
use Rattle.snapshot_text.specs.BaseText.{caller_data}
use Rattle.snapshot_text.specs.Tokens.{data_tokens}
use Rattle.snapshot_text.proofs.base_text.put_callers.Given as goal

abbrev pub invariant-loop-caller : goal.invariant-loop-caller
invariant-loop-caller l =
    (l.writer.before ≡ l.fn.writer.before)
    × (l.writer.tokens ≡ l.fn.writer.tokens ++ (key (codes "callers") ∷ begin_array ∷ flat_map (λ (caller : Caller). data_tokens (caller_data caller)) (take l.caller-index l.callers)))
