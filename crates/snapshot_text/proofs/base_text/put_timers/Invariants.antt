use Rattle.std.proofs.Common.{◌≡◌, ◌∷◌, ◌++◌, take}
use Rattle.std.specs.Prelude.{codes}
use Rattle.std.specs.List.{flat_map}
use Rattle.json.specs.Token.{begin_array, key}
use Rattle.office_types.specs.declared.office.Timer.{Timer}
use Rattle.snapshot_text.specs.BaseText.{timer_data}
use Rattle.snapshot_text.specs.Tokens.{data_tokens}
use Rattle.snapshot_text.proofs.base_text.put_timers.Given as goal

abbrev pub invariant-loop-timer : goal.invariant-loop-timer
invariant-loop-timer l =
    (l.writer.before ≡ l.fn.writer.before)
    × (l.writer.tokens ≡ l.fn.writer.tokens ++ (key (codes "timers") ∷ begin_array ∷ flat_map (λ (timer : Timer). data_tokens (timer_data timer)) (take l.timer-index l.timers)))
