use Rattle.std.proofs.Common.{ℕ, List, ◌≡◌, ◌∷◌, ◌++◌, ◌-◌, take}
use Rattle.std.specs.List.{flat_map}
use Rattle.std.specs.Prelude.{codes}
use Rattle.json.specs.Token.{begin_array, begin_object, key}
use Rattle.action_table.specs.Definitions.{office_definitions}
use Rattle.snapshot_text.specs.Snapshots.{child_data, snapshot_data}
use Rattle.snapshot_text.specs.Tokens.{data_tokens, keyed_data_tokens}
use Rattle.snapshot_text.specs.ValueData.{number_data}
use Rattle.snapshot_text.proofs.snapshot.+put_snapshot.Given as goal

abbrev pub decreases-put_snapshot : goal.decreases-put_snapshot
decreases-put_snapshot l = l.levels

abbrev pub invariant-loop-id : goal.invariant-loop-id
invariant-loop-id l =
    (l.writer.before ≡ l.fn.writer.before)
    × (l.writer.tokens ≡ l.fn.writer.tokens
    ++ (begin_object ∷ (keyed_data_tokens (codes "actor", number_data l.actor.number)
    ++ (key (codes "children") ∷ begin_array
    ∷ flat_map (λ (kid : List ℕ × ℕ). data_tokens (child_data (snapshot_data (office_definitions l.defs) l.state (l.levels - 1)) kid)) (take l.id-index l.id-items)))))
