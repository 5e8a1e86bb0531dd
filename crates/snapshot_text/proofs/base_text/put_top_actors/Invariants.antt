use Rattle.std.proofs.Common.{◌≡◌, ◌∷◌, ◌++◌, take}
use Rattle.std.specs.Prelude.{codes}
use Rattle.std.specs.List.{flat_map}
use Rattle.json.specs.Token.{begin_array, key}
use Rattle.action_table.specs.Definitions.{office_definitions}
use Rattle.snapshot_text.specs.Snapshots.{nested_snapshot}
use Rattle.snapshot_text.specs.Tokens.{top_tokens}
use Rattle.snapshot_text.proofs.base_text.put_top_actors.Given as goal

abbrev pub invariant-loop-actor : goal.invariant-loop-actor
invariant-loop-actor l =
    (l.writer.before ≡ l.fn.writer.before)
    × (l.writer.tokens ≡ l.fn.writer.tokens
    ++ (key (codes "actors") ∷ begin_array ∷ flat_map (top_tokens (nested_snapshot (office_definitions l.defs) l.state)) (take l.actor-index l.actor-items)))
