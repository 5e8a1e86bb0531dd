use Rattle.std.proofs.Common.{ℕ, List, ◌≡◌, ◌++◌, take}
use Rattle.std.specs.List.{flat_map}
use Rattle.snapshot_text.specs.Snapshots.{recorded_data}
use Rattle.snapshot_text.specs.Tokens.{data_tokens}
use Rattle.snapshot_text.proofs.snapshot.put_recorded.Given as goal

abbrev pub invariant-loop-node : goal.invariant-loop-node
invariant-loop-node l =
    (l.writer.before ≡ l.fn.writer.before)
    × (l.writer.tokens ≡ l.fn.writer.tokens ++ flat_map (λ (r : ℕ × List ℕ). data_tokens (recorded_data l.tree r)) (take l.node-index l.history))
