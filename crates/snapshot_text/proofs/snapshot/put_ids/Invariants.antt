use Rattle.std.proofs.Common.{◌≡◌, ◌∷◌, ◌++◌, take}
use Rattle.std.specs.Prelude.{codes}
use Rattle.std.specs.List.{flat_map}
use Rattle.json.specs.Token.{begin_array, key}
use Rattle.std.specs.Prelude.{ℕ}
use Rattle.snapshot_text.specs.Snapshots.{id_data}
use Rattle.snapshot_text.specs.Tokens.{data_tokens}
use Rattle.snapshot_text.proofs.snapshot.put_ids.Given as goal

abbrev pub invariant-loop-node : goal.invariant-loop-node
invariant-loop-node l =
    (l.writer.before ≡ l.fn.writer.before)
    × (l.writer.tokens ≡ l.fn.writer.tokens ++ (key (codes "nodes") ∷ begin_array ∷ flat_map (λ (node : ℕ). data_tokens (id_data l.tree node)) (take l.node-index l.nodes)))
