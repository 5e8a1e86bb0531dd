use Rattle.std.proofs.Common.{ℕ, List, ◌∙◌, ◌++◌, ap}
use Rattle.std.specs.List.{flat_map}
use Rattle.std.proofs.lemmas.List.{take_all}
use Rattle.snapshot_text.specs.Snapshots.{recorded_data}
use Rattle.snapshot_text.specs.Tokens.{data_tokens}
use Rattle.snapshot_text.proofs.TokenLemmas.{flat_each}
use Rattle.snapshot_text.proofs.snapshot.put_recorded.Goals as goal

pub returns-clause-tokens : goal.returns-clause-tokens
returns-clause-tokens c =
    let nodes = c.args.tree.now in
    let history = c.args.history.now in
    let old = c.args.writer.now.tokens in
    c.loop-node.invariant.1
    ∙ ap (λ (rs : List (ℕ × List ℕ)). old ++ flat_map (λ (r : ℕ × List ℕ). data_tokens (recorded_data nodes r)) rs) (take_all c.loop-node.node-index history c.loop-node-test.false)
    ∙ ap (λ ts. old ++ ts) (flat_each (recorded_data nodes) history)
