use Rattle.std.proofs.Common.{refl}
use Rattle.std.specs.Prelude.{codes}
use Rattle.snapshot_text.specs.Snapshots.{id_data}
use Rattle.snapshot_text.proofs.TokenLemmas.{keyed_list_written, on_ok}
use Rattle.snapshot_text.proofs.snapshot.put_ids.Goals as goal

pub returns-clause-tokens : goal.returns-clause-tokens
returns-clause-tokens c =
    on_ok c.end_array.result
    (λ ended. keyed_list_written (id_data c.args.tree.now) (codes "nodes") c.args.nodes.now c.args.nodes.now c.loop-node.node-index c.args.writer.now.tokens c.loop-node.writer.tokens c.end_array.new.self.tokens
    ended c.loop-node.invariant.1 refl c.loop-node-test.false)
    c.end_array.ensures.ok
