use Rattle.std.specs.Prelude.{codes}
use Rattle.action_table.specs.Definitions.{office_definitions}
use Rattle.snapshot_text.specs.Snapshots.{nested_snapshot}
use Rattle.snapshot_text.proofs.TokenLemmas.{on_ok, tops_written}
use Rattle.snapshot_text.proofs.base_text.put_top_actors.Goals as goal

pub returns-clause-tokens : goal.returns-clause-tokens
returns-clause-tokens c =
    on_ok c.end_array.result
    (λ ended. tops_written (nested_snapshot (office_definitions c.args.defs.now) c.args.state.now) (codes "actors") c.args.state.now.actors c.as_slice-actor-items.result.now
    c.loop-actor.actor-index c.args.writer.now.tokens c.loop-actor.writer.tokens c.end_array.new.self.tokens ended c.loop-actor.invariant.1 c.as_slice-actor-items.ensures c.loop-actor-test.false)
    c.end_array.ensures.ok
