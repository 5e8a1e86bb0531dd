use Rattle.std.specs.Prelude.{codes}
use Rattle.action_table.specs.Definitions.{office_definitions}
use Rattle.snapshot_text.specs.Snapshots.{recorded_items}
use Rattle.snapshot_text.proofs.TokenLemmas.{keyed_list, on_ok}
use Rattle.snapshot_text.proofs.snapshot.put_history.Goals as goal

pub returns-clause-tokens : goal.returns-clause-tokens
returns-clause-tokens c =
    on_ok c.end_array.result
    (keyed_list (codes "history") (recorded_items (office_definitions c.args.defs.now) c.args.own.now) c.args.writer.now.tokens
    c.in_ok-key.ensures.ok c.in_ok-begin_array.ensures.ok c.in_ok-put_own_history.ensures.tokens)
    c.end_array.ensures.ok
