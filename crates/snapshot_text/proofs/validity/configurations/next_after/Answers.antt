use Rattle.std.proofs.Common.{◌+◌, sym, arith}
use Rattle.std.proofs.lemmas.Option.{slice_get-get_or}
use Rattle.snapshot_text.proofs.ConfigurationLemmas.{next_absent, next_found, past_end}
use Rattle.snapshot_text.proofs.validity.configurations.next_after.Goals as goal

pub returns-then-after-nodes : goal.returns-then-after-nodes
returns-then-after-nodes c =
    next_found c.args.nodes.now c.requires c.args.node c.in-Ok.place _ c.in-Ok.ensures.bound c.in-Ok.ensures.ok (sym (slice_get-get_or c.args.nodes.now (c.in-Ok.place + 1) 0 (omega arith)))

pub returns-else-after-nodes : goal.returns-else-after-nodes
returns-else-after-nodes c =
    next_found c.args.nodes.now c.requires c.args.node c.in-Ok.place _ c.in-Ok.ensures.bound c.in-Ok.ensures.ok (past_end c.args.nodes.now (c.in-Ok.place + 1) (omega arith))

pub returns-in_default : goal.returns-in_default
returns-in_default c = next_absent c.args.nodes.now c.requires c.args.node c.in_default.field-0 c.in_default.ensures.position
