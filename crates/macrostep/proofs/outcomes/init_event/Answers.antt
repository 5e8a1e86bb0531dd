use Rattle.macrostep.proofs.OutcomeLemmas.{init_members}
use Rattle.macrostep.proofs.outcomes.init_event.Goals as goal

pub returns : goal.returns
returns c =
    init_members c.args.input.now _ _ _ _ _ _ _ c.new-members.ensures c.in-Ok.ensures.ok c.in-Ok-put.ensures.ok c.in_ok-from_str.ensures c.in_ok-copy.ensures c.in_ok-from_str-3.ensures c.in_ok-from_str-2.ensures
