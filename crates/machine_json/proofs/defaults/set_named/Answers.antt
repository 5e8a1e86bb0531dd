use Rattle.machine_json.proofs.DefaultLemmas.{no_history_set, unnamed_set}
use Rattle.machine_json.proofs.defaults.set_named.Goals as goal

pub returns-else-is_history : goal.returns-else-is_history
returns-else-is_history c row at =
    no_history_set c.args.outline.now c.args.n c.in-Some.default row c.node.result.now c.args.named c.is_history.result at c.node.ensures
    c.in-Some.is c.is_history.ensures c.if-is_history.false

pub returns-in_default : goal.returns-in_default
returns-in_default c row at = unnamed_set c.args.outline.now c.args.n row c.args.named at c.in_default.is
