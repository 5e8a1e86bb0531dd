-- What the reader answers to the whole text is its value or its first fault.
use Rattle.std.proofs.Common.{arith}
use Rattle.ordered_json.proofs.AnswerLemmas.{all_mean, all_faults, all_refused}
use Rattle.ordered_json.proofs.OwnKeyLemmas.{read_owns}
use Rattle.ordered_json.proofs.whole.read.Goals as goal

pub returns-clause-ok : goal.returns-clause-ok
returns-clause-ok c = all_mean c.args.text.now c.read_whole.result (omega arith) c.read_whole.ensures.ok

pub returns-clause-fault : goal.returns-clause-fault
returns-clause-fault c = all_faults c.args.text.now c.read_whole.result (omega arith) c.read_whole.ensures.err

pub returns-clause-refused : goal.returns-clause-refused
returns-clause-refused c = all_refused c.args.text.now c.read_whole.result c.read_whole.ensures.err

pub returns-clause-own_keys : goal.returns-clause-own_keys
returns-clause-own_keys c =
    read_owns c.args.text.now c.read_whole.result (all_mean c.args.text.now c.read_whole.result (omega arith) c.read_whole.ensures.ok)
