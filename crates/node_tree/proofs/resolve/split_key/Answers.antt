use Rattle.std.proofs.Common.{sym}
use Rattle.node_tree.proofs.TargetLemmas.{first_key, only_key, take-rest}
use Rattle.node_tree.proofs.resolve.split_key.Goals as goal

pub returns-in_err-dot-clause-none : goal.returns-in_err-dot-clause-none
returns-in_err-dot-clause-none c = rw c.from_residual.ensures (only_key c.args.keys.now (sym c.in_err-dot.ensures))

pub returns-clause-some : goal.returns-clause-some
returns-clause-some c = rw take-rest (first_key c.args.keys.now c.in_ok-dot.dot (sym c.in_ok-dot.ensures))
