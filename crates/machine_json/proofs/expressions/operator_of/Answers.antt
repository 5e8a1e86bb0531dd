use Rattle.std.proofs.Common.{rules}
use Rattle.machine_json.specs.Expressions.{operator_of}
use Rattle.machine_json.proofs.expressions.operator_of.Goals as goal

pub returns-in-Some : goal.returns-in-Some
unfolding operator_of
returns-in-Some c = search rules

pub returns-in-Some-binary_operator : goal.returns-in-Some-binary_operator
unfolding operator_of
returns-in-Some-binary_operator c = search rules

pub returns : goal.returns
unfolding operator_of
returns c = search rules
