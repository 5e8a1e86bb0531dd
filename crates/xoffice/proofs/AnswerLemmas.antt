-- From what is told of an answer to a relation that goes by whether it succeeded.
use Rattle.std.proofs.Common.{Result, Ok, Err}
use Rattle.std.specs.Prelude.{IfOk, OnErr, MatchBool, is_ok}

pub by_answer : {T E : Type 0} (result : Result T E) (P : T → Type 0) (Q R : Type 0) → IfOk result P → OnErr result Q
    → ((value : T) → P value → R) → MatchBool (is_ok result) R Q
by_answer (Ok value) P Q R told failed step = step value told
by_answer (Err error) P Q R told failed step = failed
