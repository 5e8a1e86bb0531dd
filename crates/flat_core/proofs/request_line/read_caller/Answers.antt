use Rattle.std.proofs.Common.{sym, subst}
use Rattle.std.specs.Prelude.{IsUtf8}
use Rattle.flat_core.proofs.LineLemmas.{IsUtf8-caller}
use Rattle.flat_core.proofs.request_line.read_caller.Goals as goal

pub returns-in_default : goal.returns-in_default
returns-in_default c = λ caller is. c.in_default.ensures.cases.0 (subst IsUtf8 (sym is.0) (IsUtf8-caller caller is.1))
