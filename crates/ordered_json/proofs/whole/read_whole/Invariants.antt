use Rattle.std.proofs.Common.{◌≡◌, drop, Ok}
use Rattle.ordered_json.specs.Steps.{reader_answer, answer_from}
use Rattle.ordered_json.proofs.whole.read_whole.Given as goal

-- what is left to read leads to what the whole text leads to
abbrev pub invariant-loop-place : goal.invariant-loop-place
invariant-loop-place l = answer_from l.place (drop l.place l.text) (Ok l.reader) ≡ reader_answer l.text
