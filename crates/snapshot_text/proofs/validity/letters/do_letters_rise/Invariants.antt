use Rattle.std.proofs.Common.{ℕ, ◌+◌, ◌<◌, get_or}
use Rattle.office_types.specs.declared.office.Letter.{Letter}
use Rattle.snapshot_text.proofs.validity.letters.do_letters_rise.Given as goal

abbrev pub invariant-loop-place : goal.invariant-loop-place
invariant-loop-place l = (k : ℕ) (d : Letter) → k + 1 < l.place → (get_or l.letters k d).number < (get_or l.letters (k + 1) d).number
