use Rattle.std.proofs.Common.{◌≡◌, ◌++◌, map, take}
use Rattle.office_types.specs.declared.office.Letter.{Letter}
use Rattle.snapshot_text.proofs.validity.letters.push_numbers.Given as goal

abbrev pub invariant-loop-letter : goal.invariant-loop-letter
invariant-loop-letter l = l.numbers.items ≡ l.initial.numbers.items ++ map (λ (letter : Letter). letter.number) (take l.letter-index l.letters)
