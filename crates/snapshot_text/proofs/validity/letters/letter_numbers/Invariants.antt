use Rattle.std.proofs.Common.{◌≡◌, map, take}
use Rattle.office_types.specs.declared.office.Letter.{Letter}
use Rattle.office_types.specs.ValidOffice.{letters_of}
use Rattle.snapshot_text.proofs.validity.letters.letter_numbers.Given as goal

abbrev pub invariant-loop-actor : goal.invariant-loop-actor
invariant-loop-actor l = l.numbers.items ≡ map (λ (letter : Letter). letter.number) (letters_of (take l.actor-index l.actors))
