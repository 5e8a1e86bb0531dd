use Rattle.std.proofs.Common.{List, ap, map, ◌∙◌}
use Rattle.office_types.specs.declared.office.ActorRecord.{ActorRecord}
use Rattle.office_types.specs.declared.office.Letter.{Letter}
use Rattle.office_types.specs.ValidOffice.{letters_of}
use Rattle.snapshot_text.proofs.KeyLemmas.{apart_numbers, numbers_apart}
use Rattle.snapshot_text.proofs.validity.letters.are_letters_once.Goals as goal

pub returns : goal.returns
returns c =
    let letters = letters_of c.args.state.now.actors in
    let numbers = c.in_ok-letter_numbers.field-0.items in
    let same = c.in_ok-letter_numbers.ensures ∙ ap (λ (actors : List ActorRecord). map (λ (letter : Letter). letter.number) (letters_of actors)) c.as_slice.ensures in (
      (λ once. numbers_apart (λ (letter : Letter). letter.number) numbers letters same (c.are_distinct.ensures.0 once)),
      (λ once. c.are_distinct.ensures.1 (apart_numbers (λ (letter : Letter). letter.number) numbers letters same once)),
    )
