use Rattle.std.proofs.Common.{◌≡◌, ◌∷◌, ◌++◌, take}
use Rattle.std.specs.Prelude.{codes}
use Rattle.std.specs.List.{flat_map}
use Rattle.json.specs.Token.{begin_array, key}
use Rattle.office_types.specs.declared.office.Letter.{Letter}
use Rattle.snapshot_text.specs.Snapshots.{letter_data}
use Rattle.snapshot_text.specs.Tokens.{data_tokens}
use Rattle.snapshot_text.proofs.snapshot.put_letters.Given as goal

abbrev pub invariant-loop-letter : goal.invariant-loop-letter
invariant-loop-letter l =
    (l.writer.before ≡ l.fn.writer.before)
    × (l.writer.tokens ≡ l.fn.writer.tokens ++ (key (codes "letters") ∷ begin_array ∷ flat_map (λ (letter : Letter). data_tokens (letter_data letter)) (take l.letter-index l.letters)))
