use Rattle.std.proofs.Common.{◌≡◌, ◌∷◌, ◌++◌, take}
use Rattle.std.specs.List.{flat_map}
use Rattle.json.specs.Token.{begin_array, begin_object}
use Rattle.office_types.specs.Tokens.{tokens_of}
use Rattle.office_types.proofs.ValueLemmas.{keyed_tokens}
use Rattle.office_types.proofs.json_value.+put_value.Given as goal

abbrev pub decreases-put_value : goal.decreases-put_value
decreases-put_value l = goal.size-put_value l

abbrev pub invariant-loop-member : goal.invariant-loop-member
invariant-loop-member l =
    (l.writer.before ≡ l.fn.writer.before)
    × (l.writer.tokens ≡ l.fn.writer.tokens ++ (begin_array ∷ flat_map tokens_of (take l.member-index l.member-items)))

abbrev pub invariant-loop-key : goal.invariant-loop-key
invariant-loop-key l =
    (l.writer.before ≡ l.fn.writer.before)
    × (l.writer.tokens ≡ l.fn.writer.tokens ++ (begin_object ∷ flat_map keyed_tokens (take l.key-index l.key-items)))
