use Rattle.std.proofs.Common.{◌≡◌, drop, map}
use Rattle.ordered_json.specs.Words.{member_parts}
use Rattle.flat_core.specs.FlatText.{each_of, state_of}
use Rattle.flat_core.proofs.FlatLemmas.{with_front}
use Rattle.flat_core.proofs.flat_text.read_states.Given as goal

-- what is read so far, put before what the rest means, is what the whole means
abbrev pub invariant-loop-member : goal.invariant-loop-member
invariant-loop-member l = let meaning = state_of l.places in
    with_front l.states (each_of meaning (map member_parts (drop l.member-index l.members))) ≡ each_of meaning (map member_parts l.members)
