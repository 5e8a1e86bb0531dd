use Rattle.std.proofs.Common.{◌≡◌, map, take}
use Rattle.ordered_json.specs.declared.json.Member.{Member}
use Rattle.ordered_json.specs.Words.{member_parts}
use Rattle.machine_json.specs.Meaning.{timed_of}
use Rattle.machine_json.proofs.delays.each_delay.Given as goal

abbrev pub invariant-loop-member : goal.invariant-loop-member
invariant-loop-member l =
    l.delays.items ≡ map (λ (member : Member). timed_of l.id (member_parts member)) (take l.member-index l.members)
