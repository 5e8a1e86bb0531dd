use Rattle.std.proofs.Common.{map}
use Rattle.machine_json.specs.FirstPass.{TellsFirst}
use Rattle.machine_json.specs.Nodes.{node_parts}
use Rattle.machine_json.proofs.NumberLemmas.{IsBelowNumber}
use Rattle.machine_json.proofs.SecondLemmas.{IsNodeFaultAt}
use Rattle.machine_json.proofs.second_pass.first_link_fault.Given as goal

abbrev pub invariant-loop-n : goal.invariant-loop-n
invariant-loop-n l =
    TellsFirst l.first (IsBelowNumber (IsNodeFaultAt l.outline (map node_parts l.nodes)) l.n)
