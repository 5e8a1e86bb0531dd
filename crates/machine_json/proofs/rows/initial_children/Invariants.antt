use Rattle.std.proofs.Common.{map, take}
use Rattle.machine_json.specs.Nodes.{node_parts}
use Rattle.machine_json.proofs.RowLemmas.{AreFound}
use Rattle.machine_json.proofs.rows.initial_children.Given as goal

abbrev pub invariant-loop-n : goal.invariant-loop-n
invariant-loop-n l = AreFound (map node_parts l.nodes) (take l.n (map node_parts l.nodes)) l.found.items
