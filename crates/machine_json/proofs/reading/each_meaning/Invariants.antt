use Rattle.std.proofs.Common.{◌≡◌, ℕ, Some, length, map}
use Rattle.std.specs.Prelude.{slice_get}
use Rattle.machine_json.specs.declared.machine.UnlinkedNode.{UnlinkedNode}
use Rattle.machine_json.specs.Machines.{MeansNode}
use Rattle.machine_json.specs.Nodes.{NodeParts, node_parts}
use Rattle.machine_json.proofs.reading.each_meaning.Given as goal

abbrev pub invariant-loop-n : goal.invariant-loop-n
invariant-loop-n l = record {
  count : length l.said.items ≡ l.n;
  each : (k : ℕ) (node : NodeParts) (said : UnlinkedNode) → slice_get (map node_parts l.nodes) k ≡ Some node
      → slice_get l.said.items k ≡ Some said → MeansNode (map node_parts l.nodes) k node said;
}
