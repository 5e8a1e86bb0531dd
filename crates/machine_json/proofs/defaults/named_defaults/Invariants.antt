use Rattle.std.proofs.Common.{map}
use Rattle.machine_json.specs.Nodes.{node_parts}
use Rattle.machine_json.proofs.DefaultLemmas.{AreNamedUpTo}
use Rattle.machine_json.proofs.defaults.named_defaults.Given as goal

abbrev pub invariant-loop-n : goal.invariant-loop-n
invariant-loop-n l = AreNamedUpTo l.outline (map node_parts l.nodes) l.n l.defaults.items
