use Rattle.std.proofs.Common.{◌≡◌, map, take}
use Rattle.machine_json.specs.Nodes.{node_parts}
use Rattle.machine_json.specs.Rows.{node_paths}
use Rattle.machine_json.proofs.RowLemmas.{rows_up_to}
use Rattle.machine_json.proofs.rows.open_rows.Given as goal

abbrev pub invariant-loop-n : goal.invariant-loop-n
invariant-loop-n l = record {
  paths : l.paths.items ≡ node_paths (take l.n (map node_parts l.nodes));
  rows : l.rows.items ≡ rows_up_to (map node_parts l.nodes) l.n;
}
