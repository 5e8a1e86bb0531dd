use Rattle.std.proofs.Common.{◌≡◌, ◌*◌, ◌≤◌, take}
use Rattle.office_run.specs.DefinitionsLines.{node_count}
use Rattle.office_run.proofs.definitions_lines.node_count.Given as goal

-- the nodes of the machines so far are counted, each machine's by a number of 32 bits
abbrev pub invariant-loop-number : goal.invariant-loop-number
invariant-loop-number l = record {
  counted : l.nodes ≡ node_count (take l.number l.defs);
  few : l.nodes ≤ l.number * 4294967295;
}
