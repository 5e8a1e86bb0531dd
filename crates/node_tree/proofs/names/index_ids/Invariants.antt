use Rattle.std.proofs.Common.{List, ℕ, ◌≡◌, take}
use Rattle.node_tree.specs.Nodes.{id_at}
use Rattle.node_tree.specs.Tables.{node_named}
use Rattle.node_tree.proofs.NameLemmas.{RepeatsBefore}
use Rattle.node_tree.proofs.names.index_ids.Given as goal

-- the ids of the rows so far are entered, and the first of these rows that repeats one is found
abbrev pub invariant-loop-n : goal.invariant-loop-n
invariant-loop-n l = record {
  entered : (id : List ℕ) → node_named l.ids id ≡ id_at (take l.n l.nodes) id;
  repeated : RepeatsBefore l.nodes l.n l.repeated;
}
