use Rattle.std.proofs.Common.{ℕ, List, ◌≡◌, ◌<◌, length, slice_index_or, None}
use Rattle.node_tree.specs.Tables.{NodesByName, node_named}
use Rattle.node_tree.proofs.names.empty_tables.Given as goal

abbrev pub invariant-loop : goal.invariant-loop
invariant-loop l = record {
  len : length l.tables.items ≡ l.counter;
  empty : (n : ℕ) (d : NodesByName) (name : List ℕ) → n < l.counter → node_named (slice_index_or l.tables.items n d) name ≡ None;
}
