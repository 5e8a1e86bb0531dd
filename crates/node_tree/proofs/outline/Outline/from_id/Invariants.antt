use Rattle.std.proofs.Common.{◌≡◌, ◌≤◌, ℕ, length, false}
use Rattle.std.specs.Prelude.{is_some}
use Rattle.node_tree.specs.Targets.{id_front}
use Rattle.node_tree.proofs.outline.Outline.from_id.Given as goal

-- no longer front is an id
abbrev pub invariant-loop-len : goal.invariant-loop-len
invariant-loop-len l = (k : ℕ) → l.len ≤ k → k ≤ length l.text → is_some (id_front l.self l.text k) ≡ false
