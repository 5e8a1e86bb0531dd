use Rattle.std.proofs.Common.{◌≡◌, ◌∙◌, List, ℕ, Some, ap, cond, true}
use Rattle.std.specs.BTreeMap.{get_by_text}
use Rattle.std.specs.Str.{bytes_eq}
use Rattle.std.specs.String.{string_bytes}
use Rattle.std.proofs.lemmas.Map.Text.{btree_map_updates_text}
use Rattle.actor_tree.proofs.notes.add_timer_id.Goals as goal

pub returns : goal.returns
returns c = λ other.
    rw c.in-Some.is
    (btree_map_updates_text (string_bytes c.in_ok-from_str.field-0) c.args.ids.now c.insert.new.self (Some true) c.in_ok-insert.ensures.updates other
    ∙ ap (λ (k : List ℕ). cond (bytes_eq k other) (Some true) (get_by_text c.args.ids.now other)) (c.in_ok-from_str.ensures.ok ∙ c.as_str.ensures))
