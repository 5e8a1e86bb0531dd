use Rattle.std.proofs.Common.{◌≡◌, ◌∙◌, Bool, List, ℕ, Some, ap, arith, cond, false, refl, true}
use Rattle.std.specs.BTreeMap.{get_by_text}
use Rattle.std.specs.Str.{bytes_eq}
use Rattle.std.specs.String.{string_bytes}
use Rattle.std.proofs.lemmas.Map.Text.{btree_map_updates_text}
use Rattle.actor_tree.proofs.notes.Notes.set_kid.Goals as goal

pub returns : goal.returns
returns c = record {
  kids = λ other.
      btree_map_updates_text (string_bytes c.in_ok-from_str.field-0) c.args.self.now.kids c.insert.new.self (Some c.args.kid) c.in_ok-insert.ensures.updates other
      ∙ ap (λ (k : List ℕ). cond (bytes_eq k other) (Some c.args.kid) (get_by_text c.args.self.now.kids other)) (c.in_ok-from_str.ensures.ok ∙ c.as_str.ensures);
  same = refl;
}
