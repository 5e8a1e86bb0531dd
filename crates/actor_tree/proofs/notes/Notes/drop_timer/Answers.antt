use Rattle.std.proofs.Common.{◌≡◌, ◌∙◌, Bool, List, ℕ, Some, ap, arith, cond, false, refl, true}
use Rattle.std.specs.Prelude.{if◌then◌else◌}
use Rattle.std.specs.BTreeMap.{get_by_text}
use Rattle.std.specs.Str.{bytes_eq}
use Rattle.std.specs.String.{string_bytes}
use Rattle.std.proofs.lemmas.Map.Text.{btree_map_updates_text}
use Rattle.actor_tree.proofs.notes.Notes.drop_timer.Goals as goal

pub returns-then-stands : goal.returns-then-stands
returns-then-stands c =
    let one = ap {B = ℕ} (λ (b : Bool). if b then 1 else 0) c.if-stands.true in
    record {
      ids = λ other.
          btree_map_updates_text (string_bytes c.in_ok-from_str.field-0) c.args.self.now.timer_ids c.insert.new.self (Some false) c.in_ok-insert.ensures.updates other
          ∙ ap (λ (k : List ℕ). cond (bytes_eq k other) (Some false) (get_by_text c.args.self.now.timer_ids other)) (c.in_ok-from_str.ensures.ok ∙ c.as_str.ensures);
      same = refl;
      timers = omega (arith, one, c.requires);
    }

pub returns-else-stands : goal.returns-else-stands
returns-else-stands c =
    let none = ap {B = ℕ} (λ (b : Bool). if b then 1 else 0) c.if-stands.false in
    record {
      ids = λ other.
          btree_map_updates_text (string_bytes c.in_ok-from_str.field-0) c.args.self.now.timer_ids c.insert.new.self (Some false) c.in_ok-insert.ensures.updates other
          ∙ ap (λ (k : List ℕ). cond (bytes_eq k other) (Some false) (get_by_text c.args.self.now.timer_ids other)) (c.in_ok-from_str.ensures.ok ∙ c.as_str.ensures);
      same = refl;
      timers = omega (arith, none);
    }
