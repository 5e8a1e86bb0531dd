-- The set has one key more, and so has the list.
use Rattle.std.proofs.Common.{◌≡◌, map, true, cond, sym, ap, ◌∙◌}
use Rattle.std.proofs.lemmas.Map.Text.{btree_set_updates_text}
use Rattle.std.specs.Str.{bytes_eq}
use Rattle.std.specs.String.{string_bytes}
use Rattle.ordered_json.specs.Words.{key_of, member_of}
use Rattle.ordered_json.specs.Meaning.{has_key}
use Rattle.ordered_json.proofs.KeyLemmas.{has_key-more, key_of-member_of}
use Rattle.ordered_json.proofs.members.OpenMembers.with.Goals as goal

pub invariant_of-result : goal.invariant_of-result
invariant_of-result c = λ key.
    let m = member_of c.args.key c.args.key_place c.args.value in
    let same : string_bytes c.in_ok-from_str.field-0 ≡ c.args.key = c.in_ok-from_str.ensures.ok ∙ c.as_str.ensures in
    btree_set_updates_text _ _ _ true c.in_ok-insert.ensures.updates key
    ∙ (ap (cond (bytes_eq (string_bytes c.in_ok-from_str.field-0) key) true) (c.self.invariant key)
    ∙ (sym (has_key-more key c.self.inside.members m _ (key_of-member_of c.args.key c.args.key_place c.args.value ∙ sym same))
    ∙ ap (λ ms. has_key key (map key_of ms)) (sym c.in-Ok.ensures.ok)))
