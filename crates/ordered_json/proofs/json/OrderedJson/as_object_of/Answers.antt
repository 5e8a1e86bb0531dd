-- What is asked of the members is asked of their parts.
use Rattle.std.proofs.Common.{map, ap, sym, ◌∙◌, cond}
use Rattle.std.specs.Prelude.{Some, None, option_map}
use Rattle.std.specs.Option.{option_copied}
use Rattle.ordered_json.specs.Words.{member_parts}
use Rattle.ordered_json.proofs.MemberLemmas.{have_only-map, members_if, object_of}
use Rattle.ordered_json.proofs.json.OrderedJson.as_object_of.Goals as goal

pub returns : goal.returns
returns c =
    let members = c.in_ok-members.members in
    let parts = map member_parts members.now in
    let keys = c.args.keys.now in
    ap (λ o. option_map (map member_parts) (option_copied o)) c.then_some.ensures
    ∙ members_if c.have_only.result members
    ∙ ap (λ b. cond b (Some parts) None) (c.have_only.ensures ∙ sym (have_only-map (λ k. k.now) keys members.now))
    ∙ object_of (map (λ k. k.now) keys) c.args.self.now parts c.in_ok-members.ensures
