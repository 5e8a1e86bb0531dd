use Rattle.std.proofs.Common.{◌≡◌, ◌+◌, [], ◌∷◌, ◌++◌, List, map, take, ap, ◌∙◌, subst, sym}
use Rattle.std.proofs.lemmas.List.{map-append, take_all}
use Rattle.ordered_json.specs.declared.json.Member.{Member}
use Rattle.ordered_json.specs.Words.{MemberParts, member_parts}
use Rattle.action_table.specs.OuterShape.{IsOtherMember, IsPlaceAmong}
use Rattle.action_table.specs.TablePlaces.{IsLeastOf}
use Rattle.action_table.proofs.ShapeLemmas.{among-push}
use Rattle.action_table.proofs.ThereLemmas.{taken}
use Rattle.action_table.proofs.outer_shape.first_other.Goals as goal

pub loop-member-preserved : goal.loop-member-preserved
loop-member-preserved c =
    let before : List Member = take c.loop-member.member-index c.args.members.now in
    let more : map member_parts (take (c.loop-member.member-index + 1) c.args.members.now) ≡ map member_parts before ++ member_parts c.member-item.result ∷ [] =
    ap (λ (l : List Member). map member_parts l) (taken c.args.members.now c.loop-member.member-index c.member-item.result c.loop-member-test.true c.member-item.is)
    ∙ map-append member_parts before (c.member-item.result ∷ []) in
    subst (λ (ms : List MemberParts). IsLeastOf (IsPlaceAmong IsOtherMember ms) c.least_of-least.result) (sym more)
    (rw c.least_of-least.ensures
    (among-push IsOtherMember (map member_parts before) (member_parts c.member-item.result) c.loop-member.least c.other_member.result c.loop-member.invariant c.other_member.ensures))

pub returns : goal.returns
returns c =
    subst (λ (ms : List Member). IsLeastOf (IsPlaceAmong IsOtherMember (map member_parts ms)) c.loop-member.least)
    (take_all c.loop-member.member-index c.args.members.now c.loop-member-test.false) c.loop-member.invariant
