use Rattle.std.proofs.Common.{◌≡◌, ℕ, true, List, [], Some, map, sym, ap, subst, ◌∙◌}
use Rattle.std.specs.Str.{bytes_eq}
use Rattle.ordered_json.specs.declared.json.Member.{Member}
use Rattle.ordered_json.specs.declared.json.OrderedJson.{OrderedJson}
use Rattle.ordered_json.specs.declared.json.OrderedJson.TheVariants as json
use Rattle.ordered_json.specs.Words.{MemberParts, member_parts}
use Rattle.action_table.specs.declared.role.Shape.TheVariants as shape
use Rattle.action_table.specs.declared.role.TableRole.TheVariants as role
use Rattle.action_table.specs.declared.table.UnlinkedItem.{UnlinkedItem}
use Rattle.action_table.specs.declared.table.UnlinkedItem.TheVariants as item
use Rattle.action_table.specs.Shapes.{members_in, shape_of}
use Rattle.action_table.specs.TableMeaning.{MeanItems, MeansItem, no_item}
use Rattle.action_table.proofs.TableLemmas.{choice-means, do-means, each-more, found-here, found-nowhere, item-members, items-missing, no-items, of-no_list}
use Rattle.action_table.proofs.actions.+items.Goals as goal

pub each_item-loop-json-init : goal.each_item-loop-json-init
each_item-loop-json-init t c = subst (λ (l : List UnlinkedItem). MeanItems [] l) (sym c.in_ok-items.ensures.items) no_item

pub each_item-loop-json-preserved : goal.each_item-loop-json-preserved
each_item-loop-json-preserved t c =
    each-more c.args.jsons.now c.loop-json.json-index c.json-item.result c.loop-json.items.items _ c.in_ok-item.item
    c.loop-json-test.true c.json-item.is c.loop-json.invariant c.in_ok-item.ensures c.in_ok-push.ensures.items

pub each_under-returns-in_default : goal.each_under-returns-in_default
each_under-returns-in_default t c =
    let parts : MemberParts = member_parts c.member-item.result in
    let same : bytes_eq parts.key c.args.key.now ≡ true =
    sym (c.eq.ensures ∙ ap (λ (k : List ℕ). bytes_eq k c.as_bytes-in-loop-member.result.now) c.as_bytes.ensures ∙ ap (λ (k : List ℕ). bytes_eq parts.key k) c.as_bytes-in-loop-member.ensures.value) ∙ c.if-eq.true in
    of-no_list c.args.key.now (map member_parts c.args.members.now) parts.value c.new.result
    (found-here c.args.key.now c.args.members.now c.loop-member.member-index c.member-item.result c.loop-member.invariant c.loop-member-test.true c.member-item.is same)
    (λ (place : ℕ) (list : List OrderedJson) (is : parts.value ≡ json.List place list). c.in_default.not-List place list is)
    c.new.ensures

pub each_under-returns : goal.each_under-returns
each_under-returns t c =
    no-items c.args.key.now (map member_parts c.args.members.now) c.new-2.result
    (items-missing c.args.key.now (map member_parts c.args.members.now) (found-nowhere c.args.key.now c.args.members.now c.loop-member.member-index c.loop-member.invariant c.loop-member-test.false))
    c.new-2.ensures

pub item_in-returns-in_ok-otherwise-in-Some-If : goal.item_in-returns-in_ok-otherwise-in-Some-If
item_in-returns-in_ok-otherwise-in-Some-If t c =
    let members : List MemberParts = map member_parts c.as_slice-members.result.now in
    let members_is : members ≡ members_in role.Item c.args.json.now =
    ap (λ (l : List Member). map member_parts l) c.as_slice-members.ensures ∙ sym (item-members c.in-Object.place c.in-Object.members) ∙ ap (λ (j : OrderedJson). members_in role.Item j) (sym c.in-Object.is) in
    let named : shape_of role.Item members ≡ Some shape.If = cc (c.in-Some-If.field-0-is, c.in-Some-If.ensures) in
    subst (λ (ms : List MemberParts). MeansItem ms (item.If c.in_ok-test-in-Some-If.test c.in_ok-then-in-Some-If.then c.in_ok-otherwise-in-Some-If.otherwise)) members_is
    (choice-means members c.in_ok-test-in-Some-If.test c.in_ok-then-in-Some-If.then c.in_ok-otherwise-in-Some-If.otherwise named
    c.in_ok-test-in-Some-If.ensures c.in_ok-then-in-Some-If.ensures c.in_ok-otherwise-in-Some-If.ensures)

pub item_in-returns-in_ok-form-in-Some : goal.item_in-returns-in_ok-form-in-Some
item_in-returns-in_ok-form-in-Some t c =
    let members : List MemberParts = map member_parts c.as_slice-members.result.now in
    let members_is : members ≡ members_in role.Item c.args.json.now =
    ap (λ (l : List Member). map member_parts l) c.as_slice-members.ensures ∙ sym (item-members c.in-Object.place c.in-Object.members) ∙ ap (λ (j : OrderedJson). members_in role.Item j) (sym c.in-Object.is) in
    subst (λ (ms : List MemberParts). MeansItem ms (item.Do c.in_ok-form-in-Some.form)) members_is
    (do-means members c.in_ok-form-in-Some.form c.in-Some.shape (sym c.shape_of.ensures ∙ c.in-Some.is) c.in_ok-form-in-Some.ensures)
