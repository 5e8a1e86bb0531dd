use Rattle.std.proofs.Common.{◌≡◌, ◌∙◌, ◌≤◌, List, ap, sym, refl, length, map, take, arith}
use Rattle.std.proofs.lemmas.List.{length-map, take_all}
use Rattle.std.proofs.lemmas.Option.{slice_get_read}
use Rattle.std.specs.Prelude.{slice_get}
use Rattle.std.specs.Map.{lookup}
use Rattle.std.specs.Str.{bytes_eq}
use Rattle.ordered_json.specs.declared.json.Member.{Member}
use Rattle.ordered_json.specs.declared.json.OrderedJson.TheVariants as json
use Rattle.ordered_json.specs.Words.{get, member_parts}
use Rattle.machine_json.specs.declared.role.Role.TheVariants as role
use Rattle.machine_json.specs.FirstPass.{items_of}
use Rattle.machine_json.specs.GuardForms.{form_key, forms_by_key}
use Rattle.machine_json.specs.Machines.MeansGuards.{no_guard}
use Rattle.machine_json.specs.NodeKinds.{members_of}
use Rattle.machine_json.proofs.FaultlessLemmas.{of_item}
use Rattle.machine_json.proofs.GuardLemmas.{and_means, by_answer, form_named, guards_more, name_means, no_form_means, no_form_more, no_items, not_means, or_means, state_means, test_means}
use Rattle.machine_json.proofs.NodeLemmas.{found_at, part_at, take_next}
use Rattle.machine_json.proofs.PartLemmas.{items-List, members-Object}
use Rattle.machine_json.proofs.guards.+guards.Goals as goal

pub guard_of-returns-in_default : goal.guard_of-returns-in_default
guard_of-returns-in_default t c =
    name_means c.args.outline.now c.args.source c.args.json.now c.name_alone.result c.in_default.not-Object c.name_alone.ensures

pub guards_of-returns-in_default : goal.guards_of-returns-in_default
guards_of-returns-in_default t c = rw c.new.ensures (rw (no_items c.args.json.now c.in_default.not-List) (λ sound. no_guard))

pub guard_of-loop-member-preserved : goal.guard_of-loop-member-preserved
guard_of-loop-member-preserved t c =
    let items = c.as_slice-member-items.result.now in
    let i = c.loop-member.member-index in
    let at = part_at items i c.member-item.result c.loop-member-test.true c.member-item.is in
    no_form_more (map member_parts items) i (member_parts c.member-item.result) at c.loop-member.invariant
    (ap (λ key. lookup (bytes_eq key) forms_by_key) (sym c.as_str.ensures) ∙ sym c.of_key.ensures ∙ c.in_default-of_key.is)

pub guard_of-returns-in-Some : goal.guard_of-returns-in-Some
guard_of-returns-in-Some t c =
    let items = c.as_slice-member-items.result.now in
    let i = c.loop-member.member-index in
    let member = member_parts c.member-item.result in
    let json = c.args.json.now in
    let at = part_at items i c.member-item.result c.loop-member-test.true c.member-item.is in
    let named = form_named member.key c.in-Some.form (ap (λ key. lookup (bytes_eq key) forms_by_key) (sym c.as_str.ensures) ∙ sym c.of_key.ensures ∙ c.in-Some.is) in
    let under = found_at (form_key c.in-Some.form) (map member_parts items) i member at (c.loop-member.invariant c.in-Some.form) named in
    let members : members_of json ≡ map member_parts c.in-Object.members = ap members_of c.in-Object.is ∙ members-Object c.in-Object.place c.in-Object.members in
    let same : members_of json ≡ map member_parts items = members ∙ ap (map member_parts) (sym c.as_slice-member-items.ensures) in
    let given : members_of json ≡ map member_parts c.as_slice.result.now = members ∙ ap (map member_parts) (sym c.as_slice.ensures) in
    by_answer c.args.outline.now c.args.source c.in-Some.form (map member_parts c.as_slice.result.now) member.value json c.guard_in.result
    given (ap (get (form_key c.in-Some.form)) same ∙ under) c.guard_in.ensures

pub guard_of-returns : goal.guard_of-returns
guard_of-returns t c =
    let items = c.as_slice-member-items.result.now in
    let i = c.loop-member.member-index in
    let past : length (map member_parts items) ≤ i = simp length-map (omega (arith, c.loop-member-test.false)) in
    no_form_means c.args.outline.now c.args.source c.args.json.now c.in-Object.place items c.name_alone-2.result
    (c.in-Object.is ∙ ap (λ (m : List Member). json.Object c.in-Object.place m) (sym c.as_slice-member-items.ensures))
    (λ form. ap (get (form_key form)) (sym (take_all i (map member_parts items) past)) ∙ c.loop-member.invariant form)

pub guard_in-returns-in-Test : goal.guard_in-returns-in-Test
guard_in-returns-in-Test t c =
    test_means c.args.outline.now c.args.source c.args.form (map member_parts c.args.members.now) (member_parts c.args.member.now).value c.test_of.result c.in-Test.is c.test_of.ensures

pub guard_in-returns-in_ok-parts-in-And : goal.guard_in-returns-in_ok-parts-in-And
guard_in-returns-in_ok-parts-in-And t c =
    and_means c.args.outline.now c.args.source c.args.form (map member_parts c.args.members.now) (member_parts c.args.member.now).value c.in_ok-parts-in-And.parts c.in-And.is c.in_ok-parts-in-And.ensures

pub guard_in-returns-in_ok-parts-in-Or : goal.guard_in-returns-in_ok-parts-in-Or
guard_in-returns-in_ok-parts-in-Or t c =
    or_means c.args.outline.now c.args.source c.args.form (map member_parts c.args.members.now) (member_parts c.args.member.now).value c.in_ok-parts-in-Or.parts c.in-Or.is c.in_ok-parts-in-Or.ensures

pub guard_in-returns-in_ok-new-in-Not : goal.guard_in-returns-in_ok-new-in-Not
guard_in-returns-in_ok-new-in-Not t c =
    not_means c.args.outline.now c.args.source c.args.form (map member_parts c.args.members.now) (member_parts c.args.member.now).value c.in_ok-part-in-Not.part c.in_ok-new-in-Not.field-0 c.in-Not.is
    c.in_ok-new-in-Not.ensures c.in_ok-part-in-Not.ensures

pub guard_in-returns-in-In : goal.guard_in-returns-in-In
guard_in-returns-in-In t c =
    state_means c.args.outline.now c.args.source c.args.form (map member_parts c.args.members.now) (member_parts c.args.member.now).value c.node_led_to.result c.in-In.is c.node_led_to.ensures

pub guards_of-loop-item-init : goal.guards_of-loop-item-init
guards_of-loop-item-init t c = rw c.in_ok-parts.ensures.items (λ sound. no_guard)

pub guards_of-loop-item-preserved : goal.guards_of-loop-item-preserved
guards_of-loop-item-preserved t c =
    let items = c.as_slice-item-items.result.now in
    let i = c.loop-item.item-index in
    let at = slice_get_read items (length items) i c.item-item.result refl c.loop-item-test.true c.item-item.is in
    let whole : items_of c.args.json.now ≡ items = ap items_of c.in-List.is ∙ items-List c.in-List.place c.in-List.items ∙ sym c.as_slice-item-items.ensures in
    λ sound. rw c.in_ok-push.ensures.items (rw (take_next items i c.item-item.result at)
    (guards_more c.args.outline.now c.args.source (take i items) c.loop-item.parts.items c.item-item.result c.in_ok-part.part (c.loop-item.invariant sound)
    (c.in_ok-part.ensures (of_item c.args.outline.now c.args.source role.Guards c.args.json.now i c.item-item.result sound (ap (λ l. slice_get l i) whole ∙ at)))))

pub guards_of-returns : goal.guards_of-returns
guards_of-returns t c =
    let items = c.as_slice-item-items.result.now in
    let i = c.loop-item.item-index in
    let whole : items_of c.args.json.now ≡ items = ap items_of c.in-List.is ∙ items-List c.in-List.place c.in-List.items ∙ sym c.as_slice-item-items.ensures in
    λ sound. rw c.from_vec.ensures (rw whole (rw (take_all i items c.loop-item-test.false) at (c.loop-item.invariant sound)))
