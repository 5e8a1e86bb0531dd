use Rattle.std.proofs.Common.{◌≡◌, ◌∙◌, ap, refl, map, length, arith}
use Rattle.std.specs.Prelude.{option_map}
use Rattle.std.proofs.lemmas.List.{length-map}
use Rattle.std.proofs.lemmas.Option.{slice_get-map, slice_get_read}
use Rattle.ordered_json.specs.Words.{member_parts}
use Rattle.machine_json.specs.Links.{HasMemberLinkFault}
use Rattle.machine_json.specs.SecondPass.{HasLinkFault}
use Rattle.machine_json.specs.declared.role.Role.TheVariants as roles
use Rattle.machine_json.proofs.FirstLemmas.{among_all, among_more}
use Rattle.machine_json.proofs.LinkLemmas.{of_link_list, of_link_object, of_link_scalar, unread_has_none}
use Rattle.machine_json.proofs.links.+links.Goals as goal
use Rattle.machine_json.proofs.links.+links.Goals.{first_link_in-in-Unread, first_link_in-in_default}

pub first_link_in_items-loop-item-preserved : goal.first_link_in_items-loop-item-preserved
first_link_in_items-loop-item-preserved t c =
    rw c.earlier-first.ensures
    (among_more (HasLinkFault c.args.outline.now c.args.source c.args.role) c.args.items.now c.loop-item.item-index c.item-item.result c.loop-item.first c.in_ok-first_link_in.field-0
    (slice_get_read c.args.items.now (length c.args.items.now) c.loop-item.item-index c.item-item.result refl c.loop-item-test.true c.item-item.is)
    c.loop-item.invariant c.in_ok-first_link_in.ensures)

pub first_link_in_items-returns : goal.first_link_in_items-returns
first_link_in_items-returns t c =
    among_all (HasLinkFault c.args.outline.now c.args.source c.args.role) c.args.items.now c.loop-item.item-index c.loop-item.first c.loop-item-test.false c.loop-item.invariant

pub first_link_in_members-loop-member-preserved : goal.first_link_in_members-loop-member-preserved
first_link_in_members-loop-member-preserved t c =
    let i = c.loop-member.member-index in
    let there = slice_get_read c.args.members.now (length c.args.members.now) i c.member-item.result refl c.loop-member-test.true c.member-item.is in
    rw c.earlier-first.ensures
    (among_more (HasMemberLinkFault c.args.outline.now c.args.source c.args.role c.args.kind) (map member_parts c.args.members.now) i (member_parts c.member-item.result) c.loop-member.first c.in_ok-next.next
    (slice_get-map member_parts c.args.members.now i ∙ ap (option_map member_parts) there)
    c.loop-member.invariant c.in_ok-next.ensures)

pub first_link_in_members-returns : goal.first_link_in_members-returns
first_link_in_members-returns t c =
    among_all (HasMemberLinkFault c.args.outline.now c.args.source c.args.role c.args.kind) (map member_parts c.args.members.now) c.loop-member.member-index c.loop-member.first
    (simp length-map (omega (arith, c.loop-member-test.false))) c.loop-member.invariant

pub first_link_in-returns-then-matches : goal.first_link_in-returns-then-matches
first_link_in-returns-then-matches t c =
    let unread : c.args.role ≡ roles.Unread = elim c.match-matches.branch [
      | first_link_in-in-Unread w ↦ w.in-Unread.is
      | first_link_in-in_default w ↦ (let no = w.matches-is in let yes = c.if-matches.true in absurd (cc))
    ] in
    unread_has_none c.args.outline.now c.args.source c.args.role c.args.json.now unread

pub first_link_in-returns-in_ok-inner-in-List : goal.first_link_in-returns-in_ok-inner-in-List
first_link_in-returns-in_ok-inner-in-List t c =
    rw c.earlier.ensures
    (of_link_list c.args.outline.now c.args.source c.args.role c.of_item.result c.args.json.now c.in-List.place c.in-List.items c.as_slice-items.result.now c.in_ok-own.own c.in_ok-inner-in-List.inner
    c.in-List.is c.of_item.ensures c.as_slice-items.ensures c.in_ok-own.ensures c.in_ok-inner-in-List.ensures)

pub first_link_in-returns-in_ok-inner-in-Object : goal.first_link_in-returns-in_ok-inner-in-Object
first_link_in-returns-in_ok-inner-in-Object t c =
    rw c.earlier-in-Object.ensures
    (of_link_object c.args.outline.now c.args.source c.args.role c.of-kind.result c.args.json.now c.in-Object.place c.in-Object.members c.as_slice-members.result.now c.in_ok-own.own c.in_ok-inner-in-Object.inner
    c.in-Object.is c.of-kind.ensures c.as_slice-members.ensures c.in_ok-own.ensures c.in_ok-inner-in-Object.ensures)

pub first_link_in-returns-in-Null-4 : goal.first_link_in-returns-in-Null-4
first_link_in-returns-in-Null-4 t c =
    of_link_scalar c.args.outline.now c.args.source c.args.role c.args.json.now c.in_ok-own.own c.in-Null.is c.in_ok-own.ensures
