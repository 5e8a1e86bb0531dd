use Rattle.std.proofs.Common.{◌∙◌, ap, refl, sym, map, length, arith}
use Rattle.std.specs.Prelude.{option_map}
use Rattle.std.proofs.lemmas.Option.{slice_get-map, slice_get_read}
use Rattle.ordered_json.specs.Words.{member_parts}
use Rattle.machine_json.specs.FirstPass.{HasFaultAs, HasMemberFault}
use Rattle.std.proofs.lemmas.List.{length-map}
use Rattle.machine_json.specs.Roles.{member_role}
use Rattle.machine_json.proofs.FirstLemmas.{among_all, among_more}
use Rattle.machine_json.proofs.PartLemmas.{of_list, of_member, of_object, of_scalar}
use Rattle.machine_json.proofs.first_pass.+first_pass.Goals as goal

pub first_in_items-loop-item-preserved : goal.first_in_items-loop-item-preserved
first_in_items-loop-item-preserved t c =
    rw c.earlier-first.ensures
    (among_more (HasFaultAs c.args.role) c.args.items.now c.loop-item.item-index c.item-item.result c.loop-item.first c.in_ok-first_fault.field-0
    (slice_get_read c.args.items.now (length c.args.items.now) c.loop-item.item-index c.item-item.result refl c.loop-item-test.true c.item-item.is)
    c.loop-item.invariant c.in_ok-first_fault.ensures)

pub first_in_items-returns : goal.first_in_items-returns
first_in_items-returns t c =
    among_all (HasFaultAs c.args.role) c.args.items.now c.loop-item.item-index c.loop-item.first c.loop-item-test.false c.loop-item.invariant

pub first_in_members-loop-member-preserved : goal.first_in_members-loop-member-preserved
first_in_members-loop-member-preserved t c =
    let i = c.loop-member.member-index in
    let parts = map member_parts c.args.members.now in
    let there = slice_get_read c.args.members.now (length c.args.members.now) i c.member-item.result refl c.loop-member-test.true c.member-item.is in
    rw c.earlier-first.ensures
    (among_more (HasMemberFault c.args.role c.args.kind) parts i (member_parts c.member-item.result) c.loop-member.first c.in_ok-first_in_member.field-0
    (slice_get-map member_parts c.args.members.now i ∙ ap (option_map member_parts) there)
    c.loop-member.invariant c.in_ok-first_in_member.ensures)

pub first_in_members-returns : goal.first_in_members-returns
first_in_members-returns t c =
    among_all (HasMemberFault c.args.role c.args.kind) (map member_parts c.args.members.now) c.loop-member.member-index c.loop-member.first
    (simp length-map (omega (arith, c.loop-member-test.false))) c.loop-member.invariant

pub first_in_member-returns-in_ok-inner-in-Some : goal.first_in_member-returns-in_ok-inner-in-Some
first_in_member-returns-in_ok-inner-in-Some t c =
    rw c.earlier.ensures
    (of_member c.args.role c.args.kind (member_parts c.args.member.now) c.in-Some.part c.key_fault-at_key.result c.in_ok-inner-in-Some.inner
    (ap (member_role c.args.role c.args.kind) (sym c.as_str.ensures) ∙ sym c.of_member.ensures ∙ c.in-Some.is) c.key_fault-at_key.ensures c.in_ok-inner-in-Some.ensures)

pub first_fault-returns-in_ok-inner-in-List : goal.first_fault-returns-in_ok-inner-in-List
first_fault-returns-in_ok-inner-in-List t c =
    rw c.earlier.ensures
    (of_list c.args.role c.of_item.result c.args.json.now c.in-List.place c.in-List.items c.as_slice.result.now c.in_ok-own.own c.in_ok-inner-in-List.inner
    c.in-List.is c.of_item.ensures c.as_slice.ensures c.in_ok-own.ensures c.in_ok-inner-in-List.ensures)

pub first_fault-returns-in_ok-inner-in-Object : goal.first_fault-returns-in_ok-inner-in-Object
first_fault-returns-in_ok-inner-in-Object t c =
    rw c.earlier-in-Object.ensures
    (of_object c.args.role c.of.result c.args.json.now c.in-Object.place c.in-Object.members c.as_slice-in-Object.result.now c.in_ok-own.own c.in_ok-inner-in-Object.inner
    c.in-Object.is c.of.ensures c.as_slice-in-Object.ensures c.in_ok-own.ensures c.in_ok-inner-in-Object.ensures)

pub first_fault-returns-in-Null : goal.first_fault-returns-in-Null
first_fault-returns-in-Null t c =
    of_scalar c.args.role c.args.json.now c.in_ok-own.own c.in-Null.is c.in_ok-own.ensures

pub first_fault-returns-in-Null-2 : goal.first_fault-returns-in-Null-2
first_fault-returns-in-Null-2 t c =
    of_scalar c.args.role c.args.json.now c.in_ok-own.own c.in-Null.is c.in_ok-own.ensures

pub first_fault-returns-in-Null-3 : goal.first_fault-returns-in-Null-3
first_fault-returns-in-Null-3 t c =
    of_scalar c.args.role c.args.json.now c.in_ok-own.own c.in-Null.is c.in_ok-own.ensures

pub first_fault-returns-in-Null-4 : goal.first_fault-returns-in-Null-4
first_fault-returns-in-Null-4 t c =
    of_scalar c.args.role c.args.json.now c.in_ok-own.own c.in-Null.is c.in_ok-own.ensures
