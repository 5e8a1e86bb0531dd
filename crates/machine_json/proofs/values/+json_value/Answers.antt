use Rattle.std.proofs.Common.{◌∙◌, ◌+◌, ap, length, map, refl, sym, take}
use Rattle.std.proofs.lemmas.List.{take_all}
use Rattle.std.proofs.lemmas.Option.{slice_get_read}
use Rattle.xs_model.specs.declared.value.Value.TheVariants as value
use Rattle.machine_json.specs.JsonValues.{json_value}
use Rattle.machine_json.proofs.NodeLemmas.{take_next}
use Rattle.machine_json.proofs.SortedLemmas.{fields-Object, fields_again, fields_more}
use Rattle.machine_json.proofs.ValueLemmas.{fields_of, json-List}
use Rattle.machine_json.proofs.values.+json_value.Goals as goal

pub loop-member-preserved : goal.loop-member-preserved
loop-member-preserved t c =
    let items = c.as_slice-member-items.result.now in
    let i = c.loop-member.member-index in
    let member = c.member-item.result in
    let at = slice_get_read items (length items) i member refl c.loop-member-test.true c.member-item.is in
    fields_more c.loop-member.values.entries c.insert.new.self.entries (take i items) (take (i + 1) items) member c.in_ok-key-in-Object.key c.in_ok-value-in-Object.value
    (take_next items i member at) c.in-Ok.ensures.entries (c.in_ok-key-in-Object.ensures.ok ∙ c.as_str.ensures) c.in_ok-value-in-Object.ensures c.loop-member.invariant

pub returns-after-loop-item : goal.returns-after-loop-item
returns-after-loop-item t c =
    let items = c.as_slice-item-items.result.now in
    ap value.List (c.from_vec.ensures ∙ c.loop-item.invariant
    ∙ ap (map json_value) (take_all c.loop-item.item-index items c.loop-item-test.false ∙ c.as_slice-item-items.ensures))
    ∙ sym (json-List c.in-List.place c.in-List.items) ∙ sym (ap json_value c.in-List.is)

pub returns-in_ok-fields_by_key-in-Object : goal.returns-in_ok-fields_by_key-in-Object
returns-in_ok-fields_by_key-in-Object t c =
    let items = c.as_slice-member-items.result.now in
    let i = c.loop-member.member-index in
    ap value.Map (c.in_ok-fields_by_key-in-Object.ensures ∙ fields_again c.loop-member.values.entries (take i items) c.loop-member.invariant
    ∙ ap fields_of (take_all i items c.loop-member-test.false ∙ c.as_slice-member-items.ensures))
    ∙ fields-Object c.in-Object.place c.in-Object.members ∙ sym (ap json_value c.in-Object.is)
