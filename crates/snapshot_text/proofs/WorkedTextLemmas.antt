-- The worked examples come out as written.
use Rattle.std.proofs.Common.{◌≡◌, ◌∙◌, [], ◌∷◌, ap, refl}
use Rattle.std.specs.Prelude.{codes}
use Rattle.std.specs.Fmt.{digits}
use Rattle.json.proofs.OnLiterals.{json_on_literals}
use Rattle.serde_json.specs.Data.{Data, null, string}
use Rattle.serde_json.specs.Written.{compact_text}
use Rattle.xs_model.specs.declared.value.Value.TheVariants as value
use Rattle.office_types.specs.WorkedRows.{toggle_office}
use Rattle.office_types.specs.StateValue.{active_nodes}
use Rattle.snapshot_text.specs.Snapshots.{nested_snapshot, snapshot_data}
use Rattle.snapshot_text.specs.WorkedTexts.{EmptyOfficeText, ToggleSnapshot, WorkedTexts, toggle_text, with_toggle}
use Rattle.snapshot_text.specs.ValueData.{list_data, map_data, number_data, value_data}
use Rattle.snapshot_text.proofs.TokenLemmas.{value_data-Map, value_data-Null, value_data-Text}

empty_office_text : EmptyOfficeText
unfolding digits json_on_literals
empty_office_text = refl

-- the snapshot with these in the places of its values
abbrev with_values : Data → Data → Data → Data → Data
with_values context error output state = map_data (
    (codes "actor", number_data 1)
    ∷ (codes "children", list_data [])
    ∷ (codes "context", context)
    ∷ (codes "error", error)
    ∷ (codes "history", list_data [])
    ∷ (codes "input", null)
    ∷ (codes "letters", list_data [])
    ∷ (codes "machine", string (codes "toggle"))
    ∷ (codes "output", output)
    ∷ (codes "src", null)
    ∷ (codes "status", string (codes "active"))
    ∷ (codes "systemId", null)
    ∷ (codes "unnamed", number_data 0)
    ∷ (codes "value", state)
    ∷ []
    )

values_there : nested_snapshot toggle_office with_toggle 1 ≡ with_values (value_data (value.Map [])) (value_data value.Null) (value_data value.Null) (value_data (value.Text (codes "on")))
unfolding active_nodes snapshot_data
values_there = refl

as_written : compact_text (with_values (map_data []) null null (string (codes "on"))) ≡ toggle_text
unfolding digits json_on_literals
as_written = refl

toggle_snapshot : ToggleSnapshot
toggle_snapshot =
    ap compact_text (values_there
    ∙ ap (λ d. with_values d (value_data value.Null) (value_data value.Null) (value_data (value.Text (codes "on")))) (value_data-Map [])
    ∙ ap (λ d. with_values (map_data []) d d (value_data (value.Text (codes "on")))) value_data-Null
    ∙ ap (λ d. with_values (map_data []) null null d) (value_data-Text (codes "on")))
    ∙ as_written

pub worked_texts : WorkedTexts
worked_texts = record { empty = empty_office_text; toggle = toggle_snapshot }
