-- Worked examples of texts, byte for byte.
use Rattle.std.specs.Prelude.{◌≡◌, ℕ, List, [], ◌∷◌, None, codes}
use Rattle.serde_json.specs.Written.{compact_text}
use Rattle.office_types.specs.declared.office.ActorRecord.{ActorRecord}
use Rattle.office_types.specs.declared.office.OfficeState.{OfficeState}
use Rattle.office_types.specs.Definitions.{OfficeDefinitions}
use Rattle.office_types.specs.Records.{empty_office}
use Rattle.office_types.specs.WorkedRows.{actor, empty, own, toggle_office}
use Rattle.snapshot_text.specs.BaseText.{base_text}
use Rattle.snapshot_text.specs.Snapshots.{nested_snapshot}

-- no machines and no actors
abbrev pub no_definitions : OfficeDefinitions
no_definitions = record { machines = []; actors = [] }

-- the empty office under a text of 37 bytes
abbrev pub EmptyOfficeText : Type 0
EmptyOfficeText =
    base_text no_definitions empty_office (codes "{\"machines\":[],\"implementations\":{}}")
    ≡ codes "{\"actors\":[],\"callers\":[],\"defs\":\"{\\\"machines\\\":[],\\\"implementations\\\":{}}\",\"entries\":0,\"moment\":0,\"nextActor\":1,\"nextLetter\":1,\"nextTimer\":1,\"timers\":[]}"

-- an actor of a toggle after two steps
abbrev pub switched_on : ActorRecord
switched_on = actor 1 None (own 0 (0 ∷ 2 ∷ []) empty [] 0) [] []

-- an office with that actor alone
abbrev pub with_toggle : OfficeState
with_toggle = record empty_office { actors = switched_on ∷ []; entries = 4; next_actor = 2; next_letter = 3 }

-- the text of its snapshot
abbrev pub toggle_text : List ℕ
toggle_text = codes "{\"actor\":1,\"children\":[],\"context\":{},\"error\":null,\"history\":[],\"input\":null,\"letters\":[],\"machine\":\"toggle\",\"output\":null,\"src\":null,\"status\":\"active\",\"systemId\":null,\"unnamed\":0,\"value\":\"on\"}"

-- its nested snapshot
abbrev pub ToggleSnapshot : Type 0
ToggleSnapshot = compact_text (nested_snapshot toggle_office with_toggle 1) ≡ toggle_text

-- each comes out as it is written
pub record WorkedTexts : Type 0 where
  pub empty : EmptyOfficeText
  pub toggle : ToggleSnapshot
