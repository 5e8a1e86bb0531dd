use Rattle.std.proofs.Common.{ℕ, List, ◌≡◌, [], ◌∷◌, ◌++◌, ◌∙◌, ap, map, rules, take}
use Rattle.std.specs.Prelude.{codes}
use Rattle.json.specs.Print.{print}
use Rattle.json.specs.Token.{Token}
use Rattle.serde_json.specs.Data.{Data, string}
use Rattle.serde_json.proofs.Texts.{print-outline}
use Rattle.office_types.specs.declared.office.Caller.{Caller}
use Rattle.office_types.specs.declared.office.Timer.{Timer}
use Rattle.action_table.specs.Definitions.{office_definitions}
use Rattle.snapshot_text.specs.BaseText.{caller_data, office_data, timer_data, top_actors}
use Rattle.snapshot_text.specs.Snapshots.{nested_snapshot}
use Rattle.snapshot_text.specs.Tokens.{data_tokens, keyed_data_tokens}
use Rattle.snapshot_text.specs.ValueData.{list_data, number_data}
use Rattle.snapshot_text.proofs.TokenLemmas.{and_then, begun, closed_map}
use Rattle.snapshot_text.proofs.base_text.write_office.Goals as goal

pub returns : goal.returns
returns c =
    let state = c.args.state.now in
    let definitions = office_definitions c.args.defs.now in
    let old = c.new-writer.result.tokens in
    let opened = c.begin_object.new.self.tokens in
    let actors : List ℕ × Data = (codes "actors", list_data (map (nested_snapshot definitions state) (top_actors state))) in
    let callers : List ℕ × Data = (codes "callers", list_data (map caller_data state.callers)) in
    let defs : List ℕ × Data = (codes "defs", string c.args.text.now) in
    let entries : List ℕ × Data = (codes "entries", number_data state.entries) in
    let moment : List ℕ × Data = (codes "moment", number_data state.moment) in
    let nextActor : List ℕ × Data = (codes "nextActor", number_data state.next_actor) in
    let nextLetter : List ℕ × Data = (codes "nextLetter", number_data state.next_letter) in
    let nextTimer : List ℕ × Data = (codes "nextTimer", number_data state.next_timer) in
    let timers : List ℕ × Data = (codes "timers", list_data (map timer_data state.timers)) in
    let members : List (List ℕ × Data) = actors ∷ callers ∷ defs ∷ entries ∷ moment ∷ nextActor ∷ nextLetter ∷ nextTimer ∷ timers ∷ [] in
    let written =
    and_then opened (take 8 members) timers
    (and_then opened (take 7 members) nextTimer
    (and_then opened (take 6 members) nextLetter
    (and_then opened (take 5 members) nextActor
    (and_then opened (take 4 members) moment
    (and_then opened (take 3 members) entries
    (and_then opened (take 2 members) defs
    (and_then opened (take 1 members) callers
    (begun opened actors (c.in_ok-put_top_actors.ensures.tokens))
    (c.in_ok-put_callers.ensures.tokens ∙ ap (λ (xs : List Caller). c.put_top_actors.new.writer.tokens ++ keyed_data_tokens (codes "callers", list_data (map caller_data xs))) c.as_slice.ensures))
    (c.in_ok-put_text.ensures.tokens ∙ ap (λ (t : List ℕ). c.put_callers.new.writer.tokens ++ keyed_data_tokens (codes "defs", string t)) c.as_text.ensures))
    (c.in_ok-put_number.ensures.tokens))
    (c.in_ok-put_number-2.ensures.tokens))
    (c.in_ok-put_number-3.ensures.tokens))
    (c.in_ok-put_number-4.ensures.tokens))
    (c.in_ok-put_number-5.ensures.tokens))
    (c.in_ok-put_timers.ensures.tokens ∙ ap (λ (xs : List Timer). c.put_number-5.new.writer.tokens ++ keyed_data_tokens (codes "timers", list_data (map timer_data xs))) c.as_slice-2.ensures) in
    let empty : c.end_object.new.self.before ≡ [] = search rules in
    let whole = closed_map old members c.in_ok-begin_object.ensures.ok written c.in_ok-end_object.ensures.ok in
    let shown = office_data definitions state c.args.text.now in
    c.from_vec.ensures ∙ c.into_inner.ensures.items
    ∙ ap (λ l. l ++ print c.end_object.new.self.tokens) empty
    ∙ ap (λ (l : List Token). print l) (whole ∙ ap (λ (l : List Token). l ++ data_tokens shown) c.new-writer.ensures.tokens)
    ∙ print-outline shown
