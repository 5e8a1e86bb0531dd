use Rattle.std.proofs.Common.{ℕ, List, [], ◌∷◌, take}
use Rattle.std.specs.Prelude.{codes}
use Rattle.serde_json.specs.Data.{Data, string}
use Rattle.snapshot_text.specs.ValueData.{number_data, optional_data, value_data}
use Rattle.snapshot_text.proofs.TokenLemmas.{and_then, begun, closed_map, on_ok}
use Rattle.snapshot_text.proofs.base_text.put_timer.Goals as goal

pub returns-clause-tokens : goal.returns-clause-tokens
returns-clause-tokens c =
    let timer = c.args.timer.now in
    let opened = c.begin_object.new.self.tokens in
    let due : List ℕ × Data = (codes "due", number_data timer.due) in
    let event : List ℕ × Data = (codes "event", value_data timer.event) in
    let id : List ℕ × Data = (codes "id", optional_data string timer.id) in
    let order : List ℕ × Data = (codes "order", number_data timer.order) in
    let owner : List ℕ × Data = (codes "owner", number_data timer.owner) in
    let target : List ℕ × Data = (codes "target", number_data timer.target) in
    let members : List (List ℕ × Data) = due ∷ event ∷ id ∷ order ∷ owner ∷ target ∷ [] in
    let written =
    and_then opened (take 5 members) target
    (and_then opened (take 4 members) owner
    (and_then opened (take 3 members) order
    (and_then opened (take 2 members) id
    (and_then opened (take 1 members) event
    (begun opened due c.in_ok-put_number.ensures.tokens)
    c.in_ok-put_under.ensures.tokens)
    c.in_ok-put_name.ensures.tokens)
    c.in_ok-put_number-2.ensures.tokens)
    c.in_ok-put_number-3.ensures.tokens)
    c.in_ok-put_number-4.ensures.tokens in
    on_ok c.end_object.result (closed_map c.args.writer.now.tokens members c.in_ok-begin_object.ensures.ok written) c.end_object.ensures.ok
