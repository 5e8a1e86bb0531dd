use Rattle.std.proofs.Common.{ℕ, List, [], ◌∷◌, ◌++◌, ◌∙◌, ap, map, take}
use Rattle.std.specs.Prelude.{codes}
use Rattle.serde_json.specs.Data.{Data, string}
use Rattle.office_types.specs.declared.office.Item.{Item}
use Rattle.office_types.specs.declared.office.Letter.{Letter}
use Rattle.office_types.specs.declared.outcome.Own.{Own}
use Rattle.action_table.specs.Definitions.{office_definitions}
use Rattle.snapshot_text.specs.Snapshots.{history_data, letter_data, machine_data, state_data, status_word, unnamed_data}
use Rattle.snapshot_text.specs.Tokens.{keyed_data_tokens}
use Rattle.snapshot_text.specs.ValueData.{list_data, optional_data, value_data}
use Rattle.snapshot_text.proofs.TokenLemmas.{and_then, begun, on_ok}
use Rattle.snapshot_text.proofs.snapshot.put_members.Goals as goal

pub returns-clause-tokens : goal.returns-clause-tokens
returns-clause-tokens c =
    let actor = c.args.actor.now in
    let definitions = office_definitions c.args.defs.now in
    let old = c.args.writer.now.tokens in
    let context : List ℕ × Data = (codes "context", optional_data (λ (own : Own). value_data own.context) actor.own) in
    let error : List ℕ × Data = (codes "error", value_data actor.error) in
    let history : List ℕ × Data = (codes "history", history_data definitions actor.own) in
    let input : List ℕ × Data = (codes "input", optional_data (λ (item : Item). value_data item.input) actor.item) in
    let letters : List ℕ × Data = (codes "letters", list_data (map letter_data actor.mailbox)) in
    let machine : List ℕ × Data = (codes "machine", optional_data (machine_data definitions) actor.own) in
    let output : List ℕ × Data = (codes "output", value_data actor.output) in
    let src : List ℕ × Data = (codes "src", optional_data (λ (item : Item). string item.src) actor.item) in
    let status : List ℕ × Data = (codes "status", string (status_word actor.status)) in
    let systemId : List ℕ × Data = (codes "systemId", optional_data string actor.system) in
    let unnamed : List ℕ × Data = (codes "unnamed", unnamed_data actor.own) in
    let value : List ℕ × Data = (codes "value", optional_data (state_data definitions) actor.own) in
    let members : List (List ℕ × Data) = context ∷ error ∷ history ∷ input ∷ letters ∷ machine ∷ output ∷ src ∷ status ∷ systemId ∷ unnamed ∷ value ∷ [] in
    on_ok c.put_state_value.result (λ last.
    and_then old (take 11 members) value
    (and_then old (take 10 members) unnamed
    (and_then old (take 9 members) systemId
    (and_then old (take 8 members) status
    (and_then old (take 7 members) src
    (and_then old (take 6 members) output
    (and_then old (take 5 members) machine
    (and_then old (take 4 members) letters
    (and_then old (take 3 members) input
    (and_then old (take 2 members) history
    (and_then old (take 1 members) error
    (begun old context c.in_ok-put_context.ensures.tokens)
    (c.in_ok-put_under.ensures.tokens))
    (c.in_ok-put_history.ensures.tokens))
    (c.in_ok-put_input.ensures.tokens))
    (c.in_ok-put_letters.ensures.tokens ∙ ap (λ (xs : List Letter). c.put_input.new.writer.tokens ++ keyed_data_tokens (codes "letters", list_data (map letter_data xs))) c.as_slice.ensures))
    (c.in_ok-put_machine.ensures.tokens))
    (c.in_ok-put_under-2.ensures.tokens))
    (c.in_ok-put_src.ensures.tokens))
    (c.in_ok-put_text.ensures.tokens ∙ ap (λ (word : List ℕ). c.put_src.new.writer.tokens ++ keyed_data_tokens (codes "status", string word)) c.status_word.ensures))
    (c.in_ok-put_name.ensures.tokens))
    (c.in_ok-put_unnamed.ensures.tokens))
    (last))
    c.put_state_value.ensures.tokens
