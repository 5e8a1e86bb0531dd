use Rattle.std.proofs.Common.{List, ◌∙◌, ◌++◌, ap}
use Rattle.json.specs.Print.{print}
use Rattle.json.specs.Token.{Token}
use Rattle.serde_json.proofs.Texts.{print-outline}
use Rattle.action_table.specs.Definitions.{office_definitions}
use Rattle.snapshot_text.specs.Snapshots.{nested_snapshot}
use Rattle.snapshot_text.specs.Tokens.{data_tokens}
use Rattle.snapshot_text.proofs.snapshot.deep.Goals as goal

pub returns : goal.returns
returns c =
    let shown = nested_snapshot (office_definitions c.args.defs.now) c.args.state.now c.args.actor in
    c.from_vec.ensures ∙ c.into_inner.ensures.items
    ∙ ap (λ l. l ++ print c.put_snapshot.new.writer.tokens) (c.in_ok-put_snapshot.ensures.before ∙ c.new-writer.ensures.before ∙ c.new.ensures.items)
    ∙ ap (λ (l : List Token). print l) (c.in_ok-put_snapshot.ensures.tokens ∙ ap (λ (l : List Token). l ++ data_tokens shown) c.new-writer.ensures.tokens)
    ∙ print-outline shown
