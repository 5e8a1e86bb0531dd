use Rattle.std.proofs.Common.{◌++◌, ap, sym, ◌∙◌}
use Rattle.xs_model.specs.declared.value.Value.{Value}
use Rattle.snapshot_text.specs.Tokens.{data_tokens}
use Rattle.snapshot_text.specs.ValueData.{value_data}
use Rattle.snapshot_text.proofs.TokenLemmas.{list_written, map_written, on_ok, value_data-List}
use Rattle.snapshot_text.proofs.values.+put_value.Goals as goal

pub returns-after-loop-item-clause-tokens : goal.returns-after-loop-item-clause-tokens
returns-after-loop-item-clause-tokens t c =
    on_ok c.end_array.result
    (λ ended. list_written value_data c.in-List.items c.as_slice-item-items.result.now c.loop-item.item-index c.args.writer.now.tokens c.loop-item.writer.tokens c.end_array.new.self.tokens
    ended c.loop-item.invariant.1 c.as_slice-item-items.ensures c.loop-item-test.false
    ∙ ap (λ d. c.args.writer.now.tokens ++ data_tokens d) (sym (value_data-List c.in-List.items))
    ∙ ap (λ (v : Value). c.args.writer.now.tokens ++ data_tokens (value_data v)) (sym c.in-List.is))
    c.end_array.ensures.ok

pub returns-after-loop-key-clause-tokens : goal.returns-after-loop-key-clause-tokens
returns-after-loop-key-clause-tokens t c =
    on_ok c.end_object.result
    (λ ended. map_written c.in-Map.members c.as_slice-key-items.result.now c.loop-key.key-index c.args.writer.now.tokens c.loop-key.writer.tokens c.end_object.new.self.tokens
    ended c.loop-key.invariant.1 c.as_slice-key-items.ensures.pairs c.loop-key-test.false
    ∙ ap (λ (v : Value). c.args.writer.now.tokens ++ data_tokens (value_data v)) (sym c.in-Map.is))
    c.end_object.ensures.ok
