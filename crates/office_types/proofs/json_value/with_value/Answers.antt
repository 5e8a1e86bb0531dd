use Rattle.std.proofs.Common.{ap, ◌∙◌, ◌++◌, List}
use Rattle.json.specs.Print.{print}
use Rattle.json.specs.Token.{Token}
use Rattle.office_types.specs.Tokens.{tokens_of}
use Rattle.office_types.proofs.ValueLemmas.{print-tokens_of}
use Rattle.office_types.proofs.json_value.with_value.Goals as goal

pub returns : goal.returns
returns c =
    c.into_inner.ensures.items
    ∙ ap (λ l. l ++ print c.put_value.new.writer.tokens) (c.in_ok-put_value.ensures.before ∙ c.new-writer.ensures.before)
    ∙ ap (λ (l : List Token). c.args.bytes.items ++ print l)
    (c.in_ok-put_value.ensures.tokens ∙ ap (λ (l : List Token). l ++ tokens_of c.args.value.now) c.new-writer.ensures.tokens)
    ∙ ap (λ l. c.args.bytes.items ++ l) (print-tokens_of c.args.value.now)
