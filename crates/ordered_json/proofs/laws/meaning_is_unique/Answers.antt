-- Both meanings are the reader's answer.
use Rattle.std.proofs.Common.{◌≡◌, Ok, sym, ◌∙◌}
use Rattle.ordered_json.proofs.LiteralLemmas.{Answer}
use Rattle.ordered_json.proofs.AnswerLemmas.{reader_answer-value}
use Rattle.ordered_json.proofs.laws.meaning_is_unique.Goals as goal

pub returns : goal.returns
returns c = λ text a b ha hb.
    let same : ◌≡◌ {A = Answer} (Ok a) (Ok b) = sym (reader_answer-value text a ha.1) ∙ reader_answer-value text b hb.1 in
    cc
