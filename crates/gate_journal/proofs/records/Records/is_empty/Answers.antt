use Rattle.std.proofs.Common.{◌≡◌, ◌∙◌, sym, ap, length, rules}
use Rattle.std.specs.Prelude.{◌==◌}
use Rattle.gate_journal.proofs.PieceLemmas.{length-pieces}
use Rattle.gate_journal.proofs.records.Records.is_empty.Goals as goal

pub returns : goal.returns
returns c =
    let is : c.is_empty.result ≡ (length c.self.inside.ends.items == 0) = search rules in
    is ∙ ap (λ n. n == 0) (sym (length-pieces c.self.inside.bytes.items 0 c.self.inside.ends.items) ∙ ap length c.self.view_is)
