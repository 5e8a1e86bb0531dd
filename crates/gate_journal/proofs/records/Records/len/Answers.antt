use Rattle.std.proofs.Common.{◌≡◌, ◌∙◌, sym, ap, length, rules}
use Rattle.gate_journal.proofs.PieceLemmas.{length-pieces}
use Rattle.gate_journal.proofs.records.Records.len.Goals as goal

pub returns : goal.returns
returns c =
    let is : c.len.result ≡ length c.self.inside.ends.items = search rules in
    is ∙ sym (length-pieces c.self.inside.bytes.items 0 c.self.inside.ends.items) ∙ ap length c.self.view_is
