use Rattle.std.proofs.Common.{◌≡◌, [], ◌∷◌, ◌++◌, length, ◌∙◌, ap, rules}
use Rattle.gate_journal.specs.Layout.{length_bytes}
use Rattle.gate_journal.specs.declared.parts.TheConstants.{CLOSED}
use Rattle.gate_journal.proofs.journal.fill_record.Goals as goal

pub returns : goal.returns
unfolding length_bytes
returns c =
    let size : c.extend_from_slice.new.self.items ≡ length_bytes (length c.args.payload.now) = search rules in
    c.in_ok-push.ensures.items ∙ ap (λ l. l ++ CLOSED ∷ []) (c.in_ok-extend_from_slice-2.ensures.items ∙ ap (λ l. l ++ c.args.payload.now) size)
