use Rattle.std.proofs.Common.{◌≡◌, [], ◌∷◌, ◌++◌, length, ◌∙◌, ap, rules}
use Rattle.gate_journal.specs.Layout.{length_bytes, eight_bytes}
use Rattle.gate_journal.specs.declared.parts.TheConstants.{CLOSED}
use Rattle.gate_journal.proofs.journal.side_behind_gate.Goals as goal

pub returns : goal.returns
unfolding length_bytes eight_bytes
returns c =
    let generation : c.extend_from_slice.new.self.items ≡ eight_bytes c.args.generation = search rules in
    let size : c.extend_from_slice-2.new.self.items ≡ c.extend_from_slice.new.self.items ++ length_bytes (length c.args.base.now) = search rules in
    c.in_ok-push.ensures.items
    ∙ ap (λ l. l ++ CLOSED ∷ []) (
    c.in_ok-extend_from_slice-3.ensures.items
    ∙ ap (λ l. l ++ c.args.base.now) (size ∙ ap (λ l. l ++ length_bytes (length c.args.base.now)) generation)
    )
