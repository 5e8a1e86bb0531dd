use Rattle.std.proofs.Common.{◌≡◌, ◌≤◌, length, ◌++◌, ◌∷◌, [], ◌∙◌, sym, ap, subst, arith, length-append, rules}
use Rattle.gate_journal.specs.Pieces.{pieces, Ends}
use Rattle.gate_journal.proofs.PieceLemmas.{Ends-push, pieces-push}
use Rattle.gate_journal.proofs.records.Records.push.Goals as goal

pub invariant_of-self-2 : goal.invariant_of-self-2
invariant_of-self-2 c =
    let bytes = c.in_ok-extend_from_slice.ensures.items in
    let ends = c.in_ok-push.ensures.items ∙ ap (λ l. l ++ c.len-end.result ∷ []) c.reserve.ensures.items in
    let is : c.len-end.result ≡ length c.extend_from_slice.new.self.items = search rules in
    let more : length c.self.inside.bytes.items ≤ c.len-end.result = omega (arith, is, ap length bytes, length-append c.self.inside.bytes.items c.args.payload.now) in
    let pushed = Ends-push 0 c.self.inside.ends.items (length c.self.inside.bytes.items) c.len-end.result c.self.invariant more in
    subst (λ n. Ends 0 c.push.new.self.items n) is (subst (λ l. Ends 0 l c.len-end.result) (sym ends) pushed)

pub returns-clause-ok : goal.returns-clause-ok
returns-clause-ok c =
    let bytes = c.in_ok-extend_from_slice.ensures.items in
    let ends = c.in_ok-push.ensures.items ∙ ap (λ l. l ++ c.len-end.result ∷ []) c.reserve.ensures.items in
    let is : c.len-end.result ≡ length c.extend_from_slice.new.self.items = search rules in
    ap (λ l. pieces c.extend_from_slice.new.self.items 0 l) ends
    ∙ ap (λ l. pieces l 0 (c.self.inside.ends.items ++ c.len-end.result ∷ [])) bytes
    ∙ ap (λ n. pieces (c.self.inside.bytes.items ++ c.args.payload.now) 0 (c.self.inside.ends.items ++ n ∷ [])) (is ∙ ap length bytes)
    ∙ pieces-push c.self.inside.bytes.items c.args.payload.now 0 c.self.inside.ends.items c.self.invariant
    ∙ ap (λ l. l ++ c.args.payload.now ∷ []) c.self.view_is
