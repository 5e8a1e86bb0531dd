use Rattle.std.proofs.Common.{◌-◌, ℕ, sym, ◌∙◌, arith}
use Rattle.node_tree.proofs.TargetLemmas.{from_id-found, from_id-none, take-rest}
use Rattle.node_tree.proofs.outline.Outline.from_id.Goals as goal

pub returns-in-Some-clause-led : goal.returns-in-Some-clause-led
returns-in-Some-clause-led c =
    let len : ℕ = c.loop-len.len - 1 in
    let whole = take-rest len c.args.text.now in
    rw whole at c.down_after.ensures.led
    ∙ sym (from_id-found c.args.self.now c.args.text.now (c.loop-len.len - 1) c.in-Some.n (omega arith) (sym c.in-Some.ensures.node) (λ k after within. c.loop-len.invariant k (omega arith) within))

pub returns-clause-led : goal.returns-clause-led
returns-clause-led c = sym (from_id-none c.args.self.now c.args.text.now (λ k within. c.loop-len.invariant k (omega arith) within))
