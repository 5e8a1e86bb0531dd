use Rattle.std.proofs.Common.{◌-◌, get_or, refl, arith, inl, inr, ℕ}
use Rattle.std.proofs.lemmas.Bool.{cases_eq}
use Rattle.std.proofs.lemmas.List.Elements.{Contains-get_or}
use Rattle.node_tree.specs.Nodes.{IsBelow}
use Rattle.microstep.specs.Climbing.{IsAtEnd}
use Rattle.microstep.proofs.DoneLemmas.{done-below, done-from, member-at}
use Rattle.microstep.proofs.done.is_done.Goals as goal

pub holds_back-requires-clause-node : goal.holds_back-requires-clause-node
holds_back-requires-clause-node c =
    let first = c.loop-i-test.true in
    let within = c.loop-i.auto.i in
    c.requires.configuration.legal.of_tree _ (Contains-get_or c.args.configuration.now (c.loop-i.i - 1) 0 (omega arith))

pub holds_back-requires-clause-high : goal.holds_back-requires-clause-high
holds_back-requires-clause-high c = c.requires.configuration.legal.of_tree c.args.node c.requires.active

pub is_atomic-requires : goal.is_atomic-requires
is_atomic-requires c = c.requires.configuration.legal.of_tree c.args.node c.requires.active

pub loop-i-preserved : goal.loop-i-preserved
loop-i-preserved c = λ k from inside below.
    let first = c.loop-i-test.true in
    let within = c.loop-i.auto.i in
    let conf = c.args.configuration.now in
    elim (cases_eq k (c.loop-i.i - 1)) [
      | inl same ↦
          let P : ℕ → Type 0 = λ j. IsBelow c.args.tree.now (get_or conf j 0) c.args.node → IsAtEnd c.args.tree.now c.args.later.now (get_or conf j 0) in
          let here : P (c.loop-i.i - 1) = rw c.if-holds_back.false at c.holds_back.ensures in
          let at : P k = rw same here in at below
      | inr other ↦ c.loop-i.invariant k (omega (arith, from, other)) inside below
    ]

pub returns-then-is_atomic : goal.returns-then-is_atomic
returns-then-is_atomic c =
    ((λ off. absurd cc), (λ is. absurd ((done-below c.args.tree.now c.len-nodes.ensures.tree c.requires.statechart c.args.configuration.now c.args.later.now c.requires.configuration.legal c.args.node c.requires.active is).0 (c.is_atomic.ensures.0 c.if-is_atomic.true))))

pub returns-then-holds_back : goal.returns-then-holds_back
returns-then-holds_back c =
    let first = c.loop-i-test.true in
    let within = c.loop-i.auto.i in
    let back = rw c.if-holds_back.true at c.holds_back.ensures in (
      (λ off. absurd cc),
      (λ is. absurd (back.1
          ((done-below c.args.tree.now c.len-nodes.ensures.tree c.requires.statechart c.args.configuration.now c.args.later.now c.requires.configuration.legal c.args.node c.requires.active is).1 _
          (Contains-get_or c.args.configuration.now (c.loop-i.i - 1) 0 (omega arith)) back.0))),
    )

pub returns : goal.returns
returns c = (
  (λ yes. done-from c.args.tree.now c.len-nodes.ensures.tree c.requires.statechart c.args.configuration.now c.args.later.now c.requires.configuration.legal c.args.node c.requires.active
      (λ atomic. let on = c.is_atomic.ensures.1 atomic in let off = c.if-is_atomic.false in cc)
      (member-at c.args.tree.now c.args.configuration.now c.args.later.now c.args.node (λ k inside. c.loop-i.invariant k (let end = c.loop-i-test.false in omega (arith, end)) inside))),
  (λ is. refl),
)
