use Rattle.std.proofs.Common.{◌<◌, ℕ, length}
use Rattle.std.proofs.lemmas.List.Elements.{All-push}
use Rattle.microstep.specs.Climbing.{IsActiveYet}
use Rattle.microstep.proofs.ClimbLemmas.{climb-all, climb-more}
use Rattle.microstep.proofs.done.climb.Goals as goal

pub loop-high-preserved : goal.loop-high-preserved
loop-high-preserved c = (
  c.in-Some.ensures.inside.1,
  climb-more c.args.def.now (IsActiveYet c.args.configuration.now c.args.later.now) c.args.node c.loop-high.low c.in-Some.high c.loop-high.nodes.items c.push.new.self.items
      c.in_ok-push.ensures.items c.in-Some.ensures.high c.loop-high.invariant.1,
  rw c.in_ok-push.ensures.items
      (All-push (λ (n : ℕ). n < length c.args.def.now.tree) c.loop-high.nodes.items c.in-Some.high c.loop-high.invariant.2 (c.requires.configuration.legal.of_tree c.in-Some.high c.in-Some.ensures.inside.1)),
)

pub returns-clause-climb : goal.returns-clause-climb
returns-clause-climb c =
    climb-all c.args.def.now (IsActiveYet c.args.configuration.now c.args.later.now) c.args.node c.loop-high.low c.loop-high.nodes.items c.in_default.ensures.high c.loop-high.invariant.1
