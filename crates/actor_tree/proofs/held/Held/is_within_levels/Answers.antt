use Rattle.std.proofs.Common.{sym, ◌∙◌, arith}
use Rattle.actor_tree.proofs.LevelLemmas.{no_level, on_top, one_up}
use Rattle.actor_tree.proofs.held.Held.is_within_levels.Goals as goal

pub returns-in_default : goal.returns-in_default
returns-in_default c =
    sym (on_top c.args.self.now.office c.loop-left.left c.loop-left.actor c.loop-left-test.true (sym c.in_default.ensures)) ∙ c.loop-left.invariant

pub loop-left-preserved : goal.loop-left-preserved
loop-left-preserved c = one_up c.args.self.now.office c.loop-left.left c.loop-left.actor c.in-Some.parent c.loop-left-test.true (sym c.in-Some.ensures) ∙ c.loop-left.invariant

pub returns : goal.returns
returns c = sym (no_level c.args.self.now.office c.loop-left.left c.loop-left.actor (omega (arith, c.loop-left-test.false))) ∙ c.loop-left.invariant
