use Rattle.std.proofs.Common.{◌∙◌, sym}
use Rattle.std.specs.BTreeSet.{contains}
use Rattle.std.specs.Ordering.{nat_cmp}
use Rattle.machine_json.proofs.ReachLemmas.{climbs, free_at_root, taken_above}
use Rattle.machine_json.proofs.clash.is_taken.Goals as goal

pub returns-then-is_blocked : goal.returns-then-is_blocked
returns-then-is_blocked c =
    taken_above c.args.outline.now c.requires.outline (contains nat_cmp c.args.around.now) (contains nat_cmp c.args.closed.now) c.args.node c.loop-parent.at c.in-Some.parent
    c.loop-parent.invariant (sym c.parent.ensures.parent ∙ c.in-Some.is) c.if-is_blocked.ensures

pub loop-parent-preserved : goal.loop-parent-preserved
loop-parent-preserved c =
    climbs c.args.outline.now c.requires.outline (contains nat_cmp c.args.around.now) (contains nat_cmp c.args.closed.now) c.args.node c.loop-parent.at c.in-Some.parent
    c.loop-parent.invariant (sym c.parent.ensures.parent ∙ c.in-Some.is) c.if-is_blocked.ensures

pub returns : goal.returns
returns c =
    free_at_root c.args.outline.now c.requires.outline (contains nat_cmp c.args.around.now) (contains nat_cmp c.args.closed.now) c.args.node c.loop-parent.at
    c.loop-parent.invariant (sym c.parent.ensures.parent ∙ c.in_default.is)
