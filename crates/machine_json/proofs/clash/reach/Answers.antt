use Rattle.std.proofs.Common.{◌∙◌, sym}
use Rattle.std.specs.BTreeSet.{contains}
use Rattle.std.specs.Ordering.{nat_cmp}
use Rattle.machine_json.proofs.WalkLemmas.{added_again, closes, ends_above, ends_there, not_there, one_more, passes, starts, tells_more, upward_of, was_there}
use Rattle.machine_json.proofs.clash.reach.Goals as goal

pub loop-parent-init : goal.loop-parent-init
loop-parent-init c =
    starts c.args.outline.now c.requires.outline (contains nat_cmp c.args.around.now) (contains nat_cmp c.args.closed.now) (contains nat_cmp c.insert.new.self) c.args.node c.requires.node
    (one_more (contains nat_cmp c.args.closed.now) (contains nat_cmp c.insert.new.self) c.args.node c.in_ok-insert.ensures.updates.0)

pub returns-in_default : goal.returns-in_default
returns-in_default c = λ reached tells.
    let around = contains nat_cmp c.insert-in-loop-parent.new.self in
    tells_more c.args.outline.now c.requires.outline (contains nat_cmp c.args.around.now) (contains nat_cmp c.args.closed.now) around (contains nat_cmp c.loop-parent.closed) c.args.node c.requires.node
    (ends_above c.args.outline.now c.requires.outline (contains nat_cmp c.args.around.now) (contains nat_cmp c.args.closed.now) (contains nat_cmp c.loop-parent.around) around (contains nat_cmp c.loop-parent.closed) c.args.node c.loop-parent.at
    c.loop-parent.invariant (one_more (contains nat_cmp c.loop-parent.around) around c.loop-parent.at c.in_ok-insert-2.ensures.updates.0)
    (sym c.parent.ensures.parent ∙ c.in_default.is))
    reached tells

pub loop-parent-preserved-in_ok-insert-3 : goal.loop-parent-preserved-in_ok-insert-3
loop-parent-preserved-in_ok-insert-3 c =
    let around = contains nat_cmp c.insert-in-loop-parent.new.self in
    let closed = contains nat_cmp c.insert-then-is_divided.new.self in
    closes c.args.outline.now c.requires.outline (contains nat_cmp c.args.around.now) (contains nat_cmp c.args.closed.now)
    (contains nat_cmp c.loop-parent.around) (contains nat_cmp c.loop-parent.closed) around closed c.args.node c.loop-parent.at c.in-Some.parent c.loop-parent.invariant
    (one_more (contains nat_cmp c.loop-parent.around) around c.loop-parent.at c.in_ok-insert-2.ensures.updates.0)
    (not_there (contains nat_cmp c.loop-parent.around c.loop-parent.at) c.in_ok-insert-2.field-0 c.in_ok-insert-2.ensures.added c.if-branch.true)
    (sym c.parent.ensures.parent ∙ c.in-Some.is)
    c.if-is_divided.ensures.0 c.if-is_divided.ensures.1
    (one_more (contains nat_cmp c.loop-parent.closed) closed c.in-Some.parent c.in_ok-insert-3.ensures.updates.0)

pub loop-parent-preserved : goal.loop-parent-preserved
loop-parent-preserved c =
    let around = contains nat_cmp c.insert-in-loop-parent.new.self in
    passes c.args.outline.now c.requires.outline (contains nat_cmp c.args.around.now) (contains nat_cmp c.args.closed.now)
    (contains nat_cmp c.loop-parent.around) (contains nat_cmp c.loop-parent.closed) around (contains nat_cmp c.loop-parent.closed) c.args.node c.loop-parent.at c.in-Some.parent c.loop-parent.invariant
    (one_more (contains nat_cmp c.loop-parent.around) around c.loop-parent.at c.in_ok-insert-2.ensures.updates.0)
    (not_there (contains nat_cmp c.loop-parent.around c.loop-parent.at) c.in_ok-insert-2.field-0 c.in_ok-insert-2.ensures.added c.if-branch.true)
    (sym c.parent.ensures.parent ∙ c.in-Some.is)
    c.if-is_divided.ensures

pub returns : goal.returns
returns c = λ reached tells.
    let around = contains nat_cmp c.insert-in-loop-parent.new.self in
    let there = was_there (contains nat_cmp c.loop-parent.around c.loop-parent.at) c.in_ok-insert-2.field-0 c.in_ok-insert-2.ensures.added c.if-branch.false in
    tells_more c.args.outline.now c.requires.outline (contains nat_cmp c.args.around.now) (contains nat_cmp c.args.closed.now) around (contains nat_cmp c.loop-parent.closed) c.args.node c.requires.node
    (added_again c.args.outline.now (contains nat_cmp c.args.around.now) (contains nat_cmp c.args.closed.now) (contains nat_cmp c.loop-parent.around) around (contains nat_cmp c.loop-parent.closed) c.args.node c.loop-parent.at
    (ends_there c.args.outline.now c.requires.outline (contains nat_cmp c.args.around.now) (contains nat_cmp c.args.closed.now) (contains nat_cmp c.loop-parent.around) (contains nat_cmp c.loop-parent.closed) c.args.node c.loop-parent.at
    c.loop-parent.invariant there (upward_of c.args.outline.now reached (contains nat_cmp c.args.around.now) (contains nat_cmp c.args.closed.now) tells))
    (one_more (contains nat_cmp c.loop-parent.around) around c.loop-parent.at c.in_ok-insert-2.ensures.updates.0) there)
    reached tells
