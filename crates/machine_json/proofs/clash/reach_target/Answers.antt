use Rattle.std.proofs.Common.{◌∙◌, ap}
use Rattle.std.specs.Bool.{then_some}
use Rattle.std.specs.BTreeSet.{contains}
use Rattle.std.specs.Ordering.{nat_cmp}
use Rattle.machine_json.specs.declared.fault.MachineFault.TheVariants.{Clash}
use Rattle.machine_json.proofs.ClashLemmas.{reaches_none, reaches_one}
use Rattle.machine_json.proofs.clash.reach_target.Goals as goal

pub returns-in_default : goal.returns-in_default
returns-in_default c = λ reached tells.
    reaches_none c.args.outline.now c.args.source c.args.target.now reached (contains nat_cmp c.args.around.now) (contains nat_cmp c.args.closed.now)
    (rw c.in_default.is at c.counted_target.ensures) tells

pub returns : goal.returns
returns c = λ reached tells.
    let taken = c.is_taken-is_taken.result in
    reaches_one c.args.outline.now c.args.source c.args.target.now reached (contains nat_cmp c.reach.new.around) (contains nat_cmp c.reach.new.closed) taken c.in-Some.node c.then_some.result
    (c.in-Some.ensures.1, c.in-Some.ensures.2, c.in-Some.ensures.3) (c.is_taken-is_taken.ensures reached tells)
    (c.then_some.ensures ∙ ap (λ place. then_some taken (Clash place)) c.place.ensures)
    (c.in_ok-reach.ensures reached tells)
