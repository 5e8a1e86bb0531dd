use Rattle.std.proofs.Common.{ℕ, List, ap, length, refl}
use Rattle.std.specs.BTreeMap.{is_at}
use Rattle.std.specs.BTreeSet.{contains}
use Rattle.std.specs.List.{list_any}
use Rattle.std.specs.Ordering.{nat_cmp}
use Rattle.std.proofs.lemmas.Option.{slice_get_read}
use Rattle.machine_json.proofs.ClashLemmas.{looked_at_all, looks_at_next, looks_at_none}
use Rattle.machine_json.proofs.clash.first_clash.Goals as goal

pub loop-target-init : goal.loop-target-init
loop-target-init c =
    looks_at_none c.args.outline.now c.args.source c.args.targets.now (contains nat_cmp c.new-around.result) (contains nat_cmp c.new-closed.result)
    (λ n. ap (λ (keys : List ℕ). list_any (is_at (nat_cmp n)) keys) c.new-around.ensures.empty)
    (λ n. ap (λ (keys : List ℕ). list_any (is_at (nat_cmp n)) keys) c.new-closed.ensures.empty)

pub loop-target-preserved : goal.loop-target-preserved
loop-target-preserved c =
    let i = c.loop-target.target-index in
    rw c.earlier-first.ensures
    (looks_at_next c.args.outline.now c.args.source c.args.targets.now (contains nat_cmp c.loop-target.around) (contains nat_cmp c.loop-target.closed)
    (contains nat_cmp c.reach_target.new.around) (contains nat_cmp c.reach_target.new.closed) c.loop-target.first c.in_ok-next.next i c.target-item.result c.loop-target.invariant
    (slice_get_read c.args.targets.now (length c.args.targets.now) i c.target-item.result refl c.loop-target-test.true c.target-item.is)
    (c.in_ok-next.ensures c.loop-target.invariant.reached c.loop-target.invariant.told))

pub returns : goal.returns
returns c =
    looked_at_all c.args.outline.now c.args.source c.args.targets.now (contains nat_cmp c.loop-target.around) (contains nat_cmp c.loop-target.closed) c.loop-target.first c.loop-target.target-index
    c.loop-target.invariant c.loop-target-test.false
