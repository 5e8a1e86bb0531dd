use Rattle.std.proofs.Common.{◌≡◌, ◌∙◌, [], arith, length, reverse}
use Rattle.std.specs.Prelude.{fold}
use Rattle.office_types.specs.ChildValues.{with_region}
use Rattle.office_types.proofs.RegionLemmas.{region_more, regions_all}
use Rattle.office_types.proofs.state_values.regions_by_key.Goals as goal

pub loop-region-preserved : goal.loop-region-preserved
loop-region-preserved c =
    region_more c.loop-region.values.entries c.insert.new.self.entries c.loop-region.regions.items c.pop.new.self.items c.in-Some.region c.in_ok-key.key (fold with_region [] (reverse c.args.regions.items))
    c.in-Some.ensures.items c.in-Ok.ensures.entries (c.in_ok-key.ensures.ok ∙ c.as_str.ensures) c.loop-region.invariant

pub returns : goal.returns
returns c =
    let cases = c.in_default.ensures.cases in
    let held = c.loop-region.regions.ok.0 in
    let none : length c.loop-region.regions.items ≡ 0 = omega (arith, cases.0, held) in
    regions_all c.loop-region.values.entries c.loop-region.regions.items (reverse c.args.regions.items) none c.loop-region.invariant
