use Rattle.std.proofs.Common.{◌≡◌, ◌-◌, ◌&&◌, suc, false, map, sym, arith}
use Rattle.std.proofs.lemmas.List.{map_push}
use Rattle.microstep.specs.Candidates.{ends_part}
use Rattle.microstep.specs.Patterns.{pattern_text}
use Rattle.microstep.specs.declared.patterns.Pattern.TheVariants.{Part}
use Rattle.microstep.proofs.PatternLemmas.{is_other, not-both, not-second, wildcard, wildcards-push, wildcards-skip}
use Rattle.microstep.proofs.patterns.patterns_of.Goals as goal
use Rattle.microstep.proofs.patterns.patterns_of.Goals.{else-ends_part-via-then-ends_part+else-not-is_pattern, else-ends_part-via-else-ends_part}

pub loop-count-preserved-then-not-is_pattern : goal.loop-count-preserved-then-not-is_pattern
loop-count-preserved-then-not-is_pattern c =
    let kind = c.args.kind.now in
    let count = c.loop-count.count - 1 in
    let first = c.loop-count-test.true in
    let next : c.loop-count.count ≡ suc count = omega arith in
    rw (c.in_ok-push.ensures.items, map_push (pattern_text kind) c.loop-count.patterns.items (Part count))
    (wildcards-push kind (map (pattern_text kind) c.loop-count.patterns.items) c.loop-count.count count _ next (sym c.if-ends_part.ensures) (sym c.if-not-is_pattern.ensures) c.loop-count.invariant)

pub loop-count-preserved : goal.loop-count-preserved
loop-count-preserved c =
    let kind = c.args.kind.now in
    let count = c.loop-count.count - 1 in
    let first = c.loop-count-test.true in
    let next : c.loop-count.count ≡ suc count = omega arith in
    let out : (ends_part kind count && is_other kind (wildcard kind count)) ≡ false =
    elim c.else-ends_part.branch [
      | else-ends_part-via-then-ends_part+else-not-is_pattern w ↦ not-second (ends_part kind count) _ (sym w.if-not-is_pattern.ensures)
      | else-ends_part-via-else-ends_part w ↦ not-both _ _ (sym w.if-ends_part.ensures)
    ] in
    wildcards-skip kind (map (pattern_text kind) c.loop-count.patterns.items) c.loop-count.count count _ next out c.loop-count.invariant
