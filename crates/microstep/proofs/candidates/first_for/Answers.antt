use Rattle.std.proofs.Common.{◌≡◌, ◌≢◌, map, Err, rules, ◌∙◌}
use Rattle.std.specs.List.{flat_map}
use Rattle.xs_model.specs.declared.env.EvalFault.TheVariants.{Memory}
use Rattle.microstep.specs.Candidates.{candidates_under}
use Rattle.microstep.specs.Patterns.{pattern_text}
use Rattle.microstep.specs.Readings.{looking_of}
use Rattle.microstep.specs.Selection.{first_enabled}
use Rattle.microstep.proofs.FirstLemmas.{under-some, under-none, under-Err}
use Rattle.microstep.proofs.candidates.first_for.Goals as goal

pub returns-in_err-place : goal.returns-in_err-place
returns-in_err-place c =
    let reading = c.args.reading.now in
    let known : c.in_err-place.field-0.0 ≢ Memory → first_enabled (looking_of reading) (flat_map (candidates_under c.args.transitions.now) (map (pattern_text reading.kind.now) reading.patterns.now)) ≡ Err c.in_err-place.field-0.0 =
    λ apart. c.loop-pattern.invariant ∙ under-Err c.args.transitions.now reading.kind.now (looking_of reading) reading.patterns.now c.loop-pattern.pattern-index _ _ c.loop-pattern-test.true (c.in_err-place.ensures apart) in
    search (rules, known)

pub returns-in-Some : goal.returns-in-Some
returns-in-Some c =
    let reading = c.args.reading.now in
    c.loop-pattern.invariant ∙ under-some c.args.transitions.now reading.kind.now (looking_of reading) reading.patterns.now c.loop-pattern.pattern-index _ _ c.loop-pattern-test.true (rw c.in-Some.is at c.in_ok-place.ensures)

pub loop-pattern-preserved : goal.loop-pattern-preserved
loop-pattern-preserved c =
    let reading = c.args.reading.now in
    c.loop-pattern.invariant ∙ under-none c.args.transitions.now reading.kind.now (looking_of reading) reading.patterns.now c.loop-pattern.pattern-index _ c.loop-pattern-test.true (rw c.in_default.is at c.in_ok-place.ensures)
