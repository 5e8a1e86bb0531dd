use Rattle.microstep.proofs.PatternLemmas.{joined-more, joined-none}
use Rattle.microstep.proofs.patterns.is_joined.Goals as goal

pub returns-in-Some : goal.returns-in-Some
returns-in-Some c =
    joined-more c.args.text.now c.args.front.now c.args.back.now c.in-Some.rest.now c.eq.result c.in-Some.ensures.cases.0 c.in-Some.ensures.cases.1 c.eq.ensures

pub returns-in-None : goal.returns-in-None
returns-in-None c = joined-none c.args.text.now c.args.front.now c.args.back.now c.in-None.ensures.cases
