use Rattle.step_sets.specs.Domains.{internal, innermost, none}
use Rattle.step_sets.proofs.transition_domain.domain.Goals as goal

pub returns-then-is_internal-clause-domain : goal.returns-then-is_internal-clause-domain
returns-then-is_internal-clause-domain c = internal (c.is_internal.ensures.0 c.if-is_internal.true)

pub returns-in-Some-clause-domain : goal.returns-in-Some-clause-domain
returns-in-Some-clause-domain c =
    innermost (λ i. let yes = c.is_internal.ensures.1 i in let no = c.if-is_internal.false in cc) c.in-Some.ensures.ancestor

pub returns-in-None-clause-domain : goal.returns-in-None-clause-domain
returns-in-None-clause-domain c =
    rw c.outermost.ensures
    (none (λ i. let yes = c.is_internal.ensures.1 i in let no = c.if-is_internal.false in cc) c.in-None.ensures.ancestor)
