use Rattle.std.proofs.Common.{sym, ◌∙◌, ap, rules}
use Rattle.xs_model.specs.Paths.{walk}
use Rattle.xs_model.proofs.PathLemmas.{cut_once, uncut, walk-missing, walk-found, walk-last}
use Rattle.xs_model.proofs.paths.at_path.Goals as goal

pub returns-in_err-reached : goal.returns-in_err-reached
returns-in_err-reached c =
    let reached = c.loop-key.reached.now in
    let cut = cut_once c.loop-key.rest.now c.split_once.result c.in-Some.key c.in-Some.later c.split_once.ensures.cases c.in-Some.is in
    rw c.from_residual.ensures (sym (walk-missing c.in-Some.key.now _ reached c.in_err-reached.ensures) ∙ ap (λ keys. walk keys reached) (sym cut) ∙ c.loop-key.invariant.1)

pub loop-key-preserved : goal.loop-key-preserved
loop-key-preserved c =
    let reached = c.loop-key.reached.now in
    let cut = cut_once c.loop-key.rest.now c.split_once.result c.in-Some.key c.in-Some.later c.split_once.ensures.cases c.in-Some.is in
    (search rules, sym (walk-found c.in-Some.key.now _ reached c.in_ok-reached.reached.now c.in_ok-reached.ensures) ∙ ap (λ keys. walk keys reached) (sym cut) ∙ c.loop-key.invariant.1)

pub returns : goal.returns
returns c =
    let reached = c.loop-key.reached.now in
    let whole = uncut c.loop-key.rest.now c.split_once.result c.split_once.ensures.cases c.in_default.is in
    c.path_step-2.ensures ∙ sym (walk-last c.loop-key.rest.now reached) ∙ ap (λ keys. walk keys reached) (sym whole) ∙ c.loop-key.invariant.1
