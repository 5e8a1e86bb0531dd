use Rattle.std.proofs.Common.{◌∙◌, List, map, ap, arith}
use Rattle.std.proofs.lemmas.List.{take_all}
use Rattle.office_types.specs.declared.office.Caller.{Caller}
use Rattle.snapshot_text.proofs.KeyLemmas.{apart_texts, texts_apart}
use Rattle.snapshot_text.proofs.validity.callers.are_callers_once.Goals as goal

pub returns : goal.returns
returns c =
    let same = c.loop-caller.invariant ∙ ap (λ (callers : List Caller). map (λ (caller : Caller). caller.name) callers) (take_all c.loop-caller.caller-index c.args.callers.now (omega arith)) in (
      (λ once. texts_apart (λ text. text.now) (λ (caller : Caller). caller.name) c.loop-caller.names.items c.args.callers.now same (c.are_distinct.ensures.0 once)),
      (λ once. c.are_distinct.ensures.1 (apart_texts (λ text. text.now) (λ (caller : Caller). caller.name) c.loop-caller.names.items c.args.callers.now same once)),
    )
