use Rattle.std.specs.Prelude.{codes}
use Rattle.flat_core.specs.LineParts.{IsStart, IsSend}
use Rattle.flat_core.specs.RequestLine.{IsAsk}
use Rattle.flat_core.proofs.LineLemmas.{differs_from, same_as}
use Rattle.flat_core.proofs.RequestLemmas.{refused_at, ask_parts, asks_start, asks_send, asks_nothing}
use Rattle.flat_core.proofs.request_line.read_ask.Goals as goal

pub returns-in_err-machine : goal.returns-in_err-machine
returns-in_err-machine c =
    let word = c.in_ok-word.word.now in
    let rest = c.in_ok-word.rest.now in
    let is_start = same_as word c.as_slice.result.now (codes "start") c.eq.result c.eq.ensures c.as_slice.ensures c.if-eq.true in
    refused_at (IsStart rest) (IsAsk c.args.text.now) c.from_residual-in_err-machine.result _ c.from_residual-in_err-machine.ensures.1 c.in_err-machine.ensures
    (λ ask is. asks_start word rest is_start ask (ask_parts c.args.text.now word rest c.in_ok-word.ensures ask is))

pub returns-in_err-actor : goal.returns-in_err-actor
returns-in_err-actor c =
    let word = c.in_ok-word.word.now in
    let rest = c.in_ok-word.rest.now in
    let is_send = same_as word c.as_slice-2.result.now (codes "send") c.eq-2.result c.eq-2.ensures c.as_slice-2.ensures c.if-eq-2.true in
    refused_at (IsSend rest) (IsAsk c.args.text.now) c.from_residual-in_err-actor.result _ c.from_residual-in_err-actor.ensures.1 c.in_err-actor.ensures
    (λ ask is. asks_send word rest is_send ask (ask_parts c.args.text.now word rest c.in_ok-word.ensures ask is))

pub returns : goal.returns
returns c = λ ask is.
    let word = c.in_ok-word.word.now in
    let rest = c.in_ok-word.rest.now in
    let not_start = differs_from word c.as_slice.result.now (codes "start") c.eq.result c.eq.ensures c.as_slice.ensures c.if-eq.false in
    let not_send = differs_from word c.as_slice-2.result.now (codes "send") c.eq-2.result c.eq-2.ensures c.as_slice-2.ensures c.if-eq-2.false in
    asks_nothing word rest not_start not_send ask (ask_parts c.args.text.now word rest c.in_ok-word.ensures ask is)
