use Rattle.flat_core.specs.LineParts.{IsNumber, IsSend}
use Rattle.flat_core.specs.RequestLine.{IsEvent}
use Rattle.flat_core.proofs.RequestLemmas.{refused_at, send_parts}
use Rattle.flat_core.proofs.request_line.read_send.Goals as goal

pub returns-in_err-actor-2 : goal.returns-in_err-actor-2
returns-in_err-actor-2 c =
    refused_at (IsNumber c.in_ok-actor.actor.now) (IsSend c.args.bytes.now) c.from_residual-in_err-actor-2.result _ c.from_residual-in_err-actor-2.ensures.1 c.in_err-actor-2.ensures
    (λ sent is. (sent.0, (send_parts c.args.bytes.now c.in_ok-actor.actor.now c.in_ok-actor.json.now c.in_ok-actor.ensures sent is).0))

pub returns-in_err-event : goal.returns-in_err-event
returns-in_err-event c =
    refused_at (IsEvent c.in_ok-actor.json.now) (IsSend c.args.bytes.now) c.from_residual-in_err-event.result _ c.from_residual-in_err-event.ensures.1 c.in_err-event.ensures
    (λ sent is. (sent.1, (send_parts c.args.bytes.now c.in_ok-actor.actor.now c.in_ok-actor.json.now c.in_ok-actor.ensures sent is).1))
