use Rattle.std.proofs.Common.{sym, ap, ◌∙◌}
use Rattle.std.specs.Prelude.{codes, is_some}
use Rattle.office_types.specs.LineParts.{IsAskBehind, IsNumberedText}
use Rattle.office_types.proofs.RequestLemmas.{is_some-copied, refused_at, send_parts, send_untyped}
use Rattle.office_types.proofs.request_line.read_send.Goals as goal

pub returns-in_err-actor : goal.returns-in_err-actor
returns-in_err-actor c =
    refused_at (IsNumberedText c.args.bytes.now) (IsAskBehind (codes "send") c.args.bytes.now) c.from_residual.result _ c.from_residual.ensures.1 c.in_err-actor.ensures
    (λ asked is. let parts = send_parts c.args.bytes.now asked is in ((parts.actor, parts.event), parts.numbered))

pub returns-then-is_none : goal.returns-then-is_none
returns-then-is_none c =
    send_untyped c.meaning_is_unique.ensures c.args.bytes.now (c.in_ok-actor.actor, c.in_ok-actor.event) c.in_ok-actor.ensures
    (ap is_some (sym c.event_type.ensures) ∙ is_some-copied c.event_type.result ∙ c.if-is_none.ensures)
