use Rattle.std.specs.Prelude.{codes}
use Rattle.office_types.specs.LineParts.{IsAskBehind, IsNumberedText}
use Rattle.office_types.proofs.RequestLemmas.{refused_at, resolve_parts}
use Rattle.office_types.proofs.request_line.read_resolve.Goals as goal

pub returns-in_err-item : goal.returns-in_err-item
returns-in_err-item c =
    refused_at (IsNumberedText c.args.bytes.now) (IsAskBehind (codes "resolve") c.args.bytes.now) c.from_residual.result _ c.from_residual.ensures.1 c.in_err-item.ensures
    (λ asked is. let parts = resolve_parts c.args.bytes.now asked is in (parts.0, parts.2))
