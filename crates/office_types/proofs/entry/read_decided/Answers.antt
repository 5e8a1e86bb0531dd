use Rattle.std.proofs.Common.{◌≡◌, true}
use Rattle.office_types.specs.LineParts.{IsDecidedText}
use Rattle.office_types.specs.RequestLines.{IsRequestLine}
use Rattle.office_types.proofs.EntryLemmas.{line_of_decided, not_canonical}
use Rattle.office_types.proofs.RequestLemmas.{refused_at}
use Rattle.office_types.proofs.entry.read_decided.Goals as goal

pub returns-in_err-request : goal.returns-in_err-request
returns-in_err-request c =
    refused_at (IsRequestLine c.args.line.now) (IsDecidedText c.args.line.now) c.from_residual.result _ c.from_residual.ensures.1 c.in_err-request.ensures
    (λ entry is. line_of_decided c.args.line.now entry is)

pub returns-then-not-branch : goal.returns-then-not-branch
returns-then-not-branch c =
    not_canonical c.request_is_unique.ensures c.args.line.now c.in_ok-request.request c.in_ok-request.ensures
    (λ same. let canonical : c.in_ok-is_canonical.field-0 ≡ true = c.in_ok-is_canonical.ensures.1 same in let other = c.if-not-branch.true in cc (canonical, other))
