use Rattle.std.proofs.Common.{◌≤◌, arith}
use Rattle.office_types.specs.declared.limits.TheConstants.{MAX_MOMENT}
use Rattle.office_types.proofs.RequestLemmas.{at_parts, same_number}
use Rattle.office_types.proofs.request_line.read_at.Goals as goal

pub returns-then-moment-gt-MAX_MOMENT : goal.returns-then-moment-gt-MAX_MOMENT
returns-then-moment-gt-MAX_MOMENT c = λ asked is.
    let parts = at_parts c.args.bytes.now asked is in
    let same = same_number c.args.bytes.now c.in_ok-moment.moment parts.0 c.in_ok-moment.ensures parts.2 in
    let small : parts.0 ≤ MAX_MOMENT = parts.3 in
    omega (arith, same)
