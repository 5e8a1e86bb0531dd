use Rattle.office_types.proofs.CanonicalLineLemmas.{canonical_is_line}
use Rattle.office_types.proofs.laws.canonical_lines_are_lines.Goals as goal

pub returns : goal.returns
returns c = canonical_is_line
