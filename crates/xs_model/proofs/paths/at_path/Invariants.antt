use Rattle.std.proofs.Common.{◌≡◌, ◌==◌, length}
use Rattle.std.specs.List.{slice_split}
use Rattle.xs_model.specs.Paths.{at_path, walk}
use denote.Shadow.{shadow}
use denote.Text.{Utf8}
use Rattle.xs_model.proofs.paths.at_path.Given as goal

abbrev pub invariant-loop-key : goal.invariant-loop-key
invariant-loop-key l = shadow (Utf8 l.rest) × (walk (slice_split (λ c. c == 46) l.rest) l.reached ≡ at_path l.path l.value)

abbrev pub decreases-loop-key : goal.decreases-loop-key
decreases-loop-key l = length l.rest
