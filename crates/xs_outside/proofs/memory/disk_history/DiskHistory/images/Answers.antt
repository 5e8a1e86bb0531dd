use Rattle.std.proofs.Common.{rules}
use Rattle.xs_outside.proofs.TriedImageLemmas.{possible_if_ok}
use Rattle.xs_outside.proofs.memory.disk_history.DiskHistory.images.Goals as goal

pub returns-clause-possible : goal.returns-clause-possible
returns-clause-possible c = possible_if_ok c.args.self.now c.args.output.now c.images.result (search rules)
