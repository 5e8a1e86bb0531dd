use Rattle.xs_model.proofs.PutLemmas.{last_put_wins}
use Rattle.xs_model.proofs.laws.last_put_wins.Goals as goal

pub returns : goal.returns
returns g c = last_put_wins _
