use Rattle.office_types.proofs.CallerLemmas.{repeats_get_the_reply}
use Rattle.office_types.proofs.laws.repeats_get_the_reply.Goals as goal

pub returns : goal.returns
returns c = repeats_get_the_reply
