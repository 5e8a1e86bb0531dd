use Rattle.std.proofs.Common.{rules}
use Rattle.actor_tree.proofs.FitLemmas.{send_room}
use Rattle.actor_tree.proofs.asks.send.Goals as goal

pub returns : goal.returns
returns c = record {
  answer = record {
    unrefused = search rules;
    reply_is = search rules;
    change = search rules;
    fits = rw c.in_ok-one_part.ensures (send_room c.args.held.now.office c.args.actor c.args.event.now (search rules), tt);
  };
}
