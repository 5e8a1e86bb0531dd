use Rattle.std.proofs.Common.{ℕ, Bool, List, bytes_eq, not, rules}
use Rattle.std.proofs.lemmas.Fn.{filter_same}
use Rattle.actor_tree.proofs.kids.drop_kid.Goals as goal

pub returns-clause-kids : goal.returns-clause-kids
returns-clause-kids c =
    let others : List ℕ × ℕ → Bool = λ kid. not (bytes_eq kid.0 c.args.id.now) in
    filter_same _ others _ (λ x b f called. search rules) _ _ c.retain.ensures.filtered
