use Rattle.std.proofs.Common.{rules}
use Rattle.std.proofs.lemmas.Fn.{always_returns_same}
use Rattle.xs_model.specs.Rising.{key_cmp}
use Rattle.xs_model.proofs.RisingLemmas.{searched}
use Rattle.xs_model.proofs.fields.search.Goals as goal

pub returns : goal.returns
returns g c =
    let facts = c.binary_search_by.ensures in
    let by_key = facts.position (λ p. key_cmp p.0 c.args.key.now) (always_returns_same _ _ _ (λ a r f called. search rules)) in
    let both = searched c.args.pairs.now c.args.key.now c.binary_search_by.result c.requires facts.bound by_key in
    record { found = both.0; absent = both.1 }
