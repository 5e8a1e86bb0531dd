use Rattle.std.proofs.Common.{◌≡◌, ℕ, List, filter, not, rules}
use Rattle.std.proofs.lemmas.Fn.{filter_same}
use Rattle.std.specs.Str.{bytes_eq}
use Rattle.microstep.proofs.progress.Progress.forget.Goals as goal

pub returns : goal.returns
returns c =
    let others = λ (other : List ℕ). not (bytes_eq other c.args.id.now) in
    let kept : c.retain.new.self.items ≡ filter others c.into_vec-children.result.items = filter_same _ others _ (λ x b f called. search rules) _ _ c.retain.ensures.filtered in
    rw (c.from_vec.ensures, kept, c.into_vec-children.ensures, c.replace.ensures.value)
