use Rattle.std.proofs.Common.{◌≡◌, ◌∙◌, ◌++◌, ◌∷◌, [], List, ℕ, ap, get_or, sym, take, take_all}
use Rattle.std.proofs.lemmas.List.{append-nil, take_more}
use Rattle.actor_tree.specs.Noted.{staying}
use Rattle.actor_tree.specs.Notes.{noted}
use Rattle.actor_tree.proofs.NotedNumberLemmas.{staying_more}
use Rattle.actor_tree.proofs.notes.Notes.add_staying.Goals as goal

pub loop-number-init : goal.loop-number-init
loop-number-init c = sym (append-nil c.args.found.now.items)

pub loop-number-preserved : goal.loop-number-preserved
loop-number-preserved c =
    c.in_ok-push_staying.ensures
    ∙ staying_more (noted c.args.self.now).gone c.args.root c.args.found.now.items c.loop-number.found.items (take c.loop-number.number-index c.args.numbers.now) (get_or c.args.numbers.now c.loop-number.number-index 0) c.loop-number.invariant
    ∙ ap (λ (numbers : List ℕ). c.args.found.now.items ++ staying (noted c.args.self.now).gone c.args.root numbers) (sym (take_more c.args.numbers.now c.loop-number.number-index 0 c.loop-number-test.true))

pub returns : goal.returns
returns c =
    c.loop-number.invariant ∙ ap (λ (numbers : List ℕ). c.args.found.now.items ++ staying (noted c.args.self.now).gone c.args.root numbers) (take_all c.loop-number.number-index c.args.numbers.now c.loop-number-test.false)
