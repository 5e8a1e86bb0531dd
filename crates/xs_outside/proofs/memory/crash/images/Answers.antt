use Rattle.std.proofs.Common.{◌≡◌, ℕ, ◌+◌, ◌<◌, List, [], ◌∷◌, ◌++◌, length, get_or, take, map, sym, ◌∙◌, ap}
use Rattle.std.proofs.lemmas.List.{take_more, append-nil}
use Rattle.std.proofs.lemmas.Grind.{flat_map-append}
use Rattle.xs_outside.specs.declared.memory.crash.Image.{Image}
use Rattle.xs_outside.specs.Crash.{images_of}
use Rattle.xs_outside.proofs.memory.crash.images.Goals as goal

with_each : List (List ℕ) → List ℕ → List ℕ → List Image
with_each others output side = map (λ other. record { a = side; b = other; output = output }) others

images_more : (sides others : List (List ℕ)) (output : List ℕ) (i : ℕ) (side : List ℕ) → i < length sides → side ≡ get_or sides i side
    → images_of (take (i + 1) sides) others output ≡ images_of (take i sides) others output ++ with_each others output side
unfolding with_each
images_more sides others output i side lt is =
    ap (λ l. images_of l others output) (take_more sides i side lt ∙ ap (λ x. take i sides ++ x ∷ []) (sym is))
    ∙ flat_map-append (with_each others output) (take i sides) (side ∷ [])
    ∙ ap (λ l. images_of (take i sides) others output ++ l) (append-nil (with_each others output side))

pub loop-side-preserved : goal.loop-side-preserved
unfolding with_each
loop-side-preserved c =
    c.in_ok-push_with_each.ensures
    ∙ ap (λ l. l ++ with_each c.args.others.now c.args.output.now c.side-item.result) c.loop-side.invariant
    ∙ sym (images_more c.args.sides.now c.args.others.now c.args.output.now c.loop-side.side-index c.side-item.result c.loop-side-test.true c.side-item.is)
