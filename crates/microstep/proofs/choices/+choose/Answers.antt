use Rattle.std.proofs.Common.{◌∙◌, add-one, map}
use Rattle.xs_model.specs.Eval.{scope_of}
use Rattle.microstep.specs.Choices.{does}
use Rattle.microstep.proofs.ChoiceLemmas.{chosen-more, depth-at}
use Rattle.microstep.proofs.choices.+choose.Goals as goal

pub choose_all-loop-item-preserved : goal.choose_all-loop-item-preserved
choose_all-loop-item-preserved t c =
    let items = c.as_slice-item-items.result.now in
    let place = c.loop-item.item-index in
    let here = c.item-item.result in
    record {
      chosen = rw add-one (c.loop-item.invariant.chosen
          ∙ chosen-more (scope_of c.args.env.now) (map does c.loop-item.actions.items) (map does c.choose.new.actions.items) items place here c.loop-item-test.true (rw c.item-item.is at c.in_ok-choose.ensures.chosen));
      inside = λ bound deep all. c.in_ok-choose.ensures.inside bound (rw c.item-item.is (depth-at items place here bound c.loop-item-test.true deep)) (c.loop-item.invariant.inside bound deep all);
    }
