use Rattle.std.proofs.Common.{◌≡◌, [], sym, ap, ◌∙◌, subst}
use Rattle.std.proofs.lemmas.List.{at_drop_all}
use Rattle.action_table.specs.TablePlaces.{IsLeastOf, least_of}
use Rattle.action_table.specs.Twice.{ids_after, twice_after}
use Rattle.action_table.specs.Uses.{IsTwice}
use Rattle.action_table.proofs.TwiceLemmas.{ids-are, twice-least}
use Rattle.action_table.proofs.UseLemmas.{least-none}
use Rattle.action_table.proofs.machine_ids.ids_of.Goals as goal

pub returns-clause-twice : goal.returns-clause-twice
returns-clause-twice c =
    let machines = c.args.machines.now in
    let ended = at_drop_all (twice_after c.loop-machine.ids) machines c.loop-machine.machine-index c.loop-machine-test.false in
    let whole : c.loop-machine.twice ≡ twice_after [] machines = sym (least-none c.loop-machine.twice) ∙ ap (least_of c.loop-machine.twice) (sym ended) ∙ c.loop-machine.invariant.1 in
    subst (IsLeastOf (IsTwice machines)) (sym whole) (twice-least machines)

pub returns-clause-ids : goal.returns-clause-ids
returns-clause-ids c = λ none.
    let machines = c.args.machines.now in
    let ended = at_drop_all (twice_after c.loop-machine.ids) machines c.loop-machine.machine-index c.loop-machine-test.false in
    let whole : c.loop-machine.twice ≡ twice_after [] machines = sym (least-none c.loop-machine.twice) ∙ ap (least_of c.loop-machine.twice) (sym ended) ∙ c.loop-machine.invariant.1 in
    sym (at_drop_all (ids_after c.loop-machine.ids) machines c.loop-machine.machine-index c.loop-machine-test.false)
    ∙ c.loop-machine.invariant.0 ∙ ids-are machines (sym whole ∙ none)
