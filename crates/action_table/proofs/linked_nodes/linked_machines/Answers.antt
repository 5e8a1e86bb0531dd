use Rattle.std.proofs.Common.{◌+◌, List, take, ap, ◌∙◌, subst, sym}
use Rattle.std.specs.List.{AllZip}
use Rattle.std.proofs.lemmas.List.{map_push}
use Rattle.guard_eval.specs.declared.def.Def.{Def}
use Rattle.action_table.specs.DefNames.{defs_held}
use Rattle.action_table.specs.Linking.{IsLinkedMachine}
use Rattle.action_table.proofs.ThereLemmas.{zip-all, zip-more}
use Rattle.action_table.proofs.linked_nodes.linked_machines.Goals as goal

pub loop-machine-preserved : goal.loop-machine-preserved
loop-machine-preserved c =
    let so_far = defs_held c.loop-machine.defs.items in
    let pushed = ap defs_held c.in_ok-push.ensures.items ∙ map_push (λ held. held.value) c.loop-machine.defs.items c.in_ok-held.held in
    subst (λ (l : List Def). AllZip (IsLinkedMachine c.args.table.now) (take (c.loop-machine.machine-index + 1) c.args.machines.now) l) (sym pushed)
    (zip-more (IsLinkedMachine c.args.table.now) c.args.machines.now c.loop-machine.machine-index c.machine-item.result so_far c.in_ok-held.held.value c.loop-machine-test.true c.machine-item.is c.loop-machine.invariant
    (subst (IsLinkedMachine c.args.table.now c.machine-item.result) (sym c.in_ok-held.ensures.ok) c.in_ok-def.ensures))

pub returns : goal.returns
returns c = zip-all (IsLinkedMachine c.args.table.now) c.args.machines.now c.loop-machine.machine-index (defs_held c.loop-machine.defs.items) c.loop-machine-test.false c.loop-machine.invariant
