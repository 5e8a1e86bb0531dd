use Rattle.std.proofs.Common.{◌≡◌, ◌+◌, [], ◌∷◌, ◌++◌, true, Bool, List, All, take, ap, ◌∙◌, subst, sym}
use Rattle.std.specs.Prelude.{if◌then◌else◌}
use Rattle.std.specs.List.{AllZip}
use Rattle.std.specs.Result.{is_ok}
use Rattle.std.proofs.lemmas.List.Elements.{All-push}
use Rattle.std.proofs.lemmas.Result.{err_from_is_err_and}
use Rattle.ordered_json.specs.OwnKeys.{HasOwnKeys}
use Rattle.machine_json.specs.declared.machine.Machine.{Machine}
use Rattle.machine_json.specs.Machines.{MeansMachine}
use Rattle.machine_json.specs.ReadMachine.{IsReadMachine}
use Rattle.action_table.proofs.DefsLemmas.{refused-at}
use Rattle.action_table.proofs.ThereLemmas.{zip-more}
use Rattle.action_table.proofs.reading.read_machines.Goals as goal

pub returns-in_err-machine-clause-refused : goal.returns-in_err-machine-clause-refused
returns-in_err-machine-clause-refused c =
    let p = err_from_is_err_and c.from_residual-in_err-machine.result c.from_residual-in_err-machine.ensures.1 in
    rw (p.1, p.2)
    (λ not_memory. refused-at c.args.texts.now c.loop-text.text-index c.text-item.result c.loop-text.machines.items c.in_err-machine.field-0.0
    c.loop-text-test.true c.text-item.is c.loop-text.invariant.0 (c.in_err-machine.ensures.fault not_memory))

pub loop-text-preserved : goal.loop-text-preserved
loop-text-preserved c =
    let before = c.loop-text.machines.items in
    let machine = c.in_ok-machine.machine in
    let text = c.text-item.result in
    let texts = c.args.texts.now in
    let ok : is_ok c.push.result ≡ true = sym c.in_ok-map_err.ensures.variant in
    let pushed : c.push.new.self.items ≡ before ++ machine ∷ [] =
    c.push.ensures.items ∙ ap (λ (b : Bool). if b then before ++ machine ∷ [] else before) ok in
    let owned : HasOwnKeys text = subst HasOwnKeys (sym c.text-item.is) (c.requires c.loop-text.text-index text c.loop-text-test.true) in
    subst (λ (l : List Machine). AllZip MeansMachine (take (c.loop-text.text-index + 1) texts) l × All IsReadMachine l) (sym pushed) (
      zip-more MeansMachine texts c.loop-text.text-index text before machine c.loop-text-test.true c.text-item.is c.loop-text.invariant.0 c.in_ok-machine.ensures.ok,
      All-push IsReadMachine before machine c.loop-text.invariant.1 (c.in_ok-machine.ensures.linkable owned),
    )
