use Rattle.std.proofs.Common.{◌∙◌, ap}
use Rattle.std.specs.List.{flat_map}
use Rattle.std.proofs.lemmas.List.{take_all}
use Rattle.machine_json.specs.FirstPass.{earliest}
use Rattle.machine_json.specs.SecondPass.{text_faults}
use Rattle.machine_json.proofs.LinkLemmas.{astray_next}
use Rattle.machine_json.proofs.links.first_astray.Goals as goal

pub loop-text-preserved : goal.loop-text-preserved
loop-text-preserved c =
    c.earlier-first.ensures
    ∙ astray_next (text_faults c.args.outline.now c.args.source) c.args.texts.now c.loop-text.text-index c.text-item.result c.loop-text.first c.text_fault.result c.loop-text-test.true
    c.text-item.is c.loop-text.invariant c.text_fault.ensures

pub returns : goal.returns
returns c =
    c.loop-text.invariant ∙ ap (λ texts. earliest (flat_map (text_faults c.args.outline.now c.args.source) texts)) (take_all c.loop-text.text-index c.args.texts.now c.loop-text-test.false)
