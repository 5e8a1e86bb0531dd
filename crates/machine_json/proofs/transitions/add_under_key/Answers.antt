use Rattle.std.proofs.Common.{◌≡◌, ◌∙◌, [], Some, None, ap, map, refl, sym}
use Rattle.std.specs.Prelude.{IfSome}
use Rattle.std.specs.Option.{option_copied}
use Rattle.ordered_json.specs.Words.{get, member_parts}
use Rattle.machine_json.specs.declared.role.Role.TheVariants as role
use Rattle.machine_json.specs.Faultless.{IsFaultlessAs}
use Rattle.machine_json.specs.Machines.{AddsTransitions, under, under_key}
use Rattle.machine_json.proofs.NodeLemmas.{if_ok}
use Rattle.machine_json.proofs.TransitionLemmas.{adds_none}
use Rattle.machine_json.proofs.transitions.add_under_key.Goals as goal

pub returns-in-Some : goal.returns-in-Some
returns-in-Some c =
    let rows = c.args.outline.now in
    let source = c.args.source in
    let members = map member_parts c.args.members.now in
    let json = c.in-Some.json.now in
    let found : get c.args.key.now members ≡ Some json = sym c.get.ensures ∙ ap option_copied c.in-Some.is in
    if_ok c.add_under.result
    (IsFaultlessAs rows source role.Transitions json → AddsTransitions rows source (under c.args.descriptor.now json) c.args.all.now.items c.add_under.new.all.items)
    (IfSome (get c.args.key.now members) (IsFaultlessAs rows source role.Transitions) → AddsTransitions rows source (under_key c.args.descriptor.now c.args.key.now members) c.args.all.now.items c.add_under.new.all.items)
    (λ adds. rw found adds) c.add_under.ensures

pub returns-in-None : goal.returns-in-None
returns-in-None c =
    let found : get c.args.key.now (map member_parts c.args.members.now) ≡ None = sym c.get.ensures ∙ ap option_copied c.in-None.is in
    rw found (λ sound. adds_none c.args.outline.now c.args.source [] c.args.all.now.items refl)
