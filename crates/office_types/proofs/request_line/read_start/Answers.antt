use Rattle.std.proofs.Common.{sym, subst}
use Rattle.std.specs.Prelude.{codes, Err}
use Rattle.office_types.specs.declared.line_fault.LineFault.{LineFault}
use Rattle.office_types.specs.LineParts.{IsAskBehind, IsNameText, IsShortText, IsSystemText}
use Rattle.office_types.specs.RequestLines.{Reads, system_text}
use Rattle.office_types.proofs.LineLemmas.{no_cut}
use Rattle.office_types.proofs.RequestLemmas.{behind_machine, handed_on, refused_at, start_cuts, start_parts}
use Rattle.office_types.proofs.request_line.read_start.Goals as goal

pub returns-in_err-system : goal.returns-in_err-system
returns-in_err-system c =
    handed_on (IsAskBehind (codes "start") c.args.bytes.now) c.from_residual-in_err-system.result _ c.from_residual-in_err-system.ensures.1
    (subst (λ (fault : LineFault). Reads (IsAskBehind (codes "start") c.args.bytes.now) (Err fault)) (sym c.in_err-system.ensures.0)
    (λ asked is.
    let parts = start_parts c.args.bytes.now asked is in
    no_cut c.in_ok-machine.rest.now (system_text parts.system) parts.json c.in_err-system.ensures.1
    (behind_machine c.args.bytes.now c.in_ok-machine.machine.now c.in_ok-machine.rest.now c.in_ok-machine.ensures asked is)))

pub returns-in_err-machine-2 : goal.returns-in_err-machine-2
returns-in_err-machine-2 c =
    refused_at (IsNameText c.in_ok-machine.machine.now) (IsAskBehind (codes "start") c.args.bytes.now) c.from_residual-in_err-machine-2.result _ c.from_residual-in_err-machine-2.ensures.1 c.in_err-machine-2.ensures
    (λ asked is.
    let cuts = start_cuts c.args.bytes.now c.in_ok-machine.machine.now c.in_ok-machine.rest.now c.in_ok-system.system.now c.in_ok-system.json.now c.in_ok-machine.ensures c.in_ok-system.ensures asked is in
    (cuts.machine', cuts.named))

pub returns-in_err-system-2 : goal.returns-in_err-system-2
returns-in_err-system-2 c =
    refused_at (IsSystemText c.in_ok-system.system.now) (IsAskBehind (codes "start") c.args.bytes.now) c.from_residual-in_err-system-2.result _ c.from_residual-in_err-system-2.ensures.1 c.in_err-system-2.ensures
    (λ asked is.
    let cuts = start_cuts c.args.bytes.now c.in_ok-machine.machine.now c.in_ok-machine.rest.now c.in_ok-system.system.now c.in_ok-system.json.now c.in_ok-machine.ensures c.in_ok-system.ensures asked is in
    (cuts.system', cuts.system_named))

pub returns-in_err-input : goal.returns-in_err-input
returns-in_err-input c =
    refused_at (IsShortText c.in_ok-system.json.now) (IsAskBehind (codes "start") c.args.bytes.now) c.from_residual-in_err-input.result _ c.from_residual-in_err-input.ensures.1 c.in_err-input.ensures
    (λ asked is.
    let cuts = start_cuts c.args.bytes.now c.in_ok-machine.machine.now c.in_ok-machine.rest.now c.in_ok-system.system.now c.in_ok-system.json.now c.in_ok-machine.ensures c.in_ok-system.ensures asked is in
    (cuts.input', cuts.means))
