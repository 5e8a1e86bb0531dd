use Rattle.std.proofs.Common.{◌<◌, sym, subst, arith}
use Rattle.std.specs.Prelude.{decimal, Err}
use Rattle.flat_core.specs.declared.request_line.LineFault.{LineFault}
use Rattle.flat_core.specs.LineParts.{IsNumber, IsCallerText}
use Rattle.flat_core.specs.RequestLine.{ReadsLine, IsAsk, IsRequest}
use Rattle.flat_core.proofs.LineLemmas.{no_cut}
use Rattle.flat_core.proofs.RequestLemmas.{handed_on, refused_at, request_parts, behind_caller, same_number}
use Rattle.flat_core.proofs.request_line.read_request.Goals as goal

pub returns-in_err-number : goal.returns-in_err-number
returns-in_err-number c =
    let behind = behind_caller c.args.line.now c.in_ok-caller.caller.now c.in_ok-caller.rest.now c.in_ok-caller.ensures in
    handed_on (IsRequest c.args.line.now) c.from_residual-in_err-number.result _ c.from_residual-in_err-number.ensures.1
    (subst (λ (fault : LineFault). ReadsLine (IsRequest c.args.line.now) (Err fault)) (sym c.in_err-number.ensures.0)
    (λ request is. no_cut c.in_ok-caller.rest.now (decimal request.number) is.ask c.in_err-number.ensures.1 (behind request is).1))

pub returns-in_err-caller-2 : goal.returns-in_err-caller-2
returns-in_err-caller-2 c =
    let parts = request_parts c.args.line.now c.in_ok-caller.caller.now c.in_ok-caller.rest.now c.in_ok-number.number.now c.in_ok-number.ask.now c.in_ok-caller.ensures c.in_ok-number.ensures in
    refused_at (IsCallerText c.in_ok-caller.caller.now) (IsRequest c.args.line.now) c.from_residual-in_err-caller-2.result _ c.from_residual-in_err-caller-2.ensures.1 c.in_err-caller-2.ensures
    (λ request is. (request.caller, ((parts request is).called, is.caller)))

pub returns-in_err-number-2 : goal.returns-in_err-number-2
returns-in_err-number-2 c =
    let parts = request_parts c.args.line.now c.in_ok-caller.caller.now c.in_ok-caller.rest.now c.in_ok-number.number.now c.in_ok-number.ask.now c.in_ok-caller.ensures c.in_ok-number.ensures in
    refused_at (IsNumber c.in_ok-number.number.now) (IsRequest c.args.line.now) c.from_residual-in_err-number-2.result _ c.from_residual-in_err-number-2.ensures.1 c.in_err-number-2.ensures
    (λ request is. (request.number, (parts request is).numbered))

pub returns-then-number-eq0 : goal.returns-then-number-eq0
returns-then-number-eq0 c = λ request is.
    let parts = request_parts c.args.line.now c.in_ok-caller.caller.now c.in_ok-caller.rest.now c.in_ok-number.number.now c.in_ok-number.ask.now c.in_ok-caller.ensures c.in_ok-number.ensures request is in
    let same = same_number c.in_ok-number.number.now c.in_ok-number-2.number request.number c.in_ok-number-2.ensures parts.numbered in
    let some : 0 < request.number = is.numbered in
    omega arith

pub returns-in_err-ask : goal.returns-in_err-ask
returns-in_err-ask c =
    let parts = request_parts c.args.line.now c.in_ok-caller.caller.now c.in_ok-caller.rest.now c.in_ok-number.number.now c.in_ok-number.ask.now c.in_ok-caller.ensures c.in_ok-number.ensures in
    refused_at (IsAsk c.in_ok-number.ask.now) (IsRequest c.args.line.now) c.from_residual-in_err-ask.result _ c.from_residual-in_err-ask.ensures.1 c.in_err-ask.ensures
    (λ request is. (request.ask, (parts request is).asked))
