use Rattle.std.proofs.Common.{rules}
use Rattle.std.specs.Ordering.{nat_cmp}
use Rattle.std.proofs.lemmas.Fn.{always_returns_same}
use Rattle.office_types.specs.declared.office.ActorRecord.{ActorRecord}
use Rattle.snapshot_text.proofs.LookupLemmas.{record_absent, record_found}
use Rattle.snapshot_text.proofs.records.find_record.Goals as goal

pub returns-in-Ok : goal.returns-in-Ok
returns-in-Ok c =
    let by_number = c.in-Ok.ensures.position (λ (actor : ActorRecord). nat_cmp actor.number c.args.number) (always_returns_same _ _ _ (λ a r f called. search rules)) in
    record_found c.args.state.now c.args.number c.as_slice-actors.result.now c.as_slice-actors.ensures c.requires c.in-Ok.place c.index-actors-place.result c.in-Ok.ensures.bound c.index-actors-place.is by_number

pub returns-in-Err : goal.returns-in-Err
returns-in-Err c =
    let by_number = c.in-Err.ensures.position (λ (actor : ActorRecord). nat_cmp actor.number c.args.number) (always_returns_same _ _ _ (λ a r f called. search rules)) in
    record_absent c.args.state.now c.args.number c.as_slice-actors.result.now c.as_slice-actors.ensures c.requires c.in-Err.field-0 by_number
