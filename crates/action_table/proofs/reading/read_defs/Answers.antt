use Rattle.std.proofs.Common.{◌≢◌, All, List, length, subst, sym}
use Rattle.std.specs.Prelude.{Err}
use Rattle.std.specs.List.{AllZip}
use Rattle.std.proofs.lemmas.Result.{err_from_is_err_and, IfErr-at_err, IfOk-at_ok}
use Rattle.ordered_json.specs.Faults.{HasFault}
use Rattle.ordered_json.specs.Meaning.{Means}
use Rattle.ordered_json.specs.OwnKeys.{HasOwnKeys}
use Rattle.guard_eval.specs.Definitions.{IsWellFormed}
use Rattle.machine_json.specs.declared.fault.MachineFault.TheVariants as machine_fault
use Rattle.machine_json.specs.declared.machine.Machine.{Machine}
use Rattle.machine_json.specs.Machines.{MeansMachine}
use Rattle.machine_json.specs.ReadMachine.{IsReadMachine}
use Rattle.office_types.specs.Definitions.{AreLinked}
use Rattle.action_table.specs.declared.definitions.Defs.{Defs}
use Rattle.action_table.specs.declared.defs_fault.DefsFault.{DefsFault}
use Rattle.action_table.specs.declared.defs_fault.DefsFault.TheVariants as fault_in
use Rattle.action_table.specs.Definitions.{office_definitions}
use Rattle.action_table.specs.DefsText.{IsDefsReading, IsFirstRefused, IsOuterText, outer_shape}
use Rattle.action_table.specs.Linked.{IsLinkReading}
use Rattle.action_table.specs.TableMeaning.{IsTableOf, IsTableReading}
use Rattle.action_table.proofs.ApartLemmas.{machines-own}
use Rattle.action_table.proofs.DefsLemmas.{json-refused, linked-reading, machine-refused, mapped-each, mapped-err, mapped-ok, table-refused}
use Rattle.action_table.proofs.reading.read_defs.Goals as goal

pub returns-in_err-json-clause-reading : goal.returns-in_err-json-clause-reading
returns-in_err-json-clause-reading c =
    let text = c.args.text.now in
    let p = err_from_is_err_and c.from_residual.result c.from_residual.ensures.1 in
    let became = mapped-err fault_in.Json c.read.result c.map_err.result c.in_err-json.field-0.0 c.map_err.ensures.cases c.in_err-json.was in
    rw (p.1, p.2)
    (subst (λ (d : DefsFault). IsDefsReading text (Err d)) (sym became.2) (json-refused text became.0 (IfErr-at_err (HasFault text) became.1 c.read.ensures.fault)))

pub returns-in-Err-clause-reading : goal.returns-in-Err-clause-reading
returns-in-Err-clause-reading c =
    let text = c.args.text.now in
    let json = c.in_ok-json.json in
    let json-is = mapped-ok fault_in.Json c.read.result c.map_err.result json c.map_err.ensures.cases c.in_ok-json.was in
    let means : Means text json = IfOk-at_ok (Means text) json-is c.read.ensures.ok in
    outer_shape json c.in-Err.place means c.in-Err.ensures

pub read_machines-requires : goal.read_machines-requires
read_machines-requires c =
    let text = c.args.text.now in
    let json = c.in_ok-json.json in
    let json-is = mapped-ok fault_in.Json c.read.result c.map_err.result json c.map_err.ensures.cases c.in_ok-json.was in
    let means : Means text json = IfOk-at_ok (Means text) json-is c.read.ensures.ok in
    machines-own json c.in-Ok.parts.0.now c.in-Ok.parts.1.now c.in-Ok.ensures (IfOk-at_ok HasOwnKeys json-is c.read.ensures.own_keys)

pub returns-in_err-machines-clause-reading : goal.returns-in_err-machines-clause-reading
returns-in_err-machines-clause-reading c =
    let text = c.args.text.now in
    let json = c.in_ok-json.json in
    let json-is = mapped-ok fault_in.Json c.read.result c.map_err.result json c.map_err.ensures.cases c.in_ok-json.was in
    let means : Means text json = IfOk-at_ok (Means text) json-is c.read.ensures.ok in
    let texts = c.in-Ok.parts.0.now in
    let implementations = c.in-Ok.parts.1.now in
    let outer : IsOuterText text texts implementations = record { json = json; means = means; shape = c.in-Ok.ensures } in
    let p = err_from_is_err_and c.from_residual-in_err-machines.result c.from_residual-in_err-machines.ensures.1 in
    let became = mapped-err fault_in.Machine c.read_machines.result c.map_err-2.result c.in_err-machines.field-0.0 c.map_err-2.ensures.cases c.in_err-machines.was in
    rw (p.1, p.2)
    (subst (λ (d : DefsFault). IsDefsReading text (Err d)) (sym became.2)
    (machine-refused text texts implementations outer became.0
    (IfErr-at_err (λ fault. fault ≢ machine_fault.Memory → IsFirstRefused texts fault) became.1 c.read_machines.ensures.refused)))

pub returns-in_err-table-clause-reading : goal.returns-in_err-table-clause-reading
returns-in_err-table-clause-reading c =
    let text = c.args.text.now in
    let json = c.in_ok-json.json in
    let json-is = mapped-ok fault_in.Json c.read.result c.map_err.result json c.map_err.ensures.cases c.in_ok-json.was in
    let means : Means text json = IfOk-at_ok (Means text) json-is c.read.ensures.ok in
    let texts = c.in-Ok.parts.0.now in
    let implementations = c.in-Ok.parts.1.now in
    let outer : IsOuterText text texts implementations = record { json = json; means = means; shape = c.in-Ok.ensures } in
    let machines = c.in_ok-machines.machines in
    let machines-are = mapped-ok fault_in.Machine c.read_machines.result c.map_err-2.result machines c.map_err-2.ensures.cases c.in_ok-machines.was in
    let mean : AllZip MeansMachine texts machines.items = IfOk-at_ok (λ read. AllZip MeansMachine texts read.items) machines-are c.read_machines.ensures.mean in
    let p = err_from_is_err_and c.from_residual-in_err-table.result c.from_residual-in_err-table.ensures.1 in
    let became = mapped-err fault_in.Table c.read_table.result c.map_err-3.result c.in_err-table.field-0.0 c.map_err-3.ensures.cases c.in_err-table.was in
    rw (p.1, p.2)
    (subst (λ (d : DefsFault). IsDefsReading text (Err d)) (sym became.2)
    (table-refused text texts implementations outer machines.items mean became.0 (subst (IsTableReading implementations) became.1 c.read_table.ensures)))

pub link_few-requires : goal.link_few-requires
link_few-requires c =
    let machines = c.in_ok-machines.machines in
    let machines-are = mapped-ok fault_in.Machine c.read_machines.result c.map_err-2.result machines c.map_err-2.ensures.cases c.in_ok-machines.was in
    subst (All IsReadMachine) (sym c.deref.ensures.value) (IfOk-at_ok (λ read. All IsReadMachine read.items) machines-are c.read_machines.ensures.linkable)

pub returns-clause-reading : goal.returns-clause-reading
returns-clause-reading c =
    let text = c.args.text.now in
    let json = c.in_ok-json.json in
    let json-is = mapped-ok fault_in.Json c.read.result c.map_err.result json c.map_err.ensures.cases c.in_ok-json.was in
    let means : Means text json = IfOk-at_ok (Means text) json-is c.read.ensures.ok in
    let texts = c.in-Ok.parts.0.now in
    let implementations = c.in-Ok.parts.1.now in
    let outer : IsOuterText text texts implementations = record { json = json; means = means; shape = c.in-Ok.ensures } in
    let machines = c.in_ok-machines.machines in
    let machines-are = mapped-ok fault_in.Machine c.read_machines.result c.map_err-2.result machines c.map_err-2.ensures.cases c.in_ok-machines.was in
    let mean : AllZip MeansMachine texts machines.items = IfOk-at_ok (λ read. AllZip MeansMachine texts read.items) machines-are c.read_machines.ensures.mean in
    let table = c.in_ok-table.table in
    let table-is = mapped-ok fault_in.Table c.read_table.result c.map_err-3.result table c.map_err-3.ensures.cases c.in_ok-table.was in
    let table-means : IsTableOf implementations table = subst (IsTableReading implementations) table-is c.read_table.ensures in
    linked-reading text texts implementations outer machines.items mean table table-means c.link_few.result c.map_err-4.result c.map_err-4.ensures.cases
    (subst (λ (read : List Machine). IsLinkReading read table c.link_few.result) c.deref.ensures.value c.link_few.ensures.reading)

pub returns-clause-well_formed : goal.returns-clause-well_formed
returns-clause-well_formed c =
    mapped-each fault_in.Table (λ (defs : Defs). All (IsWellFormed (length defs.actors)) defs.defs) c.link_few.result c.map_err-4.result c.map_err-4.ensures.cases
    c.link_few.ensures.well_formed

pub returns-clause-office : goal.returns-clause-office
returns-clause-office c =
    mapped-each fault_in.Table (λ (defs : Defs). AreLinked (office_definitions defs)) c.link_few.result c.map_err-4.result c.map_err-4.ensures.cases
    c.link_few.ensures.office
