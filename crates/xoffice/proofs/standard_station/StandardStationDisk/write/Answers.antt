use Rattle.std.proofs.Common.{inl}
use Rattle.xoffice.proofs.AnswerLemmas.{by_answer}
use Rattle.xoffice.specs.Calls.{Transfer}
use Rattle.xoffice.specs.Sides.{TakesBytes, StoresOnSide, side_of}
use Rattle.xoffice.proofs.standard_station.StandardStationDisk.write.Goals as goal

pub returns-clause-relation : goal.returns-clause-relation
returns-clause-relation g c =
    let calls = g.S.FileSystem.calls in
    let old = c.args.self.now.disk in
    let new = c.write.new.self in
    let transfer : Transfer = record { at = c.args.at; bytes = c.args.bytes.now } in
    by_answer c.write.result (λ _. TakesBytes calls transfer (side_of c.args.side old) (side_of c.args.side new)) calls.failed (StoresOnSide calls old new)
    c.write.ensures.takes c.write.ensures.failed (λ _ takes. (c.args.side, c.write.ensures.other, inl (transfer, takes)))
