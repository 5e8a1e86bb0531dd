use Rattle.std.proofs.Common.{inr}
use Rattle.xoffice.proofs.AnswerLemmas.{by_answer}
use Rattle.xoffice.specs.Calls.{Transfer}
use Rattle.xoffice.specs.Sides.{GivesBytes, LooksAtSide, side_of}
use Rattle.xoffice.proofs.standard_station.StandardStationDisk.read.Goals as goal

pub returns-clause-relation : goal.returns-clause-relation
returns-clause-relation g c =
    let calls = g.S.FileSystem.calls in
    let old = c.args.self.now.disk in
    let new = c.read.new.self in
    let transfer : Transfer = record { at = c.args.at; bytes = c.read.new.into } in
    by_answer c.read.result (λ _. GivesBytes calls transfer (side_of c.args.side old) (side_of c.args.side new)) calls.failed (LooksAtSide calls old new)
    c.read.ensures.gives c.read.ensures.failed (λ _ gives. (c.args.side, c.read.ensures.other, inr (transfer, gives)))
