use Rattle.std.proofs.Common.{inl}
use Rattle.xoffice.proofs.AnswerLemmas.{by_answer}
use Rattle.xoffice.specs.Sides.{IsLength, LooksAtSide, side_of}
use Rattle.xoffice.proofs.standard_station.StandardStationDisk.length.Goals as goal

pub returns-clause-relation : goal.returns-clause-relation
returns-clause-relation g c =
    let calls = g.S.FileSystem.calls in
    let disk = c.length.new.self in
    by_answer c.length.result (IsLength calls (side_of c.args.side c.args.self.now.disk) (side_of c.args.side disk)) calls.failed (LooksAtSide calls c.args.self.now.disk disk)
    c.length.ensures.told c.length.ensures.failed (λ n told. (c.args.side, c.length.ensures.other, inl (n, told)))
