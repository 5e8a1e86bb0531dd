use Rattle.std.proofs.Common.{List, length, sym, ap, arith}
use Rattle.office_types.specs.declared.office.ActorRecord.{ActorRecord}
use Rattle.office_types.specs.declared.office.Letter.{Letter}
use Rattle.actor_tree.specs.Actors.{record_of}
use Rattle.actor_tree.specs.HeldOffice.{letter_room, no_needs}
use Rattle.actor_tree.proofs.ChangedLemmas.{changed_at, letters_with, reserved_nowhere, reserved_there, so_ok, unchanged_at}
use Rattle.actor_tree.proofs.actors.reserve_letters.Goals as goal

pub returns-in-Some-clause-changed : goal.returns-in-Some-clause-changed
returns-in-Some-clause-changed c =
    let actor = c.in-Some.actor.now in
    changed_at c.args.receiver (record actor { mailbox = c.reserve.new.self }) actor (λ (actor : ActorRecord). actor) no_needs c.args.actors.now.items c.requires
    (sym c.in-Some.ensures.value) (ap (λ (items : List (Letter)). record (record_of c.args.receiver actor) { mailbox = items }) c.reserve.ensures.items)
    (omega (arith, c.reserve.ensures.len, c.reserve.ensures.capacity)) (omega arith)

pub returns-in-Some-clause-count : goal.returns-in-Some-clause-count
returns-in-Some-clause-count c =
    let actor = c.in-Some.actor.now in
    let counted =
    letters_with c.args.receiver (record actor { mailbox = c.reserve.new.self }) actor (λ (actor : ActorRecord). actor)
    (ap (λ (items : List (Letter)). record (record_of c.args.receiver actor) { mailbox = items }) c.reserve.ensures.items) c.args.actors.now.items c.requires (sym c.in-Some.ensures.value) in
    omega (arith, counted, ap (λ (items : List Letter). length items) c.reserve.ensures.items)

pub returns-in-None-clause-changed : goal.returns-in-None-clause-changed
returns-in-None-clause-changed c = unchanged_at c.args.receiver (λ (actor : ActorRecord). actor) no_needs c.args.actors.now.items c.requires (sym c.in-None.ensures.value)

pub returns-in-None-clause-room : goal.returns-in-None-clause-room
returns-in-None-clause-room c = reserved_nowhere letter_room c.args.receiver c.args.more c.args.actors.now.items (sym c.in-None.ensures.value)

pub returns-in-Some-clause-room : goal.returns-in-Some-clause-room
returns-in-Some-clause-room c =
    let actor = c.in-Some.actor.now in
    so_ok c.reserve.result _ _ (λ fits. reserved_there letter_room c.args.receiver (record actor { mailbox = c.reserve.new.self }) actor c.args.more c.args.actors.now.items (sym c.in-Some.ensures.value) (omega (arith, fits))) c.reserve.ensures.ok
