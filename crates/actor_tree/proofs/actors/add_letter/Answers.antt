use Rattle.std.proofs.Common.{◌≡◌, ◌∷◌, [], true, nat_eq, List, refl, sym, ap, arith}
use Rattle.std.proofs.lemmas.Bool.{eq-eqb}
use Rattle.office_types.specs.declared.office.Letter.{Letter}
use Rattle.office_types.specs.Mailboxes.{with_mail}
use Rattle.actor_tree.specs.Actors.{record_of}
use Rattle.actor_tree.specs.HeldOffice.{letter_room, no_needs}
use Rattle.actor_tree.proofs.ChangedLemmas.{changed_at, is_there, letters_with, room_there, unchanged_at}
use Rattle.actor_tree.proofs.actors.add_letter.Goals as goal

pub push_back_reserved-requires : goal.push_back_reserved-requires
push_back_reserved-requires c =
    let actor = c.in-Some.actor.now in
    let held = sym c.in-Some.ensures.value in
    let room = room_there letter_room c.args.receiver c.args.actors.now.items actor held in
    let some = c.requires.room (is_there letter_room c.args.receiver c.args.actors.now.items actor held) in
    omega (arith, room, some)

pub returns-in-Some-clause-changed : goal.returns-in-Some-clause-changed
returns-in-Some-clause-changed c =
    let actor = c.in-Some.actor.now in
    let this : nat_eq c.args.receiver c.args.receiver ≡ true = eq-eqb c.args.receiver c.args.receiver refl in
    changed_at c.args.receiver (record actor { mailbox = c.push_back_reserved.new.self }) actor (with_mail c.args.letter) (record no_needs { receivers = c.args.receiver ∷ [] }) c.args.actors.now.items c.requires.rise
    (sym c.in-Some.ensures.value) (ap (λ (letters : List Letter). record (record_of c.args.receiver actor) { mailbox = letters }) c.push_back_reserved.ensures.items)
    (rw this (omega (arith, c.push_back_reserved.ensures.len, c.push_back_reserved.ensures.capacity))) (omega arith)

pub returns-in-Some-clause-count : goal.returns-in-Some-clause-count
returns-in-Some-clause-count c =
    let actor = c.in-Some.actor.now in
    let mailbox = c.push_back_reserved.new.self in
    let counted =
    letters_with c.args.receiver (record actor { mailbox = mailbox }) actor (with_mail c.args.letter)
    (ap (λ (letters : List Letter). record (record_of c.args.receiver actor) { mailbox = letters }) c.push_back_reserved.ensures.items) c.args.actors.now.items c.requires.rise (sym c.in-Some.ensures.value) in
    omega (arith, counted, c.push_back_reserved.ensures.len, mailbox.ok.0, actor.mailbox.ok.0)

pub returns-in-None-clause-changed : goal.returns-in-None-clause-changed
returns-in-None-clause-changed c = unchanged_at c.args.receiver (with_mail c.args.letter) (record no_needs { receivers = c.args.receiver ∷ [] }) c.args.actors.now.items c.requires.rise (sym c.in-None.ensures.value)
