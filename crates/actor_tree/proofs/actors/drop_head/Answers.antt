use Rattle.std.proofs.Common.{List, drop, sym, ap, arith}
use Rattle.office_types.specs.declared.office.ActorRecord.{ActorRecord}
use Rattle.office_types.specs.declared.office.Letter.{Letter}
use Rattle.actor_tree.specs.Actors.{record_of}
use Rattle.actor_tree.specs.HeldOffice.{no_needs}
use Rattle.actor_tree.proofs.ChangedLemmas.{changed_at, letters_with, unchanged_at}
use Rattle.actor_tree.proofs.actors.drop_head.Goals as goal

pub returns-in-Some-clause-changed : goal.returns-in-Some-clause-changed
returns-in-Some-clause-changed c =
    let actor = c.in-Some.actor.now in
    changed_at c.args.number (record actor { mailbox = c.pop_front.new.self }) actor (λ (actor : ActorRecord). record actor { mailbox = drop 1 actor.mailbox }) no_needs c.args.actors.now.items c.requires
    (sym c.in-Some.ensures.value) (ap (λ (letters : List Letter). record (record_of c.args.number actor) { mailbox = letters }) c.pop_front.ensures.rest)
    (omega (arith, c.pop_front.ensures.len, c.pop_front.ensures.capacity)) (omega arith)

pub returns-in-Some-clause-count : goal.returns-in-Some-clause-count
returns-in-Some-clause-count c =
    let actor = c.in-Some.actor.now in
    let mailbox = c.pop_front.new.self in
    let counted =
    letters_with c.args.number (record actor { mailbox = mailbox }) actor (λ (actor : ActorRecord). record actor { mailbox = drop 1 actor.mailbox })
    (ap (λ (letters : List Letter). record (record_of c.args.number actor) { mailbox = letters }) c.pop_front.ensures.rest) c.args.actors.now.items c.requires (sym c.in-Some.ensures.value) in
    omega (arith, counted, c.pop_front.ensures.len, mailbox.ok.0, actor.mailbox.ok.0, c.len-before.ensures, c.len.ensures)

pub returns-in-None-clause-changed : goal.returns-in-None-clause-changed
returns-in-None-clause-changed c =
    unchanged_at c.args.number (λ (actor : ActorRecord). record actor { mailbox = drop 1 actor.mailbox }) no_needs c.args.actors.now.items c.requires (sym c.in-None.ensures.value)
