use Rattle.std.proofs.Common.{nat_eq, ◌||◌, ap, refl, sym, ◌∙◌}
use Rattle.std.proofs.lemmas.Bool.{eq-eqb, ne_eqb}
use Rattle.office_types.specs.declared.request.Word.TheVariants as word
use Rattle.snapshot_text.proofs.ReplyLemmas.{decides_reply}
use Rattle.snapshot_text.proofs.validity.callers.is_decided.Goals as goal

pub returns-in-Name : goal.returns-in-Name
returns-in-Name c = decides_reply c.args.reply.now word.Name (nat_eq c.args.reply.now.status 409) c.in-Name.is refl

pub returns-in-Moment : goal.returns-in-Moment
returns-in-Moment c = decides_reply c.args.reply.now word.Moment (nat_eq c.args.reply.now.status 409) c.in-Moment.is refl

pub returns-in-Actors : goal.returns-in-Actors
returns-in-Actors c = decides_reply c.args.reply.now word.Actors (nat_eq c.args.reply.now.status 429) c.in-Actors.is refl

pub returns-in-Letters : goal.returns-in-Letters
returns-in-Letters c = decides_reply c.args.reply.now word.Letters (nat_eq c.args.reply.now.status 429) c.in-Letters.is refl

pub returns-in-Stopped : goal.returns-in-Stopped
returns-in-Stopped c = decides_reply c.args.reply.now word.Stopped (nat_eq c.args.reply.now.status 410) c.in-Stopped.is refl

pub returns-in-Closed : goal.returns-in-Closed
returns-in-Closed c = decides_reply c.args.reply.now word.Closed (nat_eq c.args.reply.now.status 410) c.in-Closed.is refl

pub returns-in-Reserved : goal.returns-in-Reserved
returns-in-Reserved c = decides_reply c.args.reply.now word.Reserved (nat_eq c.args.reply.now.status 422) c.in-Reserved.is refl

pub returns-in-Letter : goal.returns-in-Letter
returns-in-Letter c = decides_reply c.args.reply.now word.Letter (nat_eq c.args.reply.now.status 202) c.in-Letter.is refl

pub returns-in-Due : goal.returns-in-Due
returns-in-Due c = decides_reply c.args.reply.now word.Due (nat_eq c.args.reply.now.status 200) c.in-Due.is refl

pub returns-in-Machine : goal.returns-in-Machine
returns-in-Machine c = decides_reply c.args.reply.now word.Machine (nat_eq c.args.reply.now.status 404) c.in-Machine.is refl

pub returns-then-reply-eq404 : goal.returns-then-reply-eq404
returns-then-reply-eq404 c =
    decides_reply c.args.reply.now word.Actor (nat_eq c.args.reply.now.status 404) c.in-Actor.is
    (eq-eqb c.args.reply.now.status 404 c.if-reply-eq404.true ∙ sym (ap (λ b. b || nat_eq c.args.reply.now.status 201) (eq-eqb c.args.reply.now.status 404 c.if-reply-eq404.true)))

pub returns-else-reply-eq404 : goal.returns-else-reply-eq404
returns-else-reply-eq404 c =
    decides_reply c.args.reply.now word.Actor (nat_eq c.args.reply.now.status 201) c.in-Actor.is
    (sym (ap (λ b. b || nat_eq c.args.reply.now.status 201) (ne_eqb c.args.reply.now.status 404 c.if-reply-eq404.false)))

pub returns-then-reply-eq404-2 : goal.returns-then-reply-eq404-2
returns-then-reply-eq404-2 c =
    decides_reply c.args.reply.now word.Item (nat_eq c.args.reply.now.status 404) c.in-Item.is
    (eq-eqb c.args.reply.now.status 404 c.if-reply-eq404-2.true ∙ sym (ap (λ b. b || nat_eq c.args.reply.now.status 200) (eq-eqb c.args.reply.now.status 404 c.if-reply-eq404-2.true)))

pub returns-else-reply-eq404-2 : goal.returns-else-reply-eq404-2
returns-else-reply-eq404-2 c =
    decides_reply c.args.reply.now word.Item (nat_eq c.args.reply.now.status 200) c.in-Item.is
    (sym (ap (λ b. b || nat_eq c.args.reply.now.status 200) (ne_eqb c.args.reply.now.status 404 c.if-reply-eq404-2.false)))
