use Rattle.std.proofs.Common.{◌≡◌, Bool, true, false, cond, sym, ap, ◌∙◌, Option, Some, None}
use Rattle.std.specs.List.{slice_get}
use Rattle.std.specs.Option.{option_map}
use Rattle.office_types.specs.declared.office.ActorRecord.{ActorRecord}
use Rattle.office_types.specs.declared.office.Letter.{Letter}
use Rattle.office_types.specs.Ready.{Head, head_with}
use Rattle.office_types.specs.Records.{is_ready_actor}
use Rattle.actor_tree.specs.Actors.{record_of}
use Rattle.actor_tree.specs.Following.{head_number}
use Rattle.actor_tree.proofs.actor.Actor.head_number.Goals as goal

-- the number of a head letter, as far as the actor is ready
known : (actor : ActorRecord) (ready : Bool) → is_ready_actor actor ≡ ready
    → head_number actor ≡ option_map (λ (head : Head). head.letter) (cond ready (option_map (head_with actor) (slice_get actor.mailbox 0)) None)
known actor ready is = ap (λ (b : Bool). option_map (λ (head : Head). head.letter) (cond b (option_map (head_with actor) (slice_get actor.mailbox 0)) None)) is

pub returns-in_ok-head : goal.returns-in_ok-head
returns-in_ok-head c = λ number.
    let actor = record_of number c.args.self.now in
    let there : Some c.in_ok-head.field-0.now ≡ slice_get actor.mailbox 0 = c.in_ok-head.ensures in
    sym (known actor true (sym (c.is_ready.ensures number) ∙ c.if-is_ready.true) ∙ ap (λ (o : Option Letter). option_map (λ (head : Head). head.letter) (option_map (head_with actor) o)) (sym there))

pub returns-else-is_ready : goal.returns-else-is_ready
returns-else-is_ready c = λ number.
    let actor = record_of number c.args.self.now in
    sym (known actor false (sym (c.is_ready.ensures number) ∙ c.if-is_ready.false))
