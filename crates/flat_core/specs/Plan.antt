-- What a plan does, and when it fits.
use Rattle.std.specs.Prelude.{◌≡◌, ◌≢◌, ℕ, ◌+◌, ◌<◌, ◌^◌, length, Option, Some, IsTrue, option_and_then, unwrap_or}
use Rattle.flat_core.specs.declared.office.Change.{Change}
use Rattle.flat_core.specs.declared.office.Change.TheVariants.{Nothing, Begin, Post, Step}
use Rattle.flat_core.specs.declared.office.Plan.{Plan}
use Rattle.flat_core.specs.declared.request.Ask.{Ask}
use Rattle.flat_core.specs.declared.request.Reply.{Reply}
use Rattle.flat_core.specs.declared.request.TheConstants.{STATUS_OK}
use Rattle.flat_core.specs.declared.request.Word.TheVariants as word
use Rattle.flat_core.specs.declared.office.Claim.{Claim}
use Rattle.flat_core.specs.declared.office.StepRefused.{StepRefused}
use Rattle.flat_core.specs.declared.office.StepRefused.TheVariants.{Gone, Memory}
use Rattle.flat_core.specs.Office.{Office, Decision, reply_with, is_given, actor_of, head_of, with_new, with_letter, with_step, decided, took}
use Rattle.flat_core.specs.View.{Kept}

-- the office after a change
abbrev pub office_after_change : Office → Change → Office
office_after_change office Nothing = office
office_after_change office (Begin machine) = with_new office machine
office_after_change office (Post actor event) = with_letter office actor event
office_after_change office (Step actor state) = with_step office actor state

-- the office after a plan is carried out
abbrev pub office_after_plan : Office → Plan → Office
office_after_plan office plan = office_after_change office plan.change

-- the reply that carrying it out gives
abbrev pub reply_of : Plan → Reply
reply_of plan = plan.reply

-- one more letter has room and a number
abbrev pub HasLetterRoom : Kept → Type 0
HasLetterRoom core = (0 < core.letter_room) × (core.office.next_letter + 1 < 2 ^ 64)

-- one more actor has room, with the letter that begins it, and a number
abbrev pub FitsBegin : Kept → Type 0
FitsBegin core =
    (0 < core.actor_room) × HasLetterRoom core × (length core.office.actors + 1 < 2 ^ 64)

-- the change can be made of the core as it is
abbrev pub FitsChange : Kept → Change → Type 0
FitsChange core Nothing = Unit {0}
FitsChange core (Begin machine) = FitsBegin core
FitsChange core (Post actor event) = IsTrue (is_given core.office actor) × HasLetterRoom core
FitsChange core (Step actor state) = IsTrue (is_given core.office actor)

-- the plan can be carried out on the core as it is
abbrev pub Fits : Kept → Plan → Type 0
Fits core plan = FitsChange core plan.change

-- machines and office stay; room may have been made
pub record KeepsOffice (old new : Kept) : Type 0 where
  pub machines : new.machines ≡ old.machines
  pub office : new.office ≡ old.office

-- the plan is this decision, and it fits
pub record IsPlanFor (core : Kept) (decision : Decision) (plan : Plan) : Type 0 where
  pub fits : Fits core plan
  pub reply : reply_of plan ≡ decision.reply
  pub after : office_after_plan core.office plan ≡ decision.after

-- the plan is what is decided on the request
abbrev pub IsDecided : Kept → Ask → Plan → Type 0
IsDecided core ask plan = IsPlanFor core (decided core.machines core.office ask) plan

-- the number of the head letter of an actor, if it has one
abbrev pub head_at : Office → ℕ → Option ℕ
head_at office actor = option_and_then head_of (actor_of office actor)

-- the decision that a step of the claimed actor is
abbrev pub step_decision : Kept → Claim → Decision
step_decision core claim = record {
  reply = reply_with STATUS_OK word.Letter claim.letter;
  after = took core.machines core.office claim.actor;
}

-- the plan is the step of the claimed actor by the claimed letter, and it fits
pub record IsStep (core : Kept) (claim : Claim) (plan : Plan) : Type 0 where
  pub head : head_at core.office claim.actor ≡ Some claim.letter
  pub step : IsPlanFor core (step_decision core claim) plan

-- another letter than the claimed one is at the head, or none; of want of memory nothing is said
abbrev pub IsRefusedStep : Kept → Claim → StepRefused → Type 0
IsRefusedStep core claim (Gone head) =
    (head ≡ unwrap_or (head_at core.office claim.actor) 0)
    × (head_at core.office claim.actor ≢ Some claim.letter)
IsRefusedStep core claim Memory = Unit {0}
