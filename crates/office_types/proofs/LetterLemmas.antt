-- Which letters wait after entries.
use Rattle.std.proofs.Common.{ℕ, ◌<◌, ◌≤◌, List, [], ◌∷◌, arith}
use Rattle.std.specs.Prelude.{Contains}
use Rattle.std.specs.List.{AllByRecursion}
use Rattle.std.proofs.lemmas.List.Elements.{All-contains, All-contains_itself, All-from_recursion, recursion_from_All}
use Rattle.office_types.specs.declared.office.ActorRecord.{ActorRecord}
use Rattle.office_types.specs.declared.office.Letter.{Letter}
use Rattle.office_types.specs.Entries.{after}
use Rattle.office_types.specs.Laws.{LettersWaitedBefore}
use Rattle.office_types.specs.ValidOffice.{letters_of}
use Rattle.office_types.proofs.ChangeLemmas.{entries_keep}
use Rattle.office_types.proofs.RecordLemmas.{Everywhere, Mail, all_join, all_split, mail_kept}

-- ---- mailboxes, one after the other

pub by_mailbox : (P : Letter → Type 0) (actors : List ActorRecord) → AllByRecursion P (letters_of actors) → AllByRecursion (λ (actor : ActorRecord). AllByRecursion P actor.mailbox) actors
by_mailbox P [] all = tt
by_mailbox P (actor ∷ actors) all = let parts = all_split P actor.mailbox (letters_of actors) all in (parts.0, by_mailbox P actors parts.1)

pub of_mailboxes : (P : Letter → Type 0) (actors : List ActorRecord) → AllByRecursion (λ (actor : ActorRecord). AllByRecursion P actor.mailbox) actors → AllByRecursion P (letters_of actors)
of_mailboxes P [] all = tt
of_mailboxes P (actor ∷ actors) all = all_join P actor.mailbox (letters_of actors) all.0 (of_mailboxes P actors all.1)

-- a letter with an old number waited before
pub letters_waited_before : LettersWaitedBefore
letters_waited_before definitions macrostep state entries letter waits old =
    let before = letters_of state.actors in
    let P : ℕ → Letter → Type 0 = λ (number : ℕ) (l : Letter). l.number < state.next_letter → Contains before l in
    let new : (number : ℕ) (l : Letter) → state.next_letter ≤ l.number → P number l = λ number l large small. absurd (omega arith) in
    let first = by_mailbox (P 0) state.actors (recursion_from_All (P 0) before (λ k d within small. All-contains_itself before k d within)) in
    let later = entries_keep (Everywhere (Mail P state.next_letter new) state.next_letter 0) (mail_kept P state.next_letter new) definitions macrostep entries state (first, omega arith, omega arith) in
    let waiting = letters_of (after definitions macrostep state entries).actors in
    All-contains (P 0) waiting letter (All-from_recursion (P 0) waiting (of_mailboxes (P 0) (after definitions macrostep state entries).actors later.0)) waits old
