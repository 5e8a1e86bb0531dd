-- The office of a step whose actor has ended.
use Rattle.std.proofs.Common.{◌≡◌, ℕ, ◌+◌, ◌<◌, ◌≤◌, Bool, true, false, List, [], ◌∷◌, ◌++◌, length, map, refl, sym, ap, subst, ◌∙◌, arith}
use Rattle.std.specs.Prelude.{Option, None, Some, find, fold, nat_eq, sum_by}
use Rattle.std.specs.List.{AllByRecursion}
use Rattle.std.specs.Option.{option_and_then, option_map, option_map_or}
use Rattle.office_types.specs.declared.office.ActorRecord.{ActorRecord}
use Rattle.office_types.specs.declared.office.OfficeState.{OfficeState}
use Rattle.office_types.specs.Ends.{after_end, child_id, is_among, subtree_of}
use Rattle.office_types.specs.Mailboxes.{waiting_letters}
use Rattle.office_types.specs.Records.{is_active, parent_actor}
use Rattle.actor_tree.specs.declared.counts.Counts.{Counts}
use Rattle.actor_tree.specs.declared.notes.Notes.{Notes}
use Rattle.actor_tree.specs.declared.part.Part.{Part}
use Rattle.actor_tree.specs.Noted.{AreGone, Kin, faces_of, kin_of, without_record}
use Rattle.actor_tree.specs.Notes.{AreLettersNoted, AreNoted, CanStep, IsEnded, noted}
use Rattle.actor_tree.specs.Parts.{CanPut, CanPutAll, put, put_part}
use Rattle.actor_tree.proofs.FaceLemmas.{parent_before, record_number}
use Rattle.actor_tree.proofs.GrantLemmas.{end_child_id, end_parent}
use Rattle.actor_tree.proofs.LookUpLemmas.{KeepsFamily}
use Rattle.actor_tree.proofs.NoteListLemmas.{look}
use Rattle.actor_tree.proofs.NotedStopLemmas.{fold_without, waiting_ended}
use Rattle.actor_tree.proofs.NotedSubtreeLemmas.{among_itself, below_found, subtree_is}
use Rattle.actor_tree.proofs.NotedValidLemmas.{ready_given, ready_parent}
use Rattle.actor_tree.proofs.NotesLemmas.{actor_left}
use Rattle.actor_tree.proofs.PartLemmas.{fits_push, put_push}

next_letter_kept : (end : ActorRecord → ActorRecord) (actor : ℕ) (office : OfficeState) → (after_end end actor office).next_letter ≡ office.next_letter
unfolding after_end
next_letter_kept end actor office = refl

waiting_after : (end : ActorRecord → ActorRecord) (actor : ℕ) (office : OfficeState) → ((a : ActorRecord) → (end a).mailbox ≡ []) → AllByRecursion (λ (a : ActorRecord). is_active a ≡ false → a.mailbox ≡ []) office.actors
    → sum_by (λ (a : ActorRecord). length a.mailbox) (fold (λ (others : List ActorRecord) (number : ℕ). without_record number others) office.actors (subtree_of office actor)) ≡ waiting_letters (after_end end actor office)
unfolding after_end
waiting_after end actor office empties quiet =
    ap (sum_by (λ (a : ActorRecord). length a.mailbox)) (fold_without (λ (a : ActorRecord). a.number) (subtree_of office actor) office.actors)
    ∙ waiting_ended (subtree_of office actor) actor end empties
    (ap (λ (ns : List ℕ). is_among ns actor) (subtree_is office actor) ∙ below_found (faces_of office.actors) (actor ∷ []) actor (among_itself actor)) office.actors quiet

-- what is asked of the office after an end
pub ended : (before : OfficeState) (actor : ℕ) (parts : List Part) (notes new : Notes) (part : Part) (end : ActorRecord → ActorRecord) → CanStep before actor → CanPutAll before parts → AreNoted before actor notes (put before parts) → AreGone before actor (noted notes)
    → KeepsFamily end → ((a : ActorRecord) → (end a).mailbox ≡ []) → put_part (put before parts) part ≡ after_end end actor (put before parts) → CanPut (put before parts) part
    → AreLettersNoted before actor new (fold (λ (others : List ActorRecord) (number : ℕ). without_record number others) (put before parts).actors (subtree_of (put before parts) actor))
    → new.counts ≡ record notes.counts { waiting = new.counts.waiting } → IsEnded before actor (parts ++ part ∷ []) new.counts
ended before actor parts notes new part end can fits is gone keeps empties same fit letters counts =
    let office : OfficeState = put before parts in
    let after : put before (parts ++ part ∷ []) ≡ after_end end actor office = put_push before parts part ∙ same in
    let up : parent_actor office actor ≡ parent_actor before actor = parent_before before actor (noted notes) office.actors is.records actor (actor_left before actor notes office can gone is actor (omega arith)) (ready_given can.valid.0 before can.valid.1 actor can.ready) in
    record {
      fits = fits_push before parts part fits fit;
      waiting = letters.waiting ∙ waiting_after end actor office empties is.records.quiet ∙ ap waiting_letters (sym after);
      next_letter = ap (λ (c : Counts). c.next_letter) counts ∙ is.counts.next_letter ∙ sym (next_letter_kept end actor office) ∙ ap (λ (o : OfficeState). o.next_letter) (sym after);
      parent = ap (λ (o : OfficeState). parent_actor o actor) after ∙ end_parent office end actor keeps actor ∙ up;
      id = λ parent e. (
          let less : parent < actor = (ready_parent can.valid.0 before can.valid.1 actor can.ready parent e).0 in
          ap (λ (o : OfficeState). child_id o parent actor) after ∙ end_child_id office end actor keeps parent actor
          ∙ by_kin (look record_number office.actors parent) ∙ ap id_in (is.kids.above parent less) ∙ sym (by_kin (look record_number before.actors parent)));
    } where
      id_in : Option Kin → List ℕ
      id_in o = option_map_or (λ (kin : Kin). option_map_or (λ (kid : List ℕ × ℕ). kid.0) (find (λ (kid : List ℕ × ℕ). nat_eq kid.1 actor) kin.kids) []) o []

      by_kin : (o : Option ActorRecord) → option_map_or (λ (a : ActorRecord). option_map_or (λ (kid : List ℕ × ℕ). kid.0) (find (λ (kid : List ℕ × ℕ). nat_eq kid.1 actor) a.kids) []) o [] ≡ id_in (option_map kin_of o)
      by_kin None = refl
      by_kin (Some a) = refl
