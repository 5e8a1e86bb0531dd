use Rattle.std.proofs.Common.{◌≡◌, ℕ, ◌++◌, List, Option, None, Some, refl, sym, ap, ◌∙◌}
use Rattle.std.specs.Prelude.{slice_get, fold, IfSome}
use Rattle.flat_core.specs.declared.flat.FlatMachine.{FlatMachine}
use Rattle.flat_core.specs.Office.{Actor, empty_office, actor_of}
use Rattle.flat_core.specs.Runs.{Entry, after, sent_to}
use Rattle.flat_core.specs.Laws.{FollowsItsLetters, all_sent, all_taken}
use Rattle.flat_core.proofs.RunLemmas.{letters_of, item_of}
use Rattle.flat_core.proofs.LawLemmas.{no_actor, Runs, HasMachine, state_of, moved_by, letters-conserved, state-transitions, has_machine, numbered, rise-run}
use Rattle.flat_core.proofs.laws.actors_follow_their_letters.Goals as goal

follows : (machines : List FlatMachine) (entries : List Entry) (number : ℕ) (actor : Option Actor) → actor_of (after machines empty_office entries) number ≡ actor → IfSome actor (FollowsItsLetters machines entries number)
follows machines entries number None at = tt
follows machines entries number (Some actor) at =
    let none = no_actor number in
    let taken = all_taken machines entries number in
    let has : HasMachine machines (Some actor) = rw at at (has_machine machines number empty_office entries (rw none tt)) in
    let found = item_of (slice_get machines actor.machine) has in
    let runs : Runs actor.machine (actor_of (after machines empty_office entries) number) = rw at refl in
    record {
      machine = found.0;
      machine_of = found.1;
      state = ap state_of (sym at) ∙ state-transitions machines number empty_office entries actor.machine found.0 found.1 runs ∙ ap (λ first. fold (moved_by found.0) (state_of first) taken) none;
      letters = ap (λ last. taken ++ letters_of last) (sym at) ∙ sym (letters-conserved machines number empty_office entries) ∙ ap (λ first. letters_of first ++ all_sent machines entries number) none;
      order = rise-run machines (sent_to machines number) (numbered machines number) empty_office entries;
    }

pub returns : goal.returns
returns c = λ machines entries number. follows machines entries number (actor_of (after machines empty_office entries) number) refl
