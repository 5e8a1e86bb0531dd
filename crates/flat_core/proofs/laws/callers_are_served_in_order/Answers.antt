use Rattle.std.proofs.Common.{◌≡◌, ◌++◌, sym, ap, ◌∙◌}
use Rattle.std.proofs.lemmas.List.Elements.{filter-append}
use Rattle.flat_core.specs.Office.{empty_office}
use Rattle.flat_core.specs.Runs.{after, along, mailbox, sent_along}
use Rattle.flat_core.specs.Laws.{all_sent, all_taken, among}
use Rattle.flat_core.proofs.RunLemmas.{letters_of}
use Rattle.flat_core.proofs.LawLemmas.{no_actor, letters-conserved, numbered-from, rise-run, among-sent}
use Rattle.flat_core.proofs.laws.callers_are_served_in_order.Goals as goal

pub returns : goal.returns
returns c = λ machines entries route.
    let own = along machines (sent_along machines route) empty_office entries in
    let taken = all_taken machines entries route.actor in
    let conserved : taken ++ mailbox (after machines empty_office entries) route.actor ≡ all_sent machines entries route.actor =
    sym (letters-conserved machines route.actor empty_office entries) ∙ ap (λ first. letters_of first ++ all_sent machines entries route.actor) (no_actor route.actor) in
    record {
      letters = sym (filter-append _ taken (mailbox (after machines empty_office entries) route.actor)) ∙ ap (among own) conserved ∙ among-sent machines route empty_office entries;
      order = rise-run machines (sent_along machines route) (numbered-from machines route) empty_office entries;
    }
