use Rattle.std.proofs.Common.{sym, ◌∙◌}
use Rattle.std.proofs.lemmas.Bool.{false≢true}
use Rattle.office_run.proofs.FlatLemmas.{reads-flat}
use Rattle.office_run.proofs.definitions.flat_machines.Goals as goal

pub returns-in-Err-2 : goal.returns-in-Err-2
returns-in-Err-2 c = λ machines flat.
    c.in-Err.ensures.refused (λ memory. false≢true (sym c.if-is_memory.false ∙ c.is_memory.ensures.1 memory)) flat.0 flat.1

pub returns : goal.returns
returns c = reads-flat c.read_flat.result c.args.text.now c.in-Ok.json (λ text json other. c.meaning_is_unique.ensures text json other) c.in-Ok.ensures.ok c.read_flat.ensures
