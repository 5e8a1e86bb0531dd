use Rattle.std.proofs.Common.{◌≡◌, ◌∙◌, append_assoc}
use Rattle.std.specs.Prelude.{string_bytes}
use Rattle.office_run.specs.DefinitionsLines.{fault_line}
use Rattle.office_run.proofs.ReplyLemmas.{if_ok}
use Rattle.office_run.proofs.definitions_lines.fault_line.Goals as goal

pub returns : goal.returns
returns c =
    if_ok c.format.result _ (λ text. string_bytes text ≡ fault_line c.args.part.now c.args.number c.args.place)
    (λ text h. h ∙ simp append_assoc) c.format.ensures.ok
