use Rattle.std.proofs.Common.{◌≡◌, ◌∙◌, append_assoc}
use Rattle.std.specs.Prelude.{string_bytes}
use Rattle.office_run.specs.DefinitionsLines.{counts_line}
use Rattle.office_run.proofs.ReplyLemmas.{if_ok}
use Rattle.office_run.proofs.definitions_lines.counts_line.Goals as goal

pub returns : goal.returns
returns c =
    if_ok c.format.result _ (λ text. string_bytes text ≡ counts_line c.args.defs.now)
    (λ text h. h ∙ simp (append_assoc, c.len-machines.ensures, c.node_count-nodes.ensures)) c.format.ensures.ok
