use Rattle.std.proofs.Common.{◌∙◌, ap, length, sym}
use Rattle.step_sets.specs.Sets.{IsSetOf}
use Rattle.microstep.specs.Readings.{looking_of}
use Rattle.microstep.specs.Selection.{IsLeftBy}
use Rattle.microstep.proofs.ExitLemmas.{AllZip-length, if-ok}
use Rattle.microstep.proofs.selection.staying.Goals as goal

pub kept-requires : goal.kept-requires
kept-requires c =
    let each = AllZip-length (λ place. IsSetOf (IsLeftBy (looking_of c.args.reading.now) place)) c.args.picked.now c.in_ok-exits.exits.items c.in_ok-exits.ensures in
    rw c.as_slice.ensures (c.in_ok-flags.ensures.each ∙ ap length c.deref.ensures.value ∙ sym each)

pub returns : goal.returns
returns c =
    if-ok c.kept.result
    (λ taken is. record {
      picked = c.args.picked.now;
      picks = c.requires.picked;
      exits = c.in_ok-exits.exits.items;
      exit_sets = c.in_ok-exits.ensures;
      flags = c.in_ok-flags.flags;
      stays = rw c.deref.ensures.value at c.in_ok-flags.ensures;
      taken_are = rw c.as_slice.ensures at is;
    })
    c.kept.ensures
