use Rattle.std.proofs.Common.{◌∙◌, Some, None, Option, sym, arith}
use Rattle.std.specs.Prelude.{IsSome, OnSome}
use Rattle.std.proofs.lemmas.Bool.{false≢true}
use Rattle.flat_core.proofs.QueueLemmas.{remove-without_first, without_first-none, place-within}
use Rattle.flat_core.proofs.office.take_letter.Goals as goal

on_some : {X P : Type 0} (found : Option X) → IsSome found → OnSome found P → P
on_some (Some x) there h = h
on_some None there h = absurd (false≢true there)

pub returns-in-Some-clause-items : goal.returns-in-Some-clause-items
returns-in-Some-clause-items c =
    let letters = c.args.letters.now.items in
    let found = sym c.in-Some.ensures in
    let within = place-within c.args.actor letters c.in-Some.place found in
    on_some _ (c.remove.ensures.variant.1 (omega (arith, c.args.letters.now.ok.0))) c.remove.ensures.items
    ∙ remove-without_first c.args.actor letters c.in-Some.place found

pub returns-in_default-clause-items : goal.returns-in_default-clause-items
returns-in_default-clause-items c =
    without_first-none c.args.actor c.args.letters.now.items (sym c.first_place.ensures ∙ c.in_default.is)
