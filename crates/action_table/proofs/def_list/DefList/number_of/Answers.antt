use Rattle.std.proofs.Common.{ap, ◌∙◌, subst, sym}
use Rattle.std.specs.Prelude.{position}
use Rattle.std.specs.Str.{bytes_eq}
use Rattle.guard_eval.specs.declared.def.Def.{Def}
use Rattle.action_table.specs.DefNames.{HaveDistinctIds, defs_held}
use Rattle.action_table.proofs.OfficeLemmas.{id-place, own-place}
use Rattle.action_table.proofs.def_list.DefList.number_of.Goals as goal

pub returns-in_err-place-clause-number :
    goal.returns-in_err-place-clause-number
returns-in_err-place-clause-number c =
    rw c.from_residual.ensures
    (sym c.in_err-place.was ∙ c.place_of.ensures ∙ id-place c.self.inside.ids (defs_held c.self.inside.defs.items) c.args.id.now c.self.invariant
    ∙ ap (position (λ (def : Def). bytes_eq c.args.id.now def.name)) c.self.view_is)

pub returns-clause-number : goal.returns-clause-number
returns-clause-number c =
    sym c.in_ok-place.was ∙ c.place_of.ensures ∙ id-place c.self.inside.ids (defs_held c.self.inside.defs.items) c.args.id.now c.self.invariant
    ∙ ap (position (λ (def : Def). bytes_eq c.args.id.now def.name)) c.self.view_is

pub returns-in_err-place-clause-own : goal.returns-in_err-place-clause-own
returns-in_err-place-clause-own c n def at is =
    returns-in_err-place-clause-number c
    ∙ own-place c.args.self.now n def c.args.id.now (subst HaveDistinctIds c.self.view_is c.self.invariant.distinct) at is

pub returns-clause-own : goal.returns-clause-own
returns-clause-own c n def at is =
    returns-clause-number c
    ∙ own-place c.args.self.now n def c.args.id.now (subst HaveDistinctIds c.self.view_is c.self.invariant.distinct) at is
