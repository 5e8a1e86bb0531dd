use Rattle.std.proofs.Common.{◌≡◌, sym, ap, ◌∙◌}
use Rattle.office_types.specs.declared.office.OfficeState.{OfficeState}
use Rattle.action_table.specs.Definitions.{office_definitions}
use Rattle.actor_tree.specs.Following.{head_numbers}
use Rattle.actor_tree.proofs.ValidLemmas.{valid_stripped}
use Rattle.actor_tree.proofs.forest.Forest.new.Goals as goal

pub invariant_of-result : goal.invariant_of-result
invariant_of-result c = record {
  linked = c.requires.linked;
  valid = rw c.in_ok-held.ensures (valid_stripped (office_definitions c.args.defs.value) c.args.state.now c.requires.valid);
  callers = ap (λ (state : OfficeState). state.callers) c.in_ok-held.ensures;
  entries = ap (λ (state : OfficeState). state.entries) c.in_ok-held.ensures;
  heads_are = c.in_ok-heads.ensures ∙ (ap head_numbers c.as_slice.ensures ∙ ap (λ (state : OfficeState). head_numbers state.actors) (sym c.in_ok-held.ensures));
}
