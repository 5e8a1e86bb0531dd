use Rattle.std.proofs.Common.{◌≡◌, take}
use Rattle.std.specs.List.{flat_map}
use Rattle.action_table.specs.Unnamed.{least_unnamed}
use Rattle.action_table.specs.Uses.{uses_of_form}
use Rattle.action_table.proofs.unnamed_forms.unnamed_in_forms.Given as goal

abbrev pub invariant-loop-form : goal.invariant-loop-form
invariant-loop-form l = l.least ≡ least_unnamed l.ids l.table (flat_map uses_of_form (take l.form-index l.forms))
