-- The forms of a guard's object.
use Rattle.std.specs.Prelude.{ℕ, List, [], ◌∷◌, codes}
use Rattle.machine_json.specs.declared.guards.GuardForm.{GuardForm}
use Rattle.machine_json.specs.declared.guards.GuardForm.TheVariants.{Test, And, Or, Not, In}

-- the key of which each form is made
abbrev pub form_key : GuardForm → List ℕ
form_key Test = codes "type"
form_key And = codes "and"
form_key Or = codes "or"
form_key Not = codes "not"
form_key In = codes "stateIn"

-- the forms by their keys
abbrev pub forms_by_key : List (List ℕ × GuardForm)
forms_by_key =
    (form_key Test, Test)
    ∷ (form_key And, And)
    ∷ (form_key Or, Or)
    ∷ (form_key Not, Not)
    ∷ (form_key In, In)
    ∷ []
