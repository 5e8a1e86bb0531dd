-- What follows from the definitions of a step.
use Rattle.std.specs.Prelude.{◌≡◌, List, Result}
use Rattle.xs_model.specs.declared.env.EvalFault.{EvalFault}
use Rattle.xs_model.specs.declared.value.Value.{Value}
use Rattle.guard_eval.specs.declared.def.Def.{Def}
use Rattle.guard_eval.specs.declared.transition.Transition.{Transition}
use Rattle.office_types.specs.declared.outcome.Own.{Own}
use Rattle.microstep.specs.declared.micro.Micro.{Micro}
use Rattle.microstep.specs.Micro.{IsFirstMicrostep, IsMicrostep}
use Rattle.microstep.specs.Parts.{Stepped}
use Rattle.microstep.specs.Selection.{Looking, Place, Selects}

-- what is looked for selects one answer
abbrev pub SelectionIsUnique : Type 0
SelectionIsUnique =
    (looking : Looking) (a b : Result (List Place) EvalFault)
    → Selects looking a → Selects looking b → a ≡ b

-- the same own part, transitions and event make one microstep
abbrev pub MicrostepIsUnique : Type 0
MicrostepIsUnique =
    (def : Def) (own : Own) (transitions : List Transition) (event : Value) (a b : Stepped Micro)
    → IsMicrostep def own transitions event a → IsMicrostep def own transitions event b → a ≡ b

-- the same own part and event make one first microstep
abbrev pub FirstMicrostepIsUnique : Type 0
FirstMicrostepIsUnique =
    (def : Def) (own : Own) (event : Value) (a b : Stepped Micro)
    → IsFirstMicrostep def own event a → IsFirstMicrostep def own event b → a ≡ b
