-- What follows from the definition of a macrostep.
use Rattle.std.specs.Prelude.{◌≡◌, ℕ}
use Rattle.xs_model.specs.declared.value.Value.{Value}
use Rattle.guard_eval.specs.declared.def.Def.{Def}
use Rattle.office_types.specs.declared.outcome.Outcome.{Outcome}
use Rattle.office_types.specs.declared.outcome.Own.{Own}
use Rattle.macrostep.specs.Macro.{IsFirstMacrostep, IsMacrostep}

-- the same own part and event have one outcome
abbrev pub MacrostepIsUnique : Type 0
MacrostepIsUnique =
    (def : Def) (own : Own) (event : Value) (a b : Outcome)
    → IsMacrostep def own event a → IsMacrostep def own event b → a ≡ b

-- the first step of an actor with the same input has one outcome
abbrev pub FirstMacrostepIsUnique : Type 0
FirstMacrostepIsUnique =
    (def : Def) (number : ℕ) (input : Value) (a b : Outcome)
    → IsFirstMacrostep def number input a → IsFirstMacrostep def number input b → a ≡ b
