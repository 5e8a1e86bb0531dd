-- Faults and null are within the limits of an error.
use Rattle.std.proofs.Common.{◌≡◌, ℕ, suc, true, List, [], ◌∷◌, map, refl, ap, rules}
use Rattle.std.specs.Prelude.{codes}
use Rattle.std.specs.Map.{values_of}
use Rattle.json.proofs.OnLiterals.{json_on_literals}
use Rattle.json.specs.Print.{quoted}
use Rattle.xs_model.specs.declared.value.Value.{Value, the_lemmas}
use Rattle.xs_model.specs.declared.value.Value.TheVariants as value
use Rattle.xs_model.specs.Compact.{compact_text, greatest_depth, nesting}
use Rattle.xs_model.proofs.CompactLemmas.{compact-Map}
use Rattle.office_types.specs.declared.outcome.FaultName.{FaultName}
use Rattle.office_types.specs.declared.outcome.FaultName.TheVariants as name_of
use Rattle.office_types.specs.Events.{fault_error}
use Rattle.office_types.specs.Limits.{is_short}

compact-Null : compact_text value.Null ≡ codes "null"
compact-Null = search (rules, the_lemmas)

compact-Text : (text : List ℕ) → compact_text (value.Text text) ≡ quoted text
compact-Text text = search (rules, the_lemmas)

nesting-Null : nesting value.Null ≡ 0
nesting-Null = search (rules, the_lemmas)

nesting-Text : (text : List ℕ) → nesting (value.Text text) ≡ 0
nesting-Text text = search (rules, the_lemmas)

nested : (members : List (List ℕ × Value)) → values_of (map (λ (m : List ℕ × Value). (m.0, nesting m.1)) members) ≡ map (λ (m : List ℕ × Value). nesting m.1) members
nested [] = refl
nested (m ∷ members) = ap (λ depths. nesting m.1 ∷ depths) (nested members)

nesting-Map : (members : List (List ℕ × Value)) → nesting (value.Map members) ≡ suc (greatest_depth (map (λ (m : List ℕ × Value). nesting m.1) members))
nesting-Map members = search (rules, the_lemmas, nested)

pub null_short : is_short value.Null ≡ true
unfolding json_on_literals
null_short = simp (compact-Null, nesting-Null)

pub fault_short : (name : FaultName) → is_short (fault_error name) ≡ true
unfolding json_on_literals
fault_short name_of.Missing = simp (compact-Map, compact-Text, nesting-Map, nesting-Text)
fault_short name_of.Kind = simp (compact-Map, compact-Text, nesting-Map, nesting-Text)
fault_short name_of.Range = simp (compact-Map, compact-Text, nesting-Map, nesting-Text)
fault_short name_of.TooLarge = simp (compact-Map, compact-Text, nesting-Map, nesting-Text)
fault_short name_of.Steps = simp (compact-Map, compact-Text, nesting-Map, nesting-Text)
fault_short name_of.Actions = simp (compact-Map, compact-Text, nesting-Map, nesting-Text)
fault_short name_of.Reserved = simp (compact-Map, compact-Text, nesting-Map, nesting-Text)
fault_short name_of.NoChild = simp (compact-Map, compact-Text, nesting-Map, nesting-Text)
fault_short name_of.NameHeld = simp (compact-Map, compact-Text, nesting-Map, nesting-Text)
fault_short name_of.ActorsFull = simp (compact-Map, compact-Text, nesting-Map, nesting-Text)
fault_short name_of.LettersFull = simp (compact-Map, compact-Text, nesting-Map, nesting-Text)
fault_short name_of.TimersFull = simp (compact-Map, compact-Text, nesting-Map, nesting-Text)
fault_short name_of.TooDeep = simp (compact-Map, compact-Text, nesting-Map, nesting-Text)
