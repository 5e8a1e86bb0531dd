-- The events that the office makes are events, and only the one that begins an actor begins one.
use Rattle.std.proofs.Common.{rules, ◌≡◌, Bool, true, false, ◌&&◌, List, ℕ, refl, ap}
use Rattle.std.specs.Option.{option_map_or}
use Rattle.std.specs.Str.{bytes_eq}
use Rattle.json.proofs.OnLiterals.{json_on_literals}
use denote.Hole.Carrier.{out, shown, hidden}
use Rattle.xs_model.specs.declared.value.Value.{Value, out-Value, the_lemmas}
use Rattle.xs_model.specs.declared.value.Value.TheBlock.{shown-the_row-Value-1}
use Rattle.xs_model.specs.declared.value.Value.TheVariants.{Null}
use Rattle.xs_model.proofs.CompactLemmas.{compact-Map}
use Rattle.office_types.specs.declared.outcome.FaultName.{FaultName}
use Rattle.office_types.specs.declared.outcome.FaultName.TheVariants as fault
use Rattle.office_types.specs.Events.{done_event, error_event, event_type, fault_error, init_event, init_type, snapshot_event}
use Rattle.xs_model.specs.Compact.{nesting}
use Rattle.office_types.specs.Limits.{is_event, is_short}
use Rattle.office_types.proofs.ValueLemmas.{compact-Null, compact-Text, nesting-Map, nesting-Text}

-- the event begins no actor
abbrev pub begins_none : Value → Type 0
begins_none event = option_map_or (bytes_eq init_type) (event_type event) false ≡ false

pub done_is_event : (output : Value) (id : List ℕ) → is_short output ≡ true → is_event (done_event output id) ≡ true
unfolding out-Value out shown hidden shown-the_row-Value-1
done_is_event output id short = ap (λ (b : Bool). b && true) short

pub error_is_event : (error : Value) (id : List ℕ) → is_short error ≡ true → is_event (error_event error id) ≡ true
unfolding out-Value out shown hidden shown-the_row-Value-1
error_is_event error id short = short

pub done_begins_none : (output : Value) (id : List ℕ) → begins_none (done_event output id)
unfolding out-Value out shown hidden shown-the_row-Value-1
done_begins_none output id = refl

pub error_begins_none : (error : Value) (id : List ℕ) → begins_none (error_event error id)
unfolding out-Value out shown hidden shown-the_row-Value-1
error_begins_none error id = refl

pub snapshot_is_event : (snapshot : Value) (id : List ℕ) → is_event (snapshot_event snapshot id) ≡ true
unfolding out-Value out shown hidden shown-the_row-Value-1
snapshot_is_event snapshot id = refl

pub snapshot_begins_none : (snapshot : Value) (id : List ℕ) → begins_none (snapshot_event snapshot id)
unfolding out-Value out shown hidden shown-the_row-Value-1
snapshot_begins_none snapshot id = refl

pub init_is_event : (input : Value) → is_short input ≡ true → is_event (init_event input) ≡ true
unfolding out-Value out shown hidden shown-the_row-Value-1
init_is_event input short = ap (λ (b : Bool). b && true) short

pub init_begins : (input : Value) → option_map_or (bytes_eq init_type) (event_type (init_event input)) false ≡ true
unfolding out-Value out shown hidden shown-the_row-Value-1
init_begins input = refl

pub fault_is_short : (name : FaultName) → is_short (fault_error name) ≡ true
unfolding json_on_literals
fault_is_short fault.Missing = simp (compact-Map, compact-Text, nesting-Map, nesting-Text)
fault_is_short fault.Kind = simp (compact-Map, compact-Text, nesting-Map, nesting-Text)
fault_is_short fault.Range = simp (compact-Map, compact-Text, nesting-Map, nesting-Text)
fault_is_short fault.TooLarge = simp (compact-Map, compact-Text, nesting-Map, nesting-Text)
fault_is_short fault.Steps = simp (compact-Map, compact-Text, nesting-Map, nesting-Text)
fault_is_short fault.Actions = simp (compact-Map, compact-Text, nesting-Map, nesting-Text)
fault_is_short fault.Reserved = simp (compact-Map, compact-Text, nesting-Map, nesting-Text)
fault_is_short fault.NoChild = simp (compact-Map, compact-Text, nesting-Map, nesting-Text)
fault_is_short fault.NameHeld = simp (compact-Map, compact-Text, nesting-Map, nesting-Text)
fault_is_short fault.ActorsFull = simp (compact-Map, compact-Text, nesting-Map, nesting-Text)
fault_is_short fault.LettersFull = simp (compact-Map, compact-Text, nesting-Map, nesting-Text)
fault_is_short fault.TimersFull = simp (compact-Map, compact-Text, nesting-Map, nesting-Text)
fault_is_short fault.TooDeep = simp (compact-Map, compact-Text, nesting-Map, nesting-Text)

nesting-Null : nesting Null ≡ 0
nesting-Null = search (rules, the_lemmas)

pub null_is_short : is_short Null ≡ true
unfolding json_on_literals
null_is_short = simp (compact-Null, nesting-Null)
