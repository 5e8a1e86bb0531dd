-- How long values, events and names may be.
use Rattle.std.specs.Prelude.{ℕ, Bool, true, false, ◌&&◌, List, length, codes, nat_lt, nat_le, if◌then◌else◌}
use Rattle.std.specs.Option.{option_map_or}
use Rattle.xs_model.specs.declared.value.Value.{Value}
use Rattle.xs_model.specs.Compact.{compact_text, nesting}
use Rattle.xs_model.specs.declared.limits.TheConstants.{MAX_EVENT_TEXT, MAX_CONTEXT_TEXT, MAX_NESTING, MAX_NAME}
use Rattle.office_types.specs.Events.{event_type, is_reserved, under}

-- the compact text has at most so many bytes, and the value doesn't nest too deep
abbrev pub fits_within : ℕ → Value → Bool
fits_within bytes value = nat_le (length (compact_text value)) bytes && nat_le (nesting value) MAX_NESTING

-- the limits of an event, an input, an output and an error
abbrev pub is_short : Value → Bool
is_short value = fits_within MAX_EVENT_TEXT value

-- the limits of a context
abbrev pub is_context : Value → Bool
is_context value = fits_within MAX_CONTEXT_TEXT value

-- the length of an id or a system name
abbrev pub is_name : List ℕ → Bool
is_name name = nat_lt 0 (length name) && nat_le (length name) MAX_NAME

-- ---- events

-- what stands under a key is short, if anything stands there
abbrev pub is_short_under : List ℕ → Value → Bool
is_short_under key event = option_map_or is_short (under key event) true

-- the limits of an event of this type: where the office made it, its input, its output and its error have them alone
abbrev pub has_limits : Value → List ℕ → Bool
has_limits event type =
    if is_reserved type
    then is_short_under (codes "input") event && (is_short_under (codes "output") event && is_short_under (codes "error") event)
    else is_short event

-- an event: a map with a text `type`, within the limits
abbrev pub is_event : Value → Bool
is_event event = option_map_or (has_limits event) (event_type event) false
