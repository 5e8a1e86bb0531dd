-- How keys are spelled that may not be any text.
use Rattle.std.specs.Prelude.{ℕ, Bool, not, ◌&&◌, ◌||◌, ◌==◌, List, length, nat_le, nat_lt, slice_index, Option, Some, None, if◌then◌else◌}
use Rattle.std.specs.List.{list_all, list_any}
use Rattle.ordered_json.specs.Meaning.{magnitude}
use Rattle.xs_data.specs.Ascii.{digit_nine, digit_zero, full_stop, number_sign}
use Rattle.machine_json.specs.declared.key.TheConstants.{MAX_DELAY}

-- a key that a target can name: it is not empty, has no dot, and doesn't begin with `#`
abbrev pub is_state_key : List ℕ → Bool
is_state_key key =
    nat_lt 0 (length key)
    && (not (list_any (λ b. b == full_stop) key) && not (slice_index key 0 == number_sign))

abbrev pub is_digit : ℕ → Bool
is_digit b = nat_le digit_zero b && nat_le b digit_nine

-- digits alone, of which there are some
abbrev pub is_number : List ℕ → Bool
is_number key = nat_lt 0 (length key) && list_all is_digit key

-- a name, or digits that make a delay
abbrev pub is_delay_key : List ℕ → Bool
is_delay_key key = not (is_number key) || nat_le (magnitude key) MAX_DELAY

-- the number of milliseconds that a key of digits is, if they make a delay
abbrev pub milliseconds_of : List ℕ → Option ℕ
milliseconds_of key =
    if is_number key && nat_le (magnitude key) MAX_DELAY then Some (magnitude key) else None
