-- How callers are named.
use Rattle.std.specs.Prelude.{ℕ, Bool, false, ◌&&◌, ◌||◌, ◌==◌, List, [], ◌∷◌, length, nat_le}
use Rattle.std.specs.List.{list_all}
use Rattle.xs_data.specs.Ascii.{small_a, small_z, digit_zero, digit_nine, hyphen}
use Rattle.office_types.specs.declared.limits.TheConstants.{MAX_CALLER}

-- a to z
abbrev pub is_lowercase : ℕ → Bool
is_lowercase byte = nat_le small_a byte && nat_le byte small_z

-- 0 to 9
abbrev pub is_digit : ℕ → Bool
is_digit byte = nat_le digit_zero byte && nat_le byte digit_nine

-- a to z, 0 to 9, or `-`
abbrev pub is_caller_byte : ℕ → Bool
is_caller_byte byte = is_lowercase byte || (is_digit byte || (byte == hyphen))

-- a letter from a to z, then such bytes; at most 64 in all
abbrev pub is_caller : List ℕ → Bool
is_caller [] = false
is_caller (first ∷ others) = is_lowercase first && (list_all is_caller_byte others && nat_le (length (first ∷ others)) MAX_CALLER)
