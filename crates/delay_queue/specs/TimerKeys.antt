-- The keys by which timers are sorted: lists of numbers, which are compared from the left.
use Rattle.std.specs.Prelude.{◌≡◌, ℕ, List, [], ◌∷◌, map, find, nat_eq, Option, Some, None}
use Rattle.std.specs.declared.cmp.Ordering.{Ordering}
use Rattle.std.specs.declared.cmp.Ordering.TheVariants.{Less, Greater}
use Rattle.std.specs.Option.{option_map_or}
use Rattle.std.specs.Ordering.{nat_cmp}
use Rattle.xs_model.specs.Rising.{key_cmp}
use Rattle.office_types.specs.declared.office.Timer.{Timer}
use Rattle.office_books.specs.KeyIndex.{IsIn, text_of_number}
use Rattle.office_books.specs.Sorted.{RisesBy, IsAt, IsAbsentAt}

-- the order of due, and then of number
abbrev pub due_key : Timer → List ℕ
due_key timer = timer.due ∷ timer.order ∷ []

-- by owner; then the timers without an id, by number, and then those with one, by its bytes
abbrev pub owner_key : ℕ → Option (List ℕ) → ℕ → List ℕ
owner_key owner None order = owner ∷ 0 ∷ order ∷ []
owner_key owner (Some id) order = owner ∷ 1 ∷ id

abbrev pub owner_key_of : Timer → List ℕ
owner_key_of timer = owner_key timer.owner timer.id timer.order

-- how two ids compare, where a timer without one goes by its number
abbrev pub id_order : Option (List ℕ) → ℕ → Option (List ℕ) → ℕ → Ordering
id_order None order None other = nat_cmp order other
id_order None order (Some other_id) other = Less
id_order (Some id) order None other = Greater
id_order (Some id) order (Some other_id) other = key_cmp id other_id

-- each timer's key and number
abbrev pub keyed : (Timer → List ℕ) → List Timer → List (List ℕ × ℕ)
keyed key timers = map (λ (timer : Timer). (key timer, timer.order)) timers

-- the key of a number; the empty one where no timer has it
abbrev pub due_key_in : List Timer → ℕ → List ℕ
due_key_in timers = text_of_number (keyed due_key timers)

abbrev pub owner_key_in : List Timer → ℕ → List ℕ
owner_key_in timers = text_of_number (keyed owner_key_of timers)

-- the owner of a number; 0 where no timer has it
abbrev pub owner_in : List Timer → ℕ → ℕ
owner_in timers number = option_map_or (λ (timer : Timer). timer.owner) (find (λ (timer : Timer). nat_eq timer.order number) timers) 0

-- the keys of numbers rise
abbrev pub DueKeysRise : List Timer → List ℕ → Type 0
DueKeysRise timers numbers = RisesBy key_cmp (due_key_in timers) numbers

abbrev pub OwnerKeysRise : List Timer → List ℕ → Type 0
OwnerKeysRise timers numbers = RisesBy key_cmp (owner_key_in timers) numbers

-- what is due then, of this number, is at this place of the numbers, or would go there
abbrev pub IsDueAt : List Timer → List ℕ → ℕ → ℕ → ℕ → Type 0
IsDueAt timers numbers due order place = IsAt key_cmp (due ∷ order ∷ []) place (map (due_key_in timers) numbers)

abbrev pub IsDueGap : List Timer → List ℕ → ℕ → ℕ → ℕ → Type 0
IsDueGap timers numbers due order place = IsAbsentAt key_cmp (due ∷ order ∷ []) place (map (due_key_in timers) numbers)

-- what has this owner, id and number is at this place of the numbers, or would go there
abbrev pub IsOwnerAt : List Timer → List ℕ → ℕ → Option (List ℕ) → ℕ → ℕ → Type 0
IsOwnerAt timers numbers owner id order place = IsAt key_cmp (owner_key owner id order) place (map (owner_key_in timers) numbers)

abbrev pub IsOwnerGap : List Timer → List ℕ → ℕ → Option (List ℕ) → ℕ → ℕ → Type 0
IsOwnerGap timers numbers owner id order place = IsAbsentAt key_cmp (owner_key owner id order) place (map (owner_key_in timers) numbers)

-- how the key of a number stands to that of what has this owner, id and number
abbrev pub owner_compared : List Timer → ℕ → ℕ → Option (List ℕ) → ℕ → Ordering
owner_compared timers number owner id order = key_cmp (owner_key_in timers number) (owner_key owner id order)

-- the number is one of this owner's
abbrev pub IsNumberOf : ℕ → List Timer → List ℕ → ℕ → Type 0
IsNumberOf owner timers numbers number = IsIn number numbers × (owner_in timers number ≡ owner)

-- no number is one of this owner's
abbrev pub NoneIsOf : ℕ → List Timer → List ℕ → Type 0
NoneIsOf owner timers numbers = (number : ℕ) → IsIn number numbers → owner_in timers number ≡ owner → ⊥
