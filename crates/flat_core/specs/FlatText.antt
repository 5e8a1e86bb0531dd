-- An office of flat machines as a JSON value: what the value means, if it is such an office.
use Rattle.std.specs.Prelude.{◌≡◌, ℕ, Bool, true, not, ◌&&◌, ◌==◌, List, [], ◌∷◌, map, length, Option, None, Some, Result, Ok, Err, ⊤, codes, find, position, option_map, option_and_then, slice_index, nat_eq, nat_lt, if◌then◌else◌}
use Rattle.std.specs.List.{list_all, list_any, ends_with}
use Rattle.std.specs.Str.{bytes_eq}
use Rattle.xs_data.specs.Ascii.{full_stop, number_sign}
use Rattle.ordered_json.specs.declared.json.OrderedJson.{OrderedJson}
use Rattle.ordered_json.specs.Words.{MemberParts, as_text, as_list, as_object, as_object_of, get, get_text, get_list, get_object}
use Rattle.flat_core.specs.declared.flat.FlatTransition.{FlatTransition}
use Rattle.flat_core.specs.declared.flat.FlatState.{FlatState}
use Rattle.flat_core.specs.declared.flat.FlatMachine.{FlatMachine}
use Rattle.flat_core.specs.declared.flat_text.FlatFault.{FlatFault}
use Rattle.flat_core.specs.declared.flat_text.FlatFault.TheVariants.{NotFlat, Memory}

-- each step needs the ones before it
infixl 10 ◌>>=◌
abbrev pub ◌>>=◌ : {A B : Type 0} → Option A → (A → Option B) → Option B
found >>= next = option_and_then next found

-- the value, if the test holds
abbrev pub only_if : {A : Type 0} → Bool → A → Option A
only_if test value = if test then Some value else None

-- the keys of members, in order
abbrev pub member_keys : List MemberParts → List (List ℕ)
member_keys members = map (λ member. member.key) members

-- what each value of a list means, if each has a meaning
abbrev pub each_of : {X Y : Type 0} → (X → Option Y) → List X → Option (List Y)
each_of meaning [] = Some []
each_of meaning (x ∷ xs) = do
  y ← meaning x
  ys ← each_of meaning xs
  Some (y ∷ ys)

-- an event type, and no wildcard
abbrev pub is_descriptor : List ℕ → Bool
is_descriptor key = not (bytes_eq key (codes "*")) && not (ends_with nat_eq key (codes ".*"))

-- a key that a target can name
abbrev pub is_state_key : List ℕ → Bool
is_state_key key =
    nat_lt 0 (length key)
    && (not (list_any (λ b. b == full_stop) key) && not (slice_index key 0 == number_sign))

-- where a state stands among the keys
unfoldable pub place_of_state : List (List ℕ) → List ℕ → Option ℕ
place_of_state keys key = position (λ k. bytes_eq k key) keys

-- a transition: a descriptor, and the key of a sibling
abbrev pub transition_of : List (List ℕ) → MemberParts → Option FlatTransition
transition_of keys member = do
  target ← as_text member.value
  state ← place_of_state keys target
  only_if (is_descriptor member.key) (record { descriptor = member.key; state = state })

-- the transitions of a state, none where it has no `on`
abbrev pub flat_transitions_of : List (List ℕ) → Option OrderedJson → Option (List FlatTransition)
flat_transitions_of keys None = Some []
flat_transitions_of keys (Some on) = do
  members ← as_object on
  each_of (transition_of keys) members

-- a state: an object with `on` at most
abbrev pub state_of : List (List ℕ) → MemberParts → Option FlatState
state_of keys member = do
  fields ← as_object_of (codes "on" ∷ []) member.value
  transitions ← flat_transitions_of keys (get (codes "on") fields)
  only_if (is_state_key member.key) (record { key = member.key; transitions = transitions })

-- a machine: an `id` that isn't empty, states, and the key of the initial one
abbrev pub machine_in : OrderedJson → Option FlatMachine
machine_in json = do
  fields ← as_object_of (codes "id" ∷ codes "initial" ∷ codes "states" ∷ []) json
  id ← get_text (codes "id") fields
  initial ← get_text (codes "initial") fields
  members ← get_object (codes "states") fields
  states ← each_of (state_of (member_keys members)) members
  place ← place_of_state (member_keys members) initial
  only_if (nat_lt 0 (length id)) (record { id = id; initial = place; states = states })

-- no text stands twice
abbrev pub are_distinct : List (List ℕ) → Bool
are_distinct [] = true
are_distinct (text ∷ texts) = not (list_any (bytes_eq text) texts) && are_distinct texts

-- an office: machines of distinct ids, and implementations, which are empty
abbrev pub office_in : OrderedJson → Option (List FlatMachine)
office_in json = do
  fields ← as_object_of (codes "machines" ∷ codes "implementations" ∷ []) json
  texts ← get_list (codes "machines") fields
  implementations ← get_object (codes "implementations") fields
  machines ← each_of machine_in texts
  only_if
      (nat_eq (length implementations) 0 && are_distinct (map (λ machine. machine.id) machines))
      machines

-- What was read is what the value means, or the value has no such meaning; memory may run out anywhere.
abbrev pub ReadsOffice : {X : Type 0} → Option X → Result X FlatFault → Type 0
ReadsOffice meaning (Ok x) = meaning ≡ Some x
ReadsOffice meaning (Err NotFlat) = meaning ≡ None
ReadsOffice meaning (Err Memory) = ⊤
