-- Which transitions a node has for an event, in the order in which they are looked at.
use Rattle.std.specs.Prelude.{◌⊎◌, ◌≡◌, ◌==◌, ℕ, zero, suc, Bool, true, not, List, [], ◌∷◌, ◌++◌, length, map, filter, take, codes, slice_get}
use Rattle.std.specs.List.{enumerate_from, flat_map}
use Rattle.std.specs.Option.{option_map_or}
use Rattle.std.specs.Str.{bytes_eq}
use Rattle.xs_data.specs.Ascii.{full_stop}
use Rattle.guard_eval.specs.declared.transition.Transition.{Transition}

-- ---- descriptors

-- a descriptor matches a type: it is equal to it, or `*`, or `P.*` where the type is P or begins with `P.`
pub data Matches (type : List ℕ) : List ℕ → Type 0 where
  equal : Matches type type
  partial : {part : List ℕ} (rest : List ℕ) → (type ≡ part) ⊎ (type ≡ part ++ codes "." ++ rest)
      → Matches type (part ++ codes ".*")
  any : Matches type (codes "*")

-- a partial wildcard may stand behind so many bytes of a type: behind all, or behind those before a dot
abbrev pub ends_part : List ℕ → ℕ → Bool
ends_part type count = option_map_or (λ byte. byte == full_stop) (slice_get type count) true

-- the numbers below n, from the greatest down
abbrev pub countdown : ℕ → List ℕ
countdown zero = []
countdown (suc n) = n ∷ countdown n

-- the partial wildcards that match a type, from the longest to the shortest
abbrev pub partial_wildcards : List ℕ → List (List ℕ)
partial_wildcards type = map (λ count. take count type ++ codes ".*") (filter (ends_part type) (countdown (suc (length type))))

-- the descriptors that match a type, in the order in which they are looked at: the type itself, partial wildcards, and `*`
abbrev pub descriptors_of : List ℕ → List (List ℕ)
descriptors_of type = type ∷ filter (λ (descriptor : List ℕ). not (bytes_eq type descriptor)) (partial_wildcards type ++ codes "*" ∷ [])

-- ---- candidates

-- a transition with its place in the list of its node
abbrev pub Candidate : Type 0
Candidate = ℕ × Transition

-- the candidates with this descriptor, in the order of the list
abbrev pub candidates_under : List Transition → List ℕ → List Candidate
candidates_under transitions descriptor = filter (λ (candidate : Candidate). bytes_eq candidate.1.descriptor descriptor) (enumerate_from 0 transitions)

-- the candidates for an event of this type
abbrev pub candidates_for : List Transition → List ℕ → List Candidate
candidates_for transitions type = flat_map (candidates_under transitions) (descriptors_of type)
