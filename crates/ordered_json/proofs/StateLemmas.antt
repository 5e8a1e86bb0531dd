-- The states in which the reader stands between tokens.
use Rattle.std.proofs.Common.{◌≡◌, [], ◌∷◌, ◌++◌, ℕ, Bool, true, false, List, Option, Some, Ok, refl}
use Rattle.std.specs.Bool.{⊤}
use Rattle.ordered_json.specs.declared.json.OrderedJson.{OrderedJson}
use Rattle.ordered_json.specs.declared.level.Level.{Level}
use Rattle.ordered_json.specs.declared.level.Level.TheVariants as level
use Rattle.ordered_json.specs.declared.mode.Mode.{Mode}
use Rattle.ordered_json.specs.declared.mode.Mode.TheVariants as mode
use Rattle.ordered_json.specs.declared.reader.Reader.{Reader}
use Rattle.ordered_json.specs.Words.{member_of}
use Rattle.ordered_json.specs.Grammar.{is_blank}
use Rattle.ordered_json.specs.Steps.{complete, between}

-- no string is being read
abbrev pub state : Mode → List Level → Option OrderedJson → Reader
state m ls o = record { levels = ls; mode = m; content = []; root = o }

-- a value is awaited inside these levels
abbrev pub Ready : List Level → Type 0
Ready [] = ⊤
Ready (level.List p items ∷ ls) = Ready ls
Ready (level.Object p members ∷ ls) = ⊥
Ready (level.Member p members key key_place ∷ ls) = Ready ls

-- the levels and the root once the value is read
abbrev pub levels_with : OrderedJson → List Level → List Level
levels_with json [] = []
levels_with json (level.List p items ∷ ls) = level.List p (items ++ json ∷ []) ∷ ls
levels_with json (level.Object p members ∷ ls) = level.Object p members ∷ ls
levels_with json (level.Member p members key key_place ∷ ls) = level.Object p (members ++ member_of key key_place json ∷ []) ∷ ls

abbrev pub root_with : OrderedJson → List Level → Option OrderedJson → Option OrderedJson
root_with json [] o = Some json
root_with json (l ∷ ls) o = o

abbrev pub finished : OrderedJson → List Level → Option OrderedJson → Reader
finished json ls o = state mode.After (levels_with json ls) (root_with json ls o)

pub complete_ready : (place : ℕ) (json : OrderedJson) (m : Mode) (ls : List Level) (o : Option OrderedJson) → Ready ls → complete place json (state m ls o) ≡ Ok (finished json ls o)
unfolding complete
complete_ready place json m [] o h = refl
complete_ready place json m (level.List p items ∷ ls) o h = refl
complete_ready place json m (level.Object p members ∷ ls) o h = absurd h
complete_ready place json m (level.Member p members key key_place ∷ ls) o h = refl

-- a value is awaited, and maybe the bracket of an array with none
abbrev pub awaiting : Bool → Mode
awaiting true = mode.FirstItem
awaiting false = mode.Value

-- white space changes nothing
pub blank_step : (m : Mode) (place b : ℕ) (ls : List Level) (o : Option OrderedJson) → is_blank b ≡ true → between place b (state m ls o) ≡ Ok (state m ls o)
unfolding between
blank_step m place b ls o h = rw h refl
