-- Where a name is used for which nothing stands, one use after another.
use Rattle.std.specs.Prelude.{ℕ, Bool, List, [], ◌∷◌, Option, None, Some, is_some, if◌then◌else◌}
use Rattle.xs_model.specs.Rising.{get}
use Rattle.machine_json.specs.declared.machine.Named.{Named}
use Rattle.action_table.specs.declared.table.Table.{Table}
use Rattle.action_table.specs.Linking.{actor_number, machine_number}
use Rattle.action_table.specs.TablePlaces.{least_of}
use Rattle.action_table.specs.Uses.{Use}

-- the place of a name, unless something stands for it
abbrev pub place_unless : Bool → Named → Option ℕ
place_unless stands named = if stands then None else Some named.place

-- the place of a use for which nothing stands
abbrev pub unnamed_at : List (List ℕ × ℕ) → Table → Use → Option ℕ
unnamed_at ids table (Use.OfGuard named) = place_unless (is_some (get named.name table.guards)) named
unnamed_at ids table (Use.OfAction named) = place_unless (is_some (get named.name table.actions)) named
unnamed_at ids table (Use.OfDelay named) = place_unless (is_some (get named.name table.delays)) named
unnamed_at ids table (Use.OfActor named) = place_unless (is_some (actor_number table named.name)) named
unnamed_at ids table (Use.OfMachine named) = place_unless (is_some (machine_number ids named.name)) named

-- the least of these places
abbrev pub least_unnamed : List (List ℕ × ℕ) → Table → List Use → Option ℕ
least_unnamed ids table [] = None
least_unnamed ids table (used ∷ uses) = least_of (unnamed_at ids table used) (least_unnamed ids table uses)
