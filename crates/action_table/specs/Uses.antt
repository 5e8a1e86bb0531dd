-- Where names are used, and which of them nothing stands for.
use Rattle.std.specs.Prelude.{◌≡◌, ◌<◌, ℕ, List, [], ◌∷◌, ◌++◌, None, Some, Contains, slice_get}
use Rattle.std.specs.List.{flat_map}
use Rattle.std.specs.Option.{option_map_or}
use Rattle.xs_model.specs.Rising.{get}
use Rattle.machine_json.specs.declared.machine.Machine.{Machine}
use Rattle.machine_json.specs.declared.machine.Named.{Named}
use Rattle.machine_json.specs.declared.machine.UnlinkedAction.{UnlinkedAction}
use Rattle.machine_json.specs.declared.machine.UnlinkedDelay.{UnlinkedDelay}
use Rattle.machine_json.specs.declared.machine.UnlinkedDelay.TheVariants.{Milliseconds, Named as a_name}
use Rattle.machine_json.specs.declared.machine.UnlinkedGuard.{UnlinkedGuard, fold-UnlinkedGuard}
use Rattle.machine_json.specs.declared.machine.UnlinkedGuard.TheOpen.{UnlinkedGuard-F}
use Rattle.machine_json.specs.declared.machine.UnlinkedInvocation.{UnlinkedInvocation}
use Rattle.machine_json.specs.declared.machine.UnlinkedNode.{UnlinkedNode}
use Rattle.machine_json.specs.declared.machine.UnlinkedTransition.{UnlinkedTransition}
use Rattle.action_table.specs.declared.table.Table.{Table}
use Rattle.action_table.specs.declared.table.TableActor.{TableActor}
use Rattle.action_table.specs.declared.table.TableActor.TheVariants as table_actor
use Rattle.action_table.specs.declared.table.UnlinkedForm.{UnlinkedForm}
use Rattle.action_table.specs.declared.table.UnlinkedForm.TheFolds.{fold-UnlinkedForm, fold-UnlinkedItem}
use Rattle.action_table.specs.declared.table.UnlinkedForm.TheOpen.{UnlinkedForm-F, UnlinkedItem-F}
use Rattle.action_table.specs.declared.table.UnlinkedItem.{UnlinkedItem}
use Rattle.action_table.specs.DefNames.{ids_of_machines}
use Rattle.action_table.specs.Linking.{actor_number, machine_number}

-- a name by what it is looked up among
pub data Use : Type 0 where
  OfGuard : Named → Use
  OfAction : Named → Use
  OfDelay : Named → Use
  OfActor : Named → Use
  OfMachine : Named → Use

-- ---- of machines

abbrev pub uses_of_guard_form : UnlinkedGuard-F (List Use) → List Use
uses_of_guard_form (UnlinkedGuard-F.Test named params) = Use.OfGuard named ∷ []
uses_of_guard_form (UnlinkedGuard-F.And parts) = flat_map (λ (part : List Use). part) parts
uses_of_guard_form (UnlinkedGuard-F.Or parts) = flat_map (λ (part : List Use). part) parts
uses_of_guard_form (UnlinkedGuard-F.Not part) = part
uses_of_guard_form (UnlinkedGuard-F.In node) = []

-- the guards that a guard tests, at any depth
abbrev pub uses_of_guard : UnlinkedGuard → List Use
uses_of_guard = fold-UnlinkedGuard (List Use) uses_of_guard_form

abbrev pub uses_of_action : UnlinkedAction → List Use
uses_of_action used = Use.OfAction used.action ∷ []

abbrev pub uses_of_actions : List UnlinkedAction → List Use
uses_of_actions = flat_map uses_of_action

abbrev pub uses_of_transition : UnlinkedTransition → List Use
uses_of_transition transition = option_map_or uses_of_guard transition.guard [] ++ uses_of_actions transition.actions

abbrev pub uses_of_delay : List ℕ × UnlinkedDelay → List Use
uses_of_delay (type, Milliseconds milliseconds) = []
uses_of_delay (type, a_name named) = Use.OfDelay named ∷ []

abbrev pub uses_of_invocation : UnlinkedInvocation → List Use
uses_of_invocation invocation = Use.OfActor invocation.src ∷ []

-- what is used in what is said of a node
abbrev pub uses_of_node : UnlinkedNode → List Use
uses_of_node node =
    uses_of_actions node.entry ++ uses_of_actions node.exit
    ++ flat_map uses_of_transition node.transitions ++ flat_map uses_of_transition node.always
    ++ flat_map uses_of_delay node.after
    ++ flat_map uses_of_invocation node.invoke

abbrev pub uses_of_machine : Machine → List Use
uses_of_machine machine = flat_map uses_of_node machine.nodes

-- ---- of the table

abbrev pub uses_of_item_layer : UnlinkedItem-F (List Use) (List Use) → List Use
uses_of_item_layer (UnlinkedItem-F.Do form) = form
uses_of_item_layer (UnlinkedItem-F.If test then_items else_items) =
    flat_map (λ (item : List Use). item) then_items ++ flat_map (λ (item : List Use). item) else_items

abbrev pub uses_of_form_layer : UnlinkedForm-F (List Use) (List Use) → List Use
uses_of_form_layer (UnlinkedForm-F.SpawnChild src id input system) = Use.OfActor src ∷ []
uses_of_form_layer (UnlinkedForm-F.EnqueueActions items) = flat_map (λ (item : List Use). item) items
uses_of_form_layer _ = []

-- the actors that a form spawns, at any depth
abbrev pub uses_of_form : UnlinkedForm → List Use
uses_of_form = fold-UnlinkedForm (List Use) (List Use) uses_of_form_layer uses_of_item_layer

-- the actors that an item spawns, at any depth
abbrev pub uses_of_item : UnlinkedItem → List Use
uses_of_item = fold-UnlinkedItem (List Use) (List Use) uses_of_form_layer uses_of_item_layer

abbrev pub uses_of_table_actor : TableActor → List Use
uses_of_table_actor (table_actor.Machine named) = Use.OfMachine named ∷ []
uses_of_table_actor table_actor.Promise = []

abbrev pub uses_of_action_row : List ℕ × List UnlinkedForm → List Use
uses_of_action_row row = flat_map uses_of_form row.1

abbrev pub uses_of_actor_row : List ℕ × TableActor → List Use
uses_of_actor_row row = uses_of_table_actor row.1

abbrev pub uses_of_table : Table → List Use
uses_of_table table = flat_map uses_of_action_row table.actions ++ flat_map uses_of_actor_row table.actors

-- all names that machines and a table use
abbrev pub uses : List Machine → Table → List Use
uses machines table = flat_map uses_of_machine machines ++ uses_of_table table

-- ---- faults

-- nothing stands for the name, which is used at this place
abbrev pub IsUnnamedUse : List Machine → Table → Use → ℕ → Type 0
IsUnnamedUse machines table (Use.OfGuard named) place = (get named.name table.guards ≡ None) × (place ≡ named.place)
IsUnnamedUse machines table (Use.OfAction named) place = (get named.name table.actions ≡ None) × (place ≡ named.place)
IsUnnamedUse machines table (Use.OfDelay named) place = (get named.name table.delays ≡ None) × (place ≡ named.place)
IsUnnamedUse machines table (Use.OfActor named) place = (actor_number table named.name ≡ None) × (place ≡ named.place)
IsUnnamedUse machines table (Use.OfMachine named) place =
    (machine_number (ids_of_machines machines) named.name ≡ None) × (place ≡ named.place)

-- a name is used at this place for which nothing stands
abbrev pub IsUnnamed : List Machine → Table → ℕ → Type 0
IsUnnamed machines table place = (used : Use) × Contains (uses machines table) used × IsUnnamedUse machines table used place

-- a machine stands at this place whose id an earlier one has
abbrev pub IsTwice : List Machine → ℕ → Type 0
IsTwice machines place =
    (k earlier : ℕ) × (machine other : Machine) × (earlier < k) × (slice_get machines k ≡ Some machine) × (slice_get machines earlier ≡ Some other)
    × (machine.name ≡ other.name) × (machine.place ≡ place)
