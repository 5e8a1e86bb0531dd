-- What linking is: each name of a machine is replaced by what the table has under it.
use Rattle.std.specs.Prelude.{◌≡◌, ℕ, List, [], ◌∷◌, Option, None, Some, map, position}
use Rattle.std.specs.List.{AllZip, flat_map}
use Rattle.std.specs.Option.{option_and_then, option_map}
use Rattle.std.specs.Str.{bytes_eq}
use Rattle.xs_model.specs.declared.action.Action.{Action}
use Rattle.xs_model.specs.declared.action.Action.TheVariants as action
use Rattle.xs_model.specs.declared.action.ActionItem.{ActionItem}
use Rattle.xs_model.specs.declared.action.ActionItem.TheVariants as item
use Rattle.xs_model.specs.declared.expr.Expr.{Expr}
use Rattle.xs_model.specs.declared.expr.Expr.TheVariants as expression
use Rattle.xs_model.specs.declared.value.Value.{Value}
use Rattle.xs_model.specs.Rising.{get}
use Rattle.guard_eval.specs.declared.def.Def.{Def}
use Rattle.guard_eval.specs.declared.def.Invocation.{Invocation}
use Rattle.guard_eval.specs.declared.def.NodeDef.{NodeDef}
use Rattle.guard_eval.specs.declared.guard.GuardUse.{GuardUse}
use Rattle.guard_eval.specs.declared.guard.GuardUse.TheVariants as guard
use Rattle.guard_eval.specs.declared.transition.ActionUse.{ActionUse}
use Rattle.guard_eval.specs.declared.transition.Transition.{Transition}
use Rattle.machine_json.specs.declared.machine.Machine.{Machine}
use Rattle.machine_json.specs.declared.machine.UnlinkedAction.{UnlinkedAction}
use Rattle.machine_json.specs.declared.machine.UnlinkedDelay.{UnlinkedDelay}
use Rattle.machine_json.specs.declared.machine.UnlinkedDelay.TheVariants.{Milliseconds, Named as a_name}
use Rattle.machine_json.specs.declared.machine.UnlinkedGuard.{UnlinkedGuard, fold-UnlinkedGuard}
use Rattle.machine_json.specs.declared.machine.UnlinkedGuard.TheOpen.{UnlinkedGuard-F}
use Rattle.machine_json.specs.declared.machine.UnlinkedInvocation.{UnlinkedInvocation}
use Rattle.machine_json.specs.declared.machine.UnlinkedNode.{UnlinkedNode}
use Rattle.machine_json.specs.declared.machine.UnlinkedTransition.{UnlinkedTransition}
use Rattle.action_table.specs.declared.definitions.Actor.{Actor}
use Rattle.action_table.specs.declared.definitions.Actor.TheVariants as actor
use Rattle.action_table.specs.declared.definitions.Defs.{Defs}
use Rattle.action_table.specs.declared.table.Table.{Table}
use Rattle.action_table.specs.declared.table.TableActor.{TableActor}
use Rattle.action_table.specs.declared.table.TableActor.TheVariants as table_actor
use Rattle.action_table.specs.declared.table.UnlinkedForm.{UnlinkedForm}
use Rattle.action_table.specs.declared.table.UnlinkedForm.TheFolds.{fold-UnlinkedForm, fold-UnlinkedItem}
use Rattle.action_table.specs.declared.table.UnlinkedForm.TheOpen.{UnlinkedForm-F, UnlinkedItem-F}
use Rattle.action_table.specs.declared.table.UnlinkedItem.{UnlinkedItem}
use Rattle.action_table.specs.DefNames.{ids_of_machines}

-- all of these, if each is there
abbrev pub all_there : {X : Type 0} → List (Option X) → Option (List X)
all_there [] = Some []
all_there (first ∷ others) = option_and_then (λ x. option_map (λ xs. x ∷ xs) (all_there others)) first

-- the number of an actor of the table: its place there
abbrev pub actor_number : Table → List ℕ → Option ℕ
actor_number table name = position (λ (row : List ℕ × TableActor). bytes_eq name row.0) table.actors

-- the number of the machine with this id: its place among the ids of the machines
abbrev pub machine_number : List (List ℕ × ℕ) → List ℕ → Option ℕ
machine_number ids id = position (λ (row : List ℕ × ℕ). bytes_eq id row.0) ids

-- ---- guards

-- a guard whose parts are linked so
abbrev pub linked_guard_form : Table → UnlinkedGuard-F (Option GuardUse) → Option GuardUse
linked_guard_form table (UnlinkedGuard-F.Test named params) =
    option_map (λ expr. guard.Test expr params) (get named.name table.guards)
linked_guard_form table (UnlinkedGuard-F.And parts) = option_map guard.And (all_there parts)
linked_guard_form table (UnlinkedGuard-F.Or parts) = option_map guard.Or (all_there parts)
linked_guard_form table (UnlinkedGuard-F.Not part) = option_map guard.Not part
linked_guard_form table (UnlinkedGuard-F.In node) = Some (guard.In node)

abbrev pub linked_guard : Table → UnlinkedGuard → Option GuardUse
linked_guard table = fold-UnlinkedGuard (Option GuardUse) (linked_guard_form table)

-- ---- actions

-- an item whose parts are linked so
abbrev pub linked_item_of : UnlinkedItem-F (Option Action) (Option ActionItem) → Option ActionItem
linked_item_of (UnlinkedItem-F.Do form) = option_map item.Do form
linked_item_of (UnlinkedItem-F.If test then_items else_items) =
    option_and_then (λ holds. option_map (λ fails. item.If test holds fails) (all_there else_items)) (all_there then_items)

-- a form whose parts are linked so
abbrev pub linked_form_of : Table → UnlinkedForm-F (Option Action) (Option ActionItem) → Option Action
linked_form_of table (UnlinkedForm-F.Assign values) = Some (action.Assign values)
linked_form_of table (UnlinkedForm-F.Raise event delay id) = Some (action.Raise event delay id)
linked_form_of table (UnlinkedForm-F.SendTo target event delay id) = Some (action.SendTo target event delay id)
linked_form_of table (UnlinkedForm-F.Cancel id) = Some (action.Cancel id)
linked_form_of table (UnlinkedForm-F.SpawnChild src id input system) =
    option_map (λ number. action.SpawnChild number id input system) (actor_number table src.name)
linked_form_of table (UnlinkedForm-F.StopChild id) = Some (action.StopChild id)
linked_form_of table (UnlinkedForm-F.EnqueueActions items) = option_map action.EnqueueActions (all_there items)

abbrev pub linked_form : Table → UnlinkedForm → Option Action
linked_form table = fold-UnlinkedForm (Option Action) (Option ActionItem) (linked_form_of table) linked_item_of

abbrev pub linked_item : Table → UnlinkedItem → Option ActionItem
linked_item table = fold-UnlinkedItem (Option Action) (Option ActionItem) (linked_form_of table) linked_item_of

-- an action as it is used with these params
abbrev pub used_with : Value → Action → ActionUse
used_with params action = record { action = action; params = params }

-- a form as it is used with these params
abbrev pub linked_use : Table → Value → UnlinkedForm → Option ActionUse
linked_use table params form = option_map (used_with params) (linked_form table form)

-- the uses of an action of a machine: one for each form that the table has under its name, each with the params of the use
abbrev pub linked_action : Table → UnlinkedAction → Option (List ActionUse)
linked_action table used =
    option_and_then (λ (forms : List UnlinkedForm). all_there (map (linked_use table used.params) forms)) (get used.action.name table.actions)

-- the uses of several actions, one after the other
abbrev pub linked_actions : Table → List UnlinkedAction → Option (List ActionUse)
linked_actions table used = option_map (flat_map (λ (uses : List ActionUse). uses)) (all_there (map (linked_action table) used))

-- ---- transitions, delays, invocations

-- a guard, where there is one
abbrev pub linked_guard_or : Table → Option UnlinkedGuard → Option (Option GuardUse)
linked_guard_or table None = Some None
linked_guard_or table (Some unlinked) = option_map Some (linked_guard table unlinked)

abbrev pub linked_transition : Table → UnlinkedTransition → Option Transition
linked_transition table unlinked =
    option_and_then
    (λ (guard_use : Option GuardUse). option_map
    (λ (uses : List ActionUse). record {
      source = unlinked.source;
      descriptor = unlinked.descriptor;
      targets = unlinked.targets;
      reenter = unlinked.reenter;
      guard = guard_use;
      actions = uses;
    })
    (linked_actions table unlinked.actions))
    (linked_guard_or table unlinked.guard)

abbrev pub linked_transitions : Table → List UnlinkedTransition → Option (List Transition)
linked_transitions table unlinked = all_there (map (linked_transition table) unlinked)

-- how long a delay is: its milliseconds, or the expression that the table has under its name
abbrev pub linked_delay : Table → UnlinkedDelay → Option Expr
linked_delay table (Milliseconds milliseconds) = Some (expression.Int milliseconds)
linked_delay table (a_name named) = get named.name table.delays

-- the type of the event after a delay, and how long the delay is
abbrev pub linked_after : Table → List ℕ × UnlinkedDelay → Option (List ℕ × Expr)
linked_after table after = option_map (λ delay. (after.0, delay)) (linked_delay table after.1)

abbrev pub linked_invocation : Table → UnlinkedInvocation → Option Invocation
linked_invocation table unlinked =
    option_map
    (λ (number : ℕ). record {
      id = unlinked.id;
      src = number;
      input = unlinked.input;
      system = unlinked.system;
      observed = unlinked.observed;
    })
    (actor_number table unlinked.src.name)

-- ---- nodes and machines

-- what is said of a node is the same with each name linked
pub record IsLinkedNode (table : Table) (unlinked : UnlinkedNode) (node : NodeDef) : Type 0 where
  pub entry : linked_actions table unlinked.entry ≡ Some node.entry
  pub exit : linked_actions table unlinked.exit ≡ Some node.exit
  pub transitions : linked_transitions table unlinked.transitions ≡ Some node.transitions
  pub always : linked_transitions table unlinked.always ≡ Some node.always
  pub after : all_there (map (linked_after table) unlinked.after) ≡ Some node.after
  pub invoke : all_there (map (linked_invocation table) unlinked.invoke) ≡ Some node.invoke
  pub output : node.output ≡ unlinked.output
  pub tags : node.tags ≡ unlinked.tags

-- a machine with each name linked
pub record IsLinkedMachine (table : Table) (machine : Machine) (def : Def) : Type 0 where
  pub name : def.name ≡ machine.name
  pub tree : def.tree ≡ machine.tree
  pub context : def.context ≡ machine.context
  pub output : def.output ≡ machine.output
  pub nodes : AllZip (IsLinkedNode table) machine.nodes def.nodes

-- what starts where an actor is named, with its machine's number
abbrev pub linked_logic : List (List ℕ × ℕ) → TableActor → Option Actor
linked_logic ids (table_actor.Machine named) = option_map actor.Machine (machine_number ids named.name)
linked_logic ids table_actor.Promise = Some actor.Promise

-- a row of the table of actors with its machine's number
abbrev pub linked_actor : List (List ℕ × ℕ) → List ℕ × TableActor → Option (List ℕ × Actor)
linked_actor ids row = option_map (λ (logic : Actor). (row.0, logic)) (linked_logic ids row.1)

-- machines and a table with each name linked, each machine and each actor at its own place
pub record AreLinkedTo (machines : List Machine) (table : Table) (defs : Defs) : Type 0 where
  pub machines_are : AllZip (IsLinkedMachine table) machines defs.defs
  pub actors_are : all_there (map (linked_actor (ids_of_machines machines)) table.actors) ≡ Some defs.actors
