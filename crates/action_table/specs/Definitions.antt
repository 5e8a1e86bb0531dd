-- What the rules of an office read of its definitions.
use Rattle.std.specs.Prelude.{ℕ, List, None, Some, map}
use Rattle.std.specs.List.{filter}
use Rattle.office_types.specs.Definitions.{ActorLogic, MachineOutline, OfficeDefinitions}
use Rattle.guard_eval.specs.declared.def.Def.{Def}
use Rattle.guard_eval.specs.declared.def.Invocation.{Invocation}
use Rattle.guard_eval.specs.declared.def.NodeDef.{NodeDef}
use Rattle.action_table.specs.declared.definitions.Actor.{Actor}
use Rattle.action_table.specs.declared.definitions.Actor.TheVariants as actor
use Rattle.action_table.specs.declared.definitions.Defs.{Defs}

-- the ids of a node's invocations with `onSnapshot`
abbrev pub observed_ids : NodeDef → List (List ℕ)
observed_ids node =
    map (λ (invocation : Invocation). invocation.id) (filter (λ (invocation : Invocation). invocation.observed) node.invoke)

abbrev pub machine_outline : Def → MachineOutline
machine_outline def = record { id = def.name; nodes = def.tree; observed = map observed_ids def.nodes }

abbrev pub actor_logic : List ℕ × Actor → ActorLogic
actor_logic (name, actor.Machine number) = record { name = name; machine = Some number }
actor_logic (name, actor.Promise) = record { name = name; machine = None }

-- machines and actors by their numbers
abbrev pub office_definitions : Defs → OfficeDefinitions
office_definitions defs = record { machines = map machine_outline defs.defs; actors = map actor_logic defs.actors }
