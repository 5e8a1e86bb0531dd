-- Linking a machine that was read gives a well-formed definition.
use Rattle.std.proofs.Common.{◌≡◌, ℕ, ◌<◌, List, Option, None, Some, All, IfSome, length, map, get_or, refl, sym, ap, ◌∙◌, subst}
use Rattle.std.specs.List.{AllByRecursion, AllZip, flat_map}
use Rattle.std.specs.Option.{option_map}
use Rattle.std.proofs.lemmas.List.Elements.{All-from_recursion, recursion_from_All}
use Rattle.std.proofs.lemmas.Option.{slice_get-get_or}
use Rattle.xs_model.specs.Rising.{get}
use Rattle.xs_model.specs.declared.expr.Expr.{Expr}
use Rattle.node_tree.specs.declared.node.Node.{Node}
use Rattle.step_sets.specs.Statechart.{DoNotClash}
use Rattle.guard_eval.specs.Definitions.{AsksForNodes, HasAfterTypes, IsAfterType, IsNodeOf, IsTransitionOf, IsWellFormed, StartsActors, transitions_of}
use Rattle.guard_eval.specs.declared.def.Def.{Def}
use Rattle.guard_eval.specs.declared.def.Invocation.{Invocation}
use Rattle.guard_eval.specs.declared.def.NodeDef.{NodeDef}
use Rattle.guard_eval.specs.declared.guard.GuardUse.{GuardUse}
use Rattle.guard_eval.specs.declared.transition.ActionUse.{ActionUse}
use Rattle.guard_eval.specs.declared.transition.Transition.{Transition}
use Rattle.machine_json.specs.declared.machine.Machine.{Machine}
use Rattle.machine_json.specs.declared.machine.UnlinkedAction.{UnlinkedAction}
use Rattle.machine_json.specs.declared.machine.UnlinkedDelay.{UnlinkedDelay}
use Rattle.machine_json.specs.declared.machine.UnlinkedGuard.{UnlinkedGuard}
use Rattle.machine_json.specs.declared.machine.UnlinkedInvocation.{UnlinkedInvocation}
use Rattle.machine_json.specs.declared.machine.UnlinkedNode.{UnlinkedNode}
use Rattle.machine_json.specs.declared.machine.UnlinkedTransition.{UnlinkedTransition}
use Rattle.machine_json.specs.ReadMachine.{GuardStaysInside, HasUnlinkedAfterTypes, IsReadMachine, StaysInside, unlinked_transitions}
use Rattle.action_table.specs.declared.table.Table.{Table}
use Rattle.action_table.specs.declared.table.UnlinkedForm.{UnlinkedForm}
use Rattle.action_table.specs.Linking.{IsLinkedMachine, IsLinkedNode, actor_number, all_there, linked_action, linked_actions, linked_after, linked_delay, linked_form, linked_guard, linked_guard_or, linked_invocation, linked_transition, linked_transitions, linked_use, used_with}
use Rattle.action_table.proofs.AskLemmas.{guard-keeps}
use Rattle.action_table.proofs.StartLemmas.{form-starts, number-inside}
use Rattle.action_table.proofs.ThereLemmas.{joined-each, map-some, then-some, there-each, there-zip, zip-append, zip-at, zip-each, zip-length, zip-nil, zip-weaker}

module _ (table : Table) where
  abbrev actors : ℕ
  actors = length table.actors

  -- ---- actions

  use-starts : (params : _) (form : UnlinkedForm) (linked : ActionUse) → linked_use table params form ≡ Some linked → StartsActors actors linked
  use-starts params form linked is =
      let found = map-some (used_with params) (linked_form table form) linked is in
      subst (StartsActors actors) found.2 (form-starts table form found.0 found.1)

  action-starts : (used : UnlinkedAction) (linked : List ActionUse) → linked_action table used ≡ Some linked → AllByRecursion (StartsActors actors) linked
  action-starts used linked is =
      let forms = then-some (λ (forms : List UnlinkedForm). all_there (map (linked_use table used.params) forms)) (get used.action.name table.actions) linked is in
      there-each (linked_use table used.params) (StartsActors actors) (use-starts used.params) forms.0 linked forms.2

  actions-start : (used : List UnlinkedAction) (linked : List ActionUse) → linked_actions table used ≡ Some linked → All (StartsActors actors) linked
  actions-start used linked is =
      let lists = map-some (flat_map (λ (uses : List ActionUse). uses)) (all_there (map (linked_action table) used)) linked is in
      All-from_recursion (StartsActors actors) linked
      (subst (AllByRecursion (StartsActors actors)) lists.2
      (joined-each (StartsActors actors) lists.0 (there-each (linked_action table) (AllByRecursion (StartsActors actors)) action-starts used lists.0 lists.1)))

  -- ---- transitions

  record IsLinkedTransition (unlinked : UnlinkedTransition) (transition : Transition) : Type 0 where
    source : transition.source ≡ unlinked.source
    targets : transition.targets ≡ unlinked.targets
    guard : linked_guard_or table unlinked.guard ≡ Some transition.guard
    actions : linked_actions table unlinked.actions ≡ Some transition.actions

  is-linked : (unlinked : UnlinkedTransition) (transition : Transition) → linked_transition table unlinked ≡ Some transition → IsLinkedTransition unlinked transition
  is-linked unlinked transition is =
      let made : Option GuardUse → List ActionUse → Transition = λ guard_use uses. record {
        source = unlinked.source;
        descriptor = unlinked.descriptor;
        targets = unlinked.targets;
        reenter = unlinked.reenter;
        guard = guard_use;
        actions = uses;
      } in
      let guard_use = then-some (λ (guard_use : Option GuardUse). option_map (λ (uses : List ActionUse). made guard_use uses) (linked_actions table unlinked.actions)) (linked_guard_or table unlinked.guard) transition is in
      let uses = map-some (λ (uses : List ActionUse). made guard_use.0 uses) (linked_actions table unlinked.actions) transition guard_use.2 in
      subst (IsLinkedTransition unlinked) uses.2 (record { source = refl; targets = refl; guard = guard_use.1; actions = uses.1 })

  guard-asks : (nodes : ℕ) (unlinked : Option UnlinkedGuard) (linked : Option GuardUse) → IfSome unlinked (GuardStaysInside nodes) → linked_guard_or table unlinked ≡ Some linked → IfSome linked (AsksForNodes nodes)
  guard-asks nodes None linked inside is = let none : None ≡ linked = cc in subst (λ o. IfSome o (AsksForNodes nodes)) none tt
  guard-asks nodes (Some unlinked) linked inside is =
      let found = map-some Some (linked_guard table unlinked) linked is in
      subst (λ o. IfSome o (AsksForNodes nodes)) found.2 (guard-keeps table nodes unlinked found.0 inside found.1)

  transition-stays : (nodes : ℕ) (unlinked : UnlinkedTransition) (transition : Transition) → IsLinkedTransition unlinked transition → StaysInside nodes unlinked → IsTransitionOf nodes actors transition
  transition-stays nodes unlinked transition linked inside = record {
    source = subst (λ s. s < nodes) (sym linked.source) inside.source;
    targets = subst (All (λ target. target < nodes)) (sym linked.targets) inside.targets;
    guard = guard-asks nodes unlinked.guard transition.guard inside.guard linked.guard;
    actions = actions-start unlinked.actions transition.actions linked.actions;
  }

  -- ---- nodes

  node-transitions : (unlinked : UnlinkedNode) (node : NodeDef) → IsLinkedNode table unlinked node → AllZip IsLinkedTransition (unlinked_transitions unlinked) (transitions_of node)
  node-transitions unlinked node linked =
      zip-append IsLinkedTransition unlinked.transitions unlinked.always node.transitions node.always
      (zip-weaker-linked unlinked.transitions node.transitions linked.transitions) (zip-weaker-linked unlinked.always node.always linked.always)
    where
      zip-weaker-linked : (us : List UnlinkedTransition) (ts : List Transition) → linked_transitions table us ≡ Some ts → AllZip IsLinkedTransition us ts
      zip-weaker-linked us ts is = zip-weaker (λ (u : UnlinkedTransition) (t : Transition). linked_transition table u ≡ Some t) IsLinkedTransition is-linked us ts (there-zip (linked_transition table) us ts is)

  -- what holds of each transition of the node gives what holds of each that it is linked to
  each-transition : (P : UnlinkedTransition → Type 0) (Q : Transition → Type 0) → ((u : UnlinkedTransition) (t : Transition) → IsLinkedTransition u t → P u → Q t)
      → (unlinked : UnlinkedNode) (node : NodeDef) → IsLinkedNode table unlinked node → All P (unlinked_transitions unlinked) → All Q (transitions_of node)
  each-transition P Q gives unlinked node linked all =
      All-from_recursion Q (transitions_of node)
      (zip-each IsLinkedTransition P Q gives (unlinked_transitions unlinked) (transitions_of node) (node-transitions unlinked node linked) (recursion_from_All P (unlinked_transitions unlinked) all))

  invocation-starts : (unlinked : UnlinkedInvocation) (invocation : Invocation) → linked_invocation table unlinked ≡ Some invocation → invocation.src < actors
  invocation-starts unlinked invocation is =
      let made : ℕ → Invocation = λ number. record {
        id = unlinked.id;
        src = number;
        input = unlinked.input;
        system = unlinked.system;
        observed = unlinked.observed;
      } in
      let found = map-some made (actor_number table unlinked.src.name) invocation is in
      subst (λ (i : Invocation). i.src < actors) found.2 (number-inside table unlinked.src.name found.0 found.1)

  node-stays : (nodes : ℕ) (unlinked : UnlinkedNode) (node : NodeDef) → IsLinkedNode table unlinked node → All (StaysInside nodes) (unlinked_transitions unlinked) → IsNodeOf nodes actors node
  node-stays nodes unlinked node linked inside = record {
    entry = actions-start unlinked.entry node.entry linked.entry;
    exit = actions-start unlinked.exit node.exit linked.exit;
    transitions = each-transition (StaysInside nodes) (IsTransitionOf nodes actors) (transition-stays nodes) unlinked node linked inside;
    invoke = All-from_recursion (λ (invocation : Invocation). invocation.src < actors) node.invoke
        (there-each (linked_invocation table) (λ (invocation : Invocation). invocation.src < actors) invocation-starts unlinked.invoke node.invoke linked.invoke);
  }

  -- ---- delays

  after-type : (after : List ℕ × UnlinkedDelay) (linked : List ℕ × Expr) → linked_after table after ≡ Some linked → IsAfterType after.0 → IsAfterType linked.0
  after-type after linked is kept =
      let found = map-some (λ (delay : Expr). (after.0, delay)) (linked_delay table after.1) linked is in
      subst (λ (l : List ℕ × Expr). IsAfterType l.0) found.2 kept

  after-types : (unlinked : UnlinkedNode) (node : NodeDef) → IsLinkedNode table unlinked node → HasUnlinkedAfterTypes unlinked → HasAfterTypes node
  after-types unlinked node linked kept =
      let each = recursion_from_All (λ (delay : List ℕ × UnlinkedDelay). IsAfterType delay.0) unlinked.after kept in
      All-from_recursion (λ (delay : List ℕ × Expr). IsAfterType delay.0) node.after
      (zip-each (λ (after : List ℕ × UnlinkedDelay) (linked : List ℕ × Expr). linked_after table after ≡ Some linked)
      (λ (delay : List ℕ × UnlinkedDelay). IsAfterType delay.0) (λ (delay : List ℕ × Expr). IsAfterType delay.0)
      after-type unlinked.after node.after (there-zip (linked_after table) unlinked.after node.after linked.after) each)

  -- ---- machines

  -- a definition with the machine's own tree
  on-tree : (machine : Machine) (def : Def) → IsReadMachine machine → AllZip (IsLinkedNode table) machine.nodes def.nodes → IsWellFormed actors (record def { tree = machine.tree })
  on-tree machine def read nodes = record {
    one_each = zip-length (IsLinkedNode table) machine.nodes def.nodes nodes ∙ read.one_each;
    numbers = λ n d within.
        let found = zip-at (IsLinkedNode table) machine.nodes def.nodes n (get_or def.nodes n d) nodes (slice_get-get_or def.nodes n d within) in
        node-stays (length machine.tree) found.0 (get_or def.nodes n d) found.2 (read.numbers n found.0 found.1);
    root = read.root;
    parents = read.parents;
    keys = read.keys;
    children = read.children;
    initials = read.initials;
    defaults = read.defaults;
    sources = λ n node said.
        let found = zip-at (IsLinkedNode table) machine.nodes def.nodes n node nodes said in
        each-transition (λ (u : UnlinkedTransition). u.source ≡ n) (λ (t : Transition). t.source ≡ n) (λ u t linked is. linked.source ∙ is) found.0 node found.2 (read.sources n found.0 found.1);
    passive = λ n node said kind.
        let found = zip-at (IsLinkedNode table) machine.nodes def.nodes n node nodes said in
        zip-nil IsLinkedTransition (transitions_of node)
        (subst (λ us. AllZip IsLinkedTransition us (transitions_of node)) (read.passive n found.0 found.1 kind) (node-transitions found.0 node found.2));
    after = All-from_recursion HasAfterTypes def.nodes
        (zip-each (IsLinkedNode table) HasUnlinkedAfterTypes HasAfterTypes after-types machine.nodes def.nodes nodes (recursion_from_All HasUnlinkedAfterTypes machine.nodes read.after));
    targets = λ n node said.
        let found = zip-at (IsLinkedNode table) machine.nodes def.nodes n node nodes said in
        each-transition (λ (u : UnlinkedTransition). DoNotClash machine.tree u.targets) (λ (t : Transition). DoNotClash machine.tree t.targets)
        (λ u t linked apart. subst (DoNotClash machine.tree) (sym linked.targets) apart) found.0 node found.2 (read.targets n found.0 found.1);
  }

  pub well-formed : (machine : Machine) (def : Def) → IsReadMachine machine → IsLinkedMachine table machine def → IsWellFormed actors def
  well-formed machine def read linked =
      subst (IsWellFormed actors) (ap (λ (tree : List Node). record def { tree = tree }) (sym linked.tree)) (on-tree machine def read linked.nodes)

  pub all-well-formed : (machines : List Machine) (defs : List Def) → All IsReadMachine machines → AllZip (IsLinkedMachine table) machines defs → All (IsWellFormed actors) defs
  all-well-formed machines defs read linked =
      All-from_recursion (IsWellFormed actors) defs
      (zip-each (IsLinkedMachine table) IsReadMachine (IsWellFormed actors) (λ machine def linked read. well-formed machine def read linked) machines defs linked (recursion_from_All IsReadMachine machines read))
