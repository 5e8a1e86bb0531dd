-- What a machine text means in which neither pass finds a fault.
use Rattle.std.specs.Prelude.{◌≡◌, ◌⊎◌, ℕ, false, List, [], ◌∷◌, ◌++◌, Option, None, Some, ⊤, codes, length, map, option_and_then, option_map, slice_get, unwrap_or, if◌then◌else◌}
use Rattle.std.specs.List.{enumerate_from, flat_map}
use Rattle.std.specs.Option.{option_map_or}
use Rattle.ordered_json.specs.declared.json.OrderedJson.{OrderedJson}
use Rattle.ordered_json.specs.Words.{MemberParts, as_bool, as_text, get, get_object, place_of}
use Rattle.xs_model.specs.declared.expr.Expr.TheVariants as expression
use Rattle.xs_model.specs.declared.value.Value.TheVariants as value
use Rattle.node_tree.specs.declared.node.Node.{Node}
use Rattle.node_tree.specs.Kinds.{with_default}
use Rattle.machine_json.specs.declared.fault.MachineFault.{MachineFault}
use Rattle.machine_json.specs.declared.machine.Machine.{Machine}
use Rattle.machine_json.specs.declared.machine.UnlinkedGuard.{UnlinkedGuard}
use Rattle.machine_json.specs.declared.machine.UnlinkedGuard.TheVariants as guard
use Rattle.machine_json.specs.declared.machine.UnlinkedNode.{UnlinkedNode}
use Rattle.machine_json.specs.declared.machine.UnlinkedTransition.{UnlinkedTransition}
use Rattle.machine_json.specs.FirstFaults.{IsFirst}
use Rattle.machine_json.specs.FirstPass.{items_of}
use Rattle.machine_json.specs.MachineFaults.{machine_fault_number, machine_fault_place}
use Rattle.machine_json.specs.Meaning.{AreInvocations, MeansExprOr, actions_under, after_type, invoked_id, delays_of, invocation_texts, listed, named_of, params_of, tags_of}
use Rattle.machine_json.specs.NodeKinds.{members_of}
use Rattle.machine_json.specs.Nodes.{AreNodes, HasFirstPassFault, NodeParts}
use Rattle.machine_json.specs.Roles.{is_text}
use Rattle.machine_json.specs.Rows.{fields_in, node_id, open_rows, root_id}
use Rattle.machine_json.specs.SecondPass.{HasSecondPassFault, led_to}

-- ---- the tree

-- the node that the text of a history node names as its default, where it names one
abbrev pub named_default : List Node → ℕ → NodeParts → Option ℕ
named_default rows n node =
    option_map (λ target. unwrap_or (led_to rows n target) 0) (get (codes "target") (fields_in node))

-- a row with a default, where there is one and the row is a history node's
abbrev pub row_with_default : Option ℕ → Node → Node
row_with_default None row = row
row_with_default (Some default) row = record row { kind = with_default row.kind default }

-- a row with the default that the text of its node names, where it is a history node with a
-- `target`
abbrev pub with_named_default : List Node → ℕ → Node → NodeParts → Node
with_named_default rows n row node = row_with_default (named_default rows n node) row

-- the tree of a text with these nodes
pub record IsTreeOf (nodes : List NodeParts) (tree : List Node) : Type 0 where
  pub count : length tree ≡ length nodes
  pub rows : (n : ℕ) (node : NodeParts) (row : Node) → slice_get nodes n ≡ Some node
      → slice_get (open_rows nodes) n ≡ Some row
      → slice_get tree n ≡ Some (with_named_default (open_rows nodes) n row node)

-- ---- guards

mutual
  -- what a guard means whose text stands on the source
  pub data MeansGuard (rows : List Node) (source : ℕ) : OrderedJson → UnlinkedGuard → Type 0 where
    a_name : (json : OrderedJson) (text : List ℕ) → as_text json ≡ Some text
        → MeansGuard rows source json (guard.Test (named_of json) value.Null)
    with_type : (json : OrderedJson) (name : OrderedJson) → get (codes "type") (members_of json) ≡ Some name
        → MeansGuard rows source json (guard.Test (named_of name) (params_of (members_of json)))
    with_and : (json : OrderedJson) (list : OrderedJson) (parts : List UnlinkedGuard)
        → get (codes "and") (members_of json) ≡ Some list
        → MeansGuards rows source (items_of list) parts → MeansGuard rows source json (guard.And parts)
    with_or : (json : OrderedJson) (list : OrderedJson) (parts : List UnlinkedGuard)
        → get (codes "or") (members_of json) ≡ Some list
        → MeansGuards rows source (items_of list) parts → MeansGuard rows source json (guard.Or parts)
    with_not : (json : OrderedJson) (inner : OrderedJson) (part : UnlinkedGuard)
        → get (codes "not") (members_of json) ≡ Some inner
        → MeansGuard rows source inner part → MeansGuard rows source json (guard.Not part)
    with_state : (json : OrderedJson) (text : OrderedJson) (node : ℕ)
        → get (codes "stateIn") (members_of json) ≡ Some text → led_to rows source text ≡ Some node
        → MeansGuard rows source json (guard.In node)

  -- each guard of a list
  pub data MeansGuards (rows : List Node) (source : ℕ) : List OrderedJson → List UnlinkedGuard → Type 0 where
    no_guard : MeansGuards rows source [] []
    one_guard : (json : OrderedJson) (it : UnlinkedGuard) (jsons : List OrderedJson) (guards : List UnlinkedGuard)
        → MeansGuard rows source json it → MeansGuards rows source jsons guards
        → MeansGuards rows source (json ∷ jsons) (it ∷ guards)

-- a guard, where there is one
abbrev pub MeansGuardOr : List Node → ℕ → Option OrderedJson → Option UnlinkedGuard → Type 0
MeansGuardOr rows source None None = ⊤
MeansGuardOr rows source (Some json) (Some it) = MeansGuard rows source json it
MeansGuardOr rows source None (Some it) = ⊥
MeansGuardOr rows source (Some json) None = ⊥

-- ---- transitions

-- the texts of the targets of a transition: the transition itself where it is a text, else those
-- under `target`
abbrev pub target_texts : OrderedJson → List OrderedJson
target_texts json =
    if is_text json then json ∷ [] else option_map_or listed (get (codes "target") (members_of json)) []

-- a transition of a source for a descriptor
pub record MeansTransition (rows : List Node) (source : ℕ) (descriptor : List ℕ) (json : OrderedJson) (transition : UnlinkedTransition) : Type 0 where
  pub source_is : transition.source ≡ source
  pub descriptor_is : transition.descriptor ≡ descriptor
  pub targets : map Some transition.targets ≡ map (led_to rows source) (target_texts json)
  pub reenter : transition.reenter ≡ option_map_or (λ truth. truth) (option_and_then as_bool (get (codes "reenter") (members_of json))) false
  pub guard_is : MeansGuardOr rows source (get (codes "guard") (members_of json)) transition.guard
  pub actions : transition.actions ≡ actions_under (codes "actions") (members_of json)

-- a descriptor and the transitions of one value
abbrev pub under : List ℕ → OrderedJson → List (List ℕ × OrderedJson)
under descriptor json = map (λ (t : OrderedJson). (descriptor, t)) (listed json)

-- the transitions under a key, for one descriptor
abbrev pub under_key : List ℕ → List ℕ → List MemberParts → List (List ℕ × OrderedJson)
under_key descriptor key members = option_map_or (under descriptor) (get key members) []

-- those of the invocation of the child with this id
abbrev pub of_child : List ℕ → List MemberParts → List (List ℕ × OrderedJson)
of_child id members =
    under_key (codes "xstate.done.actor." ++ id) (codes "onDone") members
    ++ under_key (codes "xstate.error.actor." ++ id) (codes "onError") members
    ++ under_key (codes "xstate.snapshot." ++ id) (codes "onSnapshot") members

-- those of the invocation at a place of the node with this id
abbrev pub of_invocation : List ℕ → ℕ × OrderedJson → List (List ℕ × OrderedJson)
of_invocation node p = of_child (invoked_id node p.0 (members_of p.1)) (members_of p.1)

-- the transitions of a node for events, each with its descriptor, in the order in which they are
-- looked at
abbrev pub candidates_of : List ℕ → List MemberParts → List (List ℕ × OrderedJson)
candidates_of node members =
    flat_map (λ (m : MemberParts). under m.key m.value) (unwrap_or (get_object (codes "on") members) [])
    ++ under_key (codes "xstate.done.state." ++ node) (codes "onDone") members
    ++ flat_map (of_invocation node) (enumerate_from 0 (invocation_texts members))
    ++ flat_map (λ (m : MemberParts). under (after_type m.key node) m.value) (unwrap_or (get_object (codes "after") members) [])

-- each transition of a list
pub record AreTransitions (rows : List Node) (source : ℕ) (texts : List (List ℕ × OrderedJson)) (transitions : List UnlinkedTransition) : Type 0 where
  pub count : length transitions ≡ length texts
  pub each : (k : ℕ) (text : List ℕ × OrderedJson) (transition : UnlinkedTransition) → slice_get texts k ≡ Some text
      → slice_get transitions k ≡ Some transition → MeansTransition rows source text.0 text.1 transition

-- the new transitions are the old ones, and behind them those of a list of texts
abbrev pub AddsTransitions : List Node → ℕ → List (List ℕ × OrderedJson) → List UnlinkedTransition → List UnlinkedTransition → Type 0
AddsTransitions rows source texts old new =
    (added : List UnlinkedTransition) × (new ≡ old ++ added) × AreTransitions rows source texts added

-- ---- nodes and machines

-- what a text says of a node
pub record MeansNode (nodes : List NodeParts) (n : ℕ) (node : NodeParts) (said : UnlinkedNode) : Type 0 where
  pub entry : said.entry ≡ actions_under (codes "entry") (fields_in node)
  pub exit : said.exit ≡ actions_under (codes "exit") (fields_in node)
  pub transitions : AreTransitions (open_rows nodes) n (candidates_of (node_id nodes n node) (fields_in node)) said.transitions
  pub always : AreTransitions (open_rows nodes) n (under_key [] (codes "always") (fields_in node)) said.always
  pub after : said.after ≡ delays_of (node_id nodes n node) (fields_in node)
  pub invoke : AreInvocations (node_id nodes n node) (invocation_texts (fields_in node)) said.invoke
  pub output : MeansExprOr expression.Null (get (codes "output") (fields_in node)) said.output
  pub tags : said.tags ≡ tags_of (fields_in node)

-- a machine text means a machine
pub record MeansMachine (text : OrderedJson) (machine : Machine) : Type 0 where
  pub nodes : List NodeParts
  pub are_nodes : AreNodes 0 None [] text nodes
  pub first_pass : (fault : MachineFault) → ¬ HasFirstPassFault text fault
  pub second_pass : (fault : MachineFault) → ¬ HasSecondPassFault text fault
  pub name : machine.name ≡ root_id nodes
  pub place : machine.place ≡ place_of text
  pub tree : IsTreeOf nodes machine.tree
  pub context : MeansExprOr (expression.Map []) (get (codes "context") (members_of text)) machine.context
  pub output : MeansExprOr expression.Null (get (codes "output") (members_of text)) machine.output
  pub count : length machine.nodes ≡ length nodes
  pub said : (n : ℕ) (node : NodeParts) (said : UnlinkedNode) → slice_get nodes n ≡ Some node
      → slice_get machine.nodes n ≡ Some said → MeansNode nodes n node said

-- the fault that is answered of a text: the first one of the first pass, or of the second pass
-- where the first finds none
abbrev pub IsAnsweredFault : OrderedJson → MachineFault → Type 0
IsAnsweredFault text fault =
    IsFirst machine_fault_place machine_fault_number (HasFirstPassFault text) fault
    ⊎ (((other : MachineFault) → ¬ HasFirstPassFault text other)
    × IsFirst machine_fault_place machine_fault_number (HasSecondPassFault text) fault)
