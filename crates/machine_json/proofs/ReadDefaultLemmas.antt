-- The defaults of the history nodes of a machine that was read.
use Rattle.std.proofs.Common.{◌≡◌, ◌<◌, ℕ, Bool, true, false, List, Some, None, Option, refl, ap, sym, ◌∙◌, subst, inl, inr}
use Rattle.std.specs.Prelude.{codes, option_map, slice_get, unwrap_or, if◌then◌else◌}
use Rattle.std.proofs.lemmas.Option.{same_Some}
use Rattle.ordered_json.specs.declared.json.OrderedJson.{OrderedJson}
use Rattle.ordered_json.specs.Words.{get, place_of}
use Rattle.node_tree.specs.declared.node.Kind.{Kind}
use Rattle.node_tree.specs.declared.node.Kind.TheVariants as kind
use Rattle.node_tree.specs.declared.node.Node.{Node}
use Rattle.node_tree.specs.Kinds.{IsHistory, kind_of, with_default}
use Rattle.node_tree.specs.Nodes.{IsBelow, IsChild}
use Rattle.step_sets.specs.Statechart.{HasDefault}
use Rattle.step_sets.proofs.GoalLemmas.{decide_history}
use Rattle.step_sets.proofs.TreeLemmas.{child_inside, decide_below}
use Rattle.machine_json.specs.declared.fault.MachineFault.TheVariants.{NoTarget}
use Rattle.machine_json.specs.declared.kind_word.NodeKind.{NodeKind}
use Rattle.machine_json.specs.declared.kind_word.NodeKind.TheVariants.{Atomic, Compound, Parallel, Final, History}
use Rattle.machine_json.specs.declared.machine.Machine.{Machine}
use Rattle.machine_json.specs.Faultless.{AreFaultless}
use Rattle.machine_json.specs.Fields.{is_history}
use Rattle.machine_json.specs.Machines.{MeansMachine, named_default, row_with_default}
use Rattle.machine_json.specs.NodeKinds.{node_kind}
use Rattle.machine_json.specs.Nodes.{NodeParts}
use Rattle.machine_json.specs.Rows.{fields_in, initial_number, is_deep, kind_with_initial, open_rows, row_of}
use Rattle.machine_json.specs.SecondPass.{MayBeDefault, led_to}
use Rattle.machine_json.proofs.OutlineLemmas.{item_at}
use Rattle.machine_json.proofs.ReadRowLemmas.{faultless_nodes, kind_in_tree, rows_history, rows_tree, tree_below, tree_parent}

-- ---- where a default comes from

open_history : (deep : Bool) (d : ℕ) → HasDefault (if deep then kind.Deep None else kind.Shallow None) d → ⊥
open_history true d is = absurd (cc)
open_history false d is = absurd (cc)

-- without a named one no node has a default
none_open : (initial d : ℕ) (node : NodeParts) (kind : NodeKind) → HasDefault (kind_with_initial initial node kind) d → ⊥
none_open initial d node Atomic is = is
none_open initial d node Compound is = is
none_open initial d node Parallel is = is
none_open initial d node Final is = is
none_open initial d node History is = open_history (is_deep node) d is

set_history : (deep : Bool) (named d : ℕ) → HasDefault (with_default (if deep then kind.Deep None else kind.Shallow None) named) d → named ≡ d
set_history true named d is = same_Some named d is
set_history false named d is = same_Some named d is

-- the named one is the default of a history node alone
set_by_kind : (initial named d : ℕ) (node : NodeParts) (kind : NodeKind) → HasDefault (with_default (kind_with_initial initial node kind) named) d
    → (is_history kind ≡ true) × (named ≡ d)
set_by_kind initial named d node Atomic is = absurd is
set_by_kind initial named d node Compound is = absurd is
set_by_kind initial named d node Parallel is = absurd is
set_by_kind initial named d node Final is = absurd is
set_by_kind initial named d node History is = (refl, set_history (is_deep node) named d is)

default_is_named : (nodes : List NodeParts) (h d : ℕ) (node : NodeParts) (named : Option ℕ) → HasDefault (row_with_default named (row_of nodes h node)).kind d
    → (is_history (node_kind node.json) ≡ true) × (named ≡ Some d)
default_is_named nodes h d node None is = absurd (none_open (initial_number nodes h node) d node (node_kind node.json) is)
default_is_named nodes h d node (Some named) is =
    let (history, same) = set_by_kind (initial_number nodes h node) named d node (node_kind node.json) is in (history, ap Some same)

-- the text that names a default
named_by : (rows : List Node) (h d : ℕ) (target : Option OrderedJson) → option_map (λ json. unwrap_or (led_to rows h json) 0) target ≡ Some d
    → (json : OrderedJson) × (target ≡ Some json) × (unwrap_or (led_to rows h json) 0 ≡ d)
named_by rows h d None is = absurd (cc)
named_by rows h d (Some json) is = (json, refl, same_Some (unwrap_or (led_to rows h json) 0) d is)

-- ---- which default may be named

module _ (nodes : List NodeParts) (sound : AreFaultless nodes) (h : ℕ) (node : NodeParts) (at : slice_get nodes h ≡ Some node)
    (history : is_history (node_kind node.json) ≡ true) (target : OrderedJson) (at_target : get (codes "target") (fields_in node) ≡ Some target) where
  -- the text leads to a node that may be the default
  no_bad_default : ((d : ℕ) → led_to (open_rows nodes) h target ≡ Some d → MayBeDefault (open_rows nodes) h d → ⊥) → ⊥
  no_bad_default bad =
      sound.second_pass (NoTarget (place_of target))
      (nodes, sound.are_nodes, inr (inr (h, node, at, history, (target, at_target, bad, refl))))

  leads_there : (d : ℕ) (led : Option ℕ) → led_to (open_rows nodes) h target ≡ led → unwrap_or led 0 ≡ d → led_to (open_rows nodes) h target ≡ Some d
  leads_there d None led is = absurd (no_bad_default (λ e led_too may. let both : None ≡ Some e = sym led ∙ led_too in absurd (cc)))
  leads_there d (Some e) led is = led ∙ ap Some is

  may_be : (d : ℕ) → led_to (open_rows nodes) h target ≡ Some d → (MayBeDefault (open_rows nodes) h d → ⊥) → ⊥
  may_be d led bad = no_bad_default (λ e led_too may.
      let P : ℕ → Type 0 = λ n. MayBeDefault (open_rows nodes) h n in
      bad (subst P (same_Some e d (sym led_too ∙ led)) may))

  default_in_rows : (d p : ℕ) → led_to (open_rows nodes) h target ≡ Some d → IsChild (open_rows nodes) h p
      → IsBelow (open_rows nodes) d p × ¬ IsHistory (open_rows nodes) d
  default_in_rows d p led up = (
    elim (decide_below (open_rows nodes) (rows_tree nodes sound) d p) [
      | inl below ↦ below
      | inr none ↦ absurd (may_be d led (λ may. none (may.0 p up)))
    ],
    elim (decide_history (open_rows nodes) d) [
      | inl plain ↦ absurd (may_be d led (λ may. may.1 plain))
      | inr none ↦ none
    ],
  )

-- no history default is a history node, and each is below its history node's parent
pub defaults_read : (text : OrderedJson) (machine : Machine) → MeansMachine text machine → (h d p : ℕ) (kind : Kind) → kind_of machine.tree h ≡ Some kind → HasDefault kind d
    → IsChild machine.tree h p → IsBelow machine.tree d p × ¬ IsHistory machine.tree d
defaults_read text machine m h d p kind is has up =
    let nodes = m.nodes in
    let rows = open_rows nodes in
    let (node, at) = item_at nodes h (subst (λ n. h < n) m.tree.count (child_inside machine.tree h p up)) in
    let same = same_Some kind _ (sym is ∙ kind_in_tree nodes machine.tree m.tree h node at) in
    let P : Kind → Type 0 = λ k. HasDefault k d in
    let (history, named) = default_is_named nodes h d node (named_default rows h node) (subst P same has) in
    let (target, at_target, unwrapped) = named_by rows h d (get (codes "target") (fields_in node)) named in
    let sound = faultless_nodes text machine m in
    let led = leads_there nodes sound h node at history target at_target d (led_to rows h target) refl unwrapped in
    let (below, plain) = default_in_rows nodes sound h node at history target at_target d p led (sym (tree_parent nodes machine.tree m.tree h) ∙ up) in
    (tree_below nodes machine.tree m.tree d p below, λ is_history_too. plain (rows_history nodes machine.tree m.tree d is_history_too))
