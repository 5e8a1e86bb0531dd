-- A text as a whole: its faults and its machine.
use Rattle.std.proofs.Common.{◌≡◌, ◌⊎◌, ℕ, List, [], ◌∷◌, ◌++◌, Option, None, Some, length, sym, ap, ◌∙◌, subst, inl, inr}
use Rattle.std.specs.Prelude.{slice_get}
use Rattle.ordered_json.specs.declared.json.OrderedJson.{OrderedJson}
use Rattle.machine_json.specs.declared.fault.MachineFault.{MachineFault}
use Rattle.machine_json.specs.declared.machine.Machine.{Machine}
use Rattle.machine_json.specs.declared.machine.UnlinkedNode.{UnlinkedNode}
use Rattle.machine_json.specs.FirstPass.{TellsFirst}
use Rattle.machine_json.specs.Machines.{IsAnsweredFault, MeansMachine, MeansNode}
use Rattle.machine_json.specs.Nodes.{AreNodes, HasFirstPassFault, NodeParts}
use Rattle.machine_json.specs.SecondPass.{HasSecondPassFault, IsDefaultFault, IsDoubleId, IsLinkFault}
use Rattle.machine_json.proofs.FirstLemmas.{as_set}
use Rattle.machine_json.proofs.InvocationLemmas.{push_cases}
use Rattle.machine_json.proofs.NodeLemmas.{same_nodes}
use Rattle.machine_json.proofs.UniqueLemmas.{one_first}

-- ---- the second pass

-- the faults of the second pass in the nodes of a text
abbrev pub HasFaultAmong : List NodeParts → MachineFault → Type 0
HasFaultAmong nodes fault = IsDoubleId nodes fault ⊎ (IsLinkFault nodes fault ⊎ IsDefaultFault nodes fault)

-- the nodes of a text are one list, so its faults are those of the list
pub of_nodes : (text : OrderedJson) (nodes : List NodeParts) (found : Option MachineFault) → AreNodes 0 None [] text nodes
    → TellsFirst found (HasFaultAmong nodes) → TellsFirst found (HasSecondPassFault text)
of_nodes text nodes found are first =
    as_set found (HasFaultAmong nodes) (HasSecondPassFault text)
    (λ fault is. (nodes, are, is))
    (λ fault is.
    let same : is.0 ≡ nodes = same_nodes 0 None [] text is.0 nodes is.1 are in
    let P : List NodeParts → Type 0 = λ l. HasFaultAmong l fault in subst P same is.2)
    first

-- the fault that a pass finds
pub first_answered : (text : OrderedJson) (found : Option MachineFault) (fault : MachineFault) → found ≡ Some fault
    → TellsFirst found (HasFirstPassFault text) → IsAnsweredFault text fault
first_answered text found fault is first =
    let P : Option MachineFault → Type 0 = λ o. TellsFirst o (HasFirstPassFault text) in inl (subst P is first)

pub second_answered : (text : OrderedJson) (nodes : List NodeParts) (earlier found : Option MachineFault) (fault : MachineFault) → AreNodes 0 None [] text nodes
    → earlier ≡ None → TellsFirst earlier (HasFirstPassFault text) → found ≡ Some fault → TellsFirst found (HasFaultAmong nodes) → IsAnsweredFault text fault
second_answered text nodes earlier found fault are none_is none is first =
    let P : Option MachineFault → Type 0 = λ o. TellsFirst o (HasFirstPassFault text) in
    let Q : Option MachineFault → Type 0 = λ o. TellsFirst o (HasSecondPassFault text) in
    inr (subst P none_is none, subst Q is (of_nodes text nodes found are first))

-- what is told where a pass finds none
pub none_found : (found : Option MachineFault) (IsThere : MachineFault → Type 0) → found ≡ None → TellsFirst found IsThere
    → (fault : MachineFault) → IsThere fault → ⊥
none_found found IsThere is tells = let P : Option MachineFault → Type 0 = λ o. TellsFirst o IsThere in subst P is tells

-- ---- one node more

pub one_more_said : (nodes : List NodeParts) (n : ℕ) (said new : List UnlinkedNode) (one : UnlinkedNode)
    → new ≡ said ++ one ∷ [] → length said ≡ n
    → ((k : ℕ) (node : NodeParts) (s : UnlinkedNode) → slice_get nodes k ≡ Some node → slice_get said k ≡ Some s → MeansNode nodes k node s)
    → ((node : NodeParts) → slice_get nodes n ≡ Some node → MeansNode nodes n node one)
    → (k : ℕ) (node : NodeParts) (s : UnlinkedNode) → slice_get nodes k ≡ Some node → slice_get new k ≡ Some s → MeansNode nodes k node s
one_more_said nodes n said new one is_new count each last k node s at s_at =
    elim (push_cases said one k s (ap (λ (l : List UnlinkedNode). slice_get l k) (sym is_new) ∙ s_at)) [
      | inl earlier ↦ each k node s at earlier.1
      | inr here ↦
          let same : k ≡ n = here.0 ∙ count in
          let P : ℕ → Type 0 = λ m. MeansNode nodes m node s in
          let Q : UnlinkedNode → Type 0 = λ u. MeansNode nodes n node u in
          subst P (sym same) (subst Q here.1 (last node (ap (slice_get nodes) (sym same) ∙ at)))
    ]

-- ---- laws

pub one_answered : (text : OrderedJson) (fault other : MachineFault) → IsAnsweredFault text fault → IsAnsweredFault text other → fault ≡ other
one_answered text fault other (inl first) (inl second) = one_first (HasFirstPassFault text) fault other first second
one_answered text fault other (inl first) (inr second) = absurd (second.0 fault first.there)
one_answered text fault other (inr first) (inl second) = absurd (first.0 other second.there)
one_answered text fault other (inr first) (inr second) = one_first (HasSecondPassFault text) fault other first.1 second.1

pub meaning_or_fault : (text : OrderedJson) (machine : Machine) (fault : MachineFault) → MeansMachine text machine → IsAnsweredFault text fault → ⊥
meaning_or_fault text machine fault means_it (inl first) = means_it.first_pass fault first.there
meaning_or_fault text machine fault means_it (inr second) = means_it.second_pass fault second.1.there
