-- Transitions: where they lead, and one after another.
use Rattle.std.proofs.Common.{◌≡◌, ◌<◌, ℕ, zero, suc, ◌+◌, Bool, true, false, ◌&&◌, List, [], ◌∷◌, ◌++◌, Some, None, Option, refl, ap, sym, ◌∙◌, subst, inl, inr, arith, length, map, take, append_assoc, append-nil, add-zero, length-append, length-take}
use Rattle.std.specs.Prelude.{IfSome, codes, is_none, not, option_and_then, slice_get, unwrap_or, if◌then◌else◌}
use Rattle.std.specs.List.{enumerate_from, flat_map}
use Rattle.std.specs.Option.{option_map_or}
use Rattle.std.proofs.lemmas.Grind.{flat_map-append}
use Rattle.std.proofs.lemmas.Option.{slice_get_within}
use Rattle.ordered_json.specs.declared.json.OrderedJson.{OrderedJson}
use Rattle.ordered_json.specs.Words.{MemberParts, as_bool, as_list, as_object, get, get_object, place_of}
use Rattle.node_tree.specs.declared.node.Node.{Node}
use Rattle.machine_json.specs.declared.fault.MachineFault.TheVariants.{NoTarget}
use Rattle.machine_json.specs.declared.machine.UnlinkedTransition.{UnlinkedTransition}
use Rattle.machine_json.specs.declared.field.Field.TheVariants as field
use Rattle.machine_json.specs.declared.kind_word.NodeKind.{NodeKind}
use Rattle.machine_json.specs.declared.role.Role.{Role}
use Rattle.machine_json.specs.declared.role.Role.TheVariants as role
use Rattle.machine_json.specs.Faultless.{AreFaultlessAs, AreFaultlessUnder, IsFaultlessAs}
use Rattle.machine_json.specs.Machines.{AddsTransitions, AreTransitions, MeansGuardOr, MeansTransition, candidates_of, of_child, of_invocation, target_texts, under, under_key}
use Rattle.machine_json.specs.Meaning.{actions_under, after_type, invocation_texts, listed}
use Rattle.machine_json.specs.NodeKinds.{members_of, node_kind}
use Rattle.machine_json.specs.Nodes.{NodeParts}
use Rattle.machine_json.specs.Roles.{is_empty, is_list_with, is_text, member_role, takes}
use Rattle.machine_json.specs.Rows.{fields_in}
use Rattle.machine_json.specs.SecondPass.{led_to, node_role, text_faults}
use Rattle.machine_json.specs.SecondPass.HasLinkFault.{own_link}
use Rattle.machine_json.proofs.DocumentLemmas.{slice_get-either}
use Rattle.machine_json.proofs.FaultlessLemmas.{Contains-in_flat_map, fails, is_taken, of_field, of_invocations, of_item, of_key, of_member, of_member_at, one_only}
use Rattle.machine_json.proofs.GuardLemmas.{leads, led, or_false}
use Rattle.machine_json.proofs.NodeLemmas.{take_next}

-- ---- where a transition leads

text_by_list : (rows : List Node) (source : ℕ) (target text : OrderedJson) (k : ℕ) (list : Option (List OrderedJson)) → as_list target ≡ list
    → IsFaultlessAs rows source role.Targets target → slice_get (unwrap_or list (target ∷ [])) k ≡ Some text → is_text text ≡ true
text_by_list rows source target text k (Some items) is sound at =
    is_taken rows source role.AnyText text (λ fault has. has) (of_item rows source role.Targets target k text sound (ap (λ o. slice_get (unwrap_or o []) k) is ∙ at))
text_by_list rows source target text k None is sound at =
    let taken : takes role.Targets target ≡ true = is_taken rows source role.Targets target (λ fault has. has) sound in
    let no_list : is_list_with (λ items. not (is_empty items)) target ≡ false = rw is refl in
    ap is_text (sym (one_only target text k at)) ∙ or_false (is_text target) (is_list_with (λ items. not (is_empty items)) target) no_list taken

-- a text of `target` leads to a node
target_leads : (rows : List Node) (source : ℕ) (target text : OrderedJson) (k : ℕ) → IsFaultlessAs rows source role.Targets target
    → slice_get (listed target) k ≡ Some text → is_none (led_to rows source text) ≡ false
target_leads rows source target text k sound at =
    leads rows source text
    (fails (is_text text && is_none (led_to rows source text)) (NoTarget (place_of text))
    (λ fault has. sound.second_pass fault (own_link role.Targets target fault (inl (Contains-in_flat_map (text_faults rows source) (listed target) k text fault at has)))))
    (text_by_list rows source target text k (as_list target) refl sound at)

leads_by_target : (rows : List Node) (source : ℕ) (json text : OrderedJson) (k : ℕ) (target : Option OrderedJson) → get (codes "target") (members_of json) ≡ target
    → IsFaultlessAs rows source role.Transition json → slice_get (option_map_or listed target []) k ≡ Some text → is_none (led_to rows source text) ≡ false
leads_by_target rows source json text k None is sound at = absurd (cc)
leads_by_target rows source json text k (Some target) is sound at =
    target_leads rows source target text k (of_member rows source role.Transition role.Targets json (codes "target") target sound is refl refl) at

leads_by_test : (rows : List Node) (source : ℕ) (json text : OrderedJson) (k : ℕ) (test : Bool) → is_text json ≡ test → IsFaultlessAs rows source role.Transition json
    → slice_get (if test then json ∷ [] else option_map_or listed (get (codes "target") (members_of json)) []) k ≡ Some text → is_none (led_to rows source text) ≡ false
leads_by_test rows source json text k true is sound at =
    let here = leads rows source json
    (fails (is_text json && is_none (led_to rows source json)) (NoTarget (place_of json)) (λ fault has. sound.second_pass fault (own_link role.Transition json fault has))) is in
    ap (λ t. is_none (led_to rows source t)) (sym (one_only json text k at)) ∙ here
leads_by_test rows source json text k false is sound at =
    leads_by_target rows source json text k (get (codes "target") (members_of json)) refl sound at

each_leads : (to : OrderedJson → Option ℕ) (texts : List OrderedJson) → ((k : ℕ) (text : OrderedJson) → slice_get texts k ≡ Some text → is_none (to text) ≡ false)
    → map Some (map (λ (text : OrderedJson). unwrap_or (to text) 0) texts) ≡ map to texts
each_leads to [] each = refl
each_leads to (text ∷ texts) each =
    ap (λ (n : Option ℕ). n ∷ map Some (map (λ (t : OrderedJson). unwrap_or (to t) 0) texts)) (sym (led (to text) (each 0 text refl)))
    ∙ ap (λ (l : List (Option ℕ)). to text ∷ l) (each_leads to texts (λ k t at. each (suc k) t at))

-- ---- one transition

pub transition_means : (rows : List Node) (source : ℕ) (descriptor : List ℕ) (json : OrderedJson) (members : List MemberParts) (texts : List OrderedJson) (t : UnlinkedTransition)
    → members ≡ members_of json → texts ≡ target_texts json
    → t.source ≡ source → t.descriptor ≡ descriptor
    → t.targets ≡ map (λ (text : OrderedJson). unwrap_or (led_to rows source text) 0) texts
    → t.reenter ≡ option_map_or (λ truth. truth) (option_and_then as_bool (get (codes "reenter") members)) false
    → (IfSome (get (codes "guard") members) (IsFaultlessAs rows source role.Guard) → MeansGuardOr rows source (get (codes "guard") members) t.guard)
    → t.actions ≡ actions_under (codes "actions") members
    → IsFaultlessAs rows source role.Transition json → MeansTransition rows source descriptor json t
transition_means rows source descriptor json members texts t same is_texts source_is descriptor_is targets reenter guard_is actions sound =
    let IsGuard : List MemberParts → Type 0 = λ m. IfSome (get (codes "guard") m) (IsFaultlessAs rows source role.Guard) → MeansGuardOr rows source (get (codes "guard") m) t.guard in
    let to : OrderedJson → ℕ = λ text. unwrap_or (led_to rows source text) 0 in
    record {
      source_is = source_is;
      descriptor_is = descriptor_is;
      targets = ap (map Some) (targets ∙ ap (map to) is_texts)
          ∙ each_leads (led_to rows source) (target_texts json) (λ k text at. leads_by_test rows source json text k (is_text json) refl sound at);
      reenter = reenter ∙ ap (λ (m : List MemberParts). option_map_or (λ truth. truth) (option_and_then as_bool (get (codes "reenter") m)) false) same;
      guard_is = subst IsGuard same guard_is (of_key rows source role.Transition role.Guard json (codes "guard") refl refl sound);
      actions = actions ∙ ap (actions_under (codes "actions")) same;
    }

-- ---- one after another

pub are_both : (rows : List Node) (source : ℕ) (texts others : List (List ℕ × OrderedJson)) (ts us : List UnlinkedTransition)
    → AreTransitions rows source texts ts → AreTransitions rows source others us → AreTransitions rows source (texts ++ others) (ts ++ us)
are_both rows source texts others ts us first second =
    let count : length ts ≡ length texts = first.count in
    record {
      count = length-append ts us ∙ ap (λ n. n + length us) count ∙ ap (λ n. length texts + n) second.count ∙ sym (length-append texts others);
      each = λ k text t at_text at_t. elim (slice_get-either texts others k text at_text) [
        | inl left ↦ elim (slice_get-either ts us k t at_t) [
          | inl held ↦ first.each k text t left held
          | inr past ↦ absurd (let below : k < length texts = slice_get_within texts k text left in let here : k ≡ length ts + past.0 = past.1 in omega arith)
        ]
        | inr right ↦ elim (slice_get-either ts us k t at_t) [
          | inl held ↦ absurd (let below : k < length ts = slice_get_within ts k t held in let here : k ≡ length texts + right.0 = right.1 in omega arith)
          | inr past ↦
              (let here : k ≡ length texts + right.0 = right.1 in
              let there : k ≡ length ts + past.0 = past.1 in
              let same : right.0 ≡ past.0 = omega arith in
              second.each right.0 text t right.2 (ap (slice_get us) same ∙ past.2))
        ]
      ];
    }

are_none : (rows : List Node) (source : ℕ) → AreTransitions rows source [] []
are_none rows source = record {
  count = refl;
  each = λ k text t at_text at_t. absurd (cc);
}

pub adds_none : (rows : List Node) (source : ℕ) (texts : List (List ℕ × OrderedJson)) (old : List UnlinkedTransition) → texts ≡ [] → AddsTransitions rows source texts old old
adds_none rows source texts old none =
    let P : List (List ℕ × OrderedJson) → Type 0 = λ l. AreTransitions rows source l [] in
    ([], sym (append-nil old), subst P (sym none) (are_none rows source))

pub adds_both : (rows : List Node) (source : ℕ) (texts others whole : List (List ℕ × OrderedJson)) (old between new : List UnlinkedTransition) → whole ≡ texts ++ others
    → AddsTransitions rows source texts old between → AddsTransitions rows source others between new → AddsTransitions rows source whole old new
adds_both rows source texts others whole old between new is first second =
    let P : List (List ℕ × OrderedJson) → Type 0 = λ l. AreTransitions rows source l (first.0 ++ second.0) in (
      first.0 ++ second.0,
      second.1 ∙ ap (λ l. l ++ second.0) first.1 ∙ append_assoc old first.0 second.0,
      subst P (sym is) (are_both rows source texts others first.0 second.0 first.2 second.2),
    )

one_means : (rows : List Node) (source : ℕ) (descriptor : List ℕ) (json : OrderedJson) (t : UnlinkedTransition) → MeansTransition rows source descriptor json t
    → (k : ℕ) (text : List ℕ × OrderedJson) (u : UnlinkedTransition) → slice_get ((descriptor, json) ∷ []) k ≡ Some text → slice_get (t ∷ []) k ≡ Some u
    → MeansTransition rows source text.0 text.1 u
one_means rows source descriptor json t means zero text u at_text at_u =
    let same : (descriptor, json) ≡ text = cc in
    let is : t ≡ u = cc in
    let P : List ℕ × OrderedJson → Type 0 = λ x. MeansTransition rows source x.0 x.1 u in
    let Q : UnlinkedTransition → Type 0 = λ v. MeansTransition rows source descriptor json v in
    subst P same (subst Q is means)
one_means rows source descriptor json t means (suc k) text u at_text at_u = absurd (cc)

pub adds_one : (rows : List Node) (source : ℕ) (descriptor : List ℕ) (json : OrderedJson) (t : UnlinkedTransition) (old new : List UnlinkedTransition)
    → new ≡ old ++ t ∷ [] → MeansTransition rows source descriptor json t → AddsTransitions rows source ((descriptor, json) ∷ []) old new
adds_one rows source descriptor json t old new is means =
    (t ∷ [], is, record { count = refl; each = one_means rows source descriptor json t means })

-- all of them, from none
pub all_added : (rows : List Node) (source : ℕ) (texts : List (List ℕ × OrderedJson)) (old new : List UnlinkedTransition) → old ≡ [] → AddsTransitions rows source texts old new
    → AreTransitions rows source texts new
all_added rows source texts old new none adds =
    let P : List UnlinkedTransition → Type 0 = λ l. AreTransitions rows source texts l in
    subst P (sym (adds.1 ∙ ap (λ l. l ++ adds.0) none)) adds.2

-- ---- lists with one more

pub flat_map_next : {X Y : Type 0} (f : X → List Y) (xs : List X) (i : ℕ) (x : X) → slice_get xs i ≡ Some x → flat_map f (take (i + 1) xs) ≡ flat_map f (take i xs) ++ f x
flat_map_next f xs i x at =
    ap (flat_map f) (take_next xs i x at) ∙ flat_map-append f (take i xs) (x ∷ []) ∙ ap (λ l. flat_map f (take i xs) ++ l) (append-nil (f x))

enumerate_last : {X : Type 0} (n : ℕ) (xs : List X) (x : X) → enumerate_from n (xs ++ x ∷ []) ≡ enumerate_from n xs ++ (n + length xs, x) ∷ []
enumerate_last n [] x = ap (λ (k : ℕ). (k, x) ∷ []) (sym (add-zero n))
enumerate_last n (y ∷ ys) x =
    let place : (n + 1) + length ys ≡ n + suc (length ys) = omega arith in
    ap (λ l. (n, y) ∷ l) (enumerate_last (n + 1) ys x ∙ ap (λ (k : ℕ). enumerate_from (n + 1) ys ++ (k, x) ∷ []) place)

pub flat_map_numbered : {X Y : Type 0} (f : ℕ × X → List Y) (xs : List X) (i : ℕ) (x : X) → slice_get xs i ≡ Some x
    → flat_map f (enumerate_from 0 (take (i + 1) xs)) ≡ flat_map f (enumerate_from 0 (take i xs)) ++ f (i, x)
flat_map_numbered f xs i x at =
    let within : i < length xs = slice_get_within xs i x at in
    let front : 0 + length (take i xs) ≡ i = omega (arith, length-take i xs) in
    ap (λ l. flat_map f (enumerate_from 0 l)) (take_next xs i x at) ∙ ap (flat_map f) (enumerate_last 0 (take i xs) x)
    ∙ flat_map-append f (enumerate_from 0 (take i xs)) ((0 + length (take i xs), x) ∷ [])
    ∙ ap (λ l. flat_map f (enumerate_from 0 (take i xs)) ++ l) (append-nil (f (0 + length (take i xs), x)))
    ∙ ap (λ (k : ℕ). flat_map f (enumerate_from 0 (take i xs)) ++ f (k, x)) front

-- ---- those of an invocation, and those of a node

-- those under a key are added, where what stands there has no fault
abbrev AddsUnderKey : List Node → ℕ → List ℕ → List ℕ → List MemberParts → List UnlinkedTransition → List UnlinkedTransition → Type 0
AddsUnderKey rows source descriptor key members old new =
    IfSome (get key members) (IsFaultlessAs rows source role.Transitions) → AddsTransitions rows source (under_key descriptor key members) old new

moved : (rows : List Node) (source : ℕ) (descriptor other key : List ℕ) (members others : List MemberParts) (old new : List UnlinkedTransition)
    → descriptor ≡ other → members ≡ others → AddsUnderKey rows source descriptor key members old new → AddsUnderKey rows source other key others old new
moved rows source descriptor other key members others old new is same adds =
    let P : List ℕ → Type 0 = λ d. AddsUnderKey rows source d key members old new in
    let Q : List MemberParts → Type 0 = λ m. AddsUnderKey rows source other key m old new in
    subst Q same (subst P is adds)

pub child_added : (rows : List Node) (source : ℕ) (child : List ℕ) (json : OrderedJson) (members : List MemberParts) (done error snapshot : List ℕ) (a b c d : List UnlinkedTransition)
    → members ≡ members_of json → done ≡ codes "xstate.done.actor." ++ child → error ≡ codes "xstate.error.actor." ++ child → snapshot ≡ codes "xstate.snapshot." ++ child
    → AddsUnderKey rows source done (codes "onDone") members a b → AddsUnderKey rows source error (codes "onError") members b c → AddsUnderKey rows source snapshot (codes "onSnapshot") members c d
    → IsFaultlessAs rows source role.Invocation json → AddsTransitions rows source (of_child child (members_of json)) a d
child_added rows source child json members done error snapshot a b c d same is_done is_error is_snapshot first second third sound =
    let all = members_of json in
    let done_type = codes "xstate.done.actor." ++ child in
    let error_type = codes "xstate.error.actor." ++ child in
    let snapshot_type = codes "xstate.snapshot." ++ child in
    let dones = under_key done_type (codes "onDone") all in
    let errors = under_key error_type (codes "onError") all in
    let snapshots = under_key snapshot_type (codes "onSnapshot") all in
    adds_both rows source (dones ++ errors) snapshots ((dones ++ errors) ++ snapshots) a c d refl
    (adds_both rows source dones errors (dones ++ errors) a b c refl
    (moved rows source done done_type (codes "onDone") members all a b is_done same first (of_key rows source role.Invocation role.Transitions json (codes "onDone") refl refl sound))
    (moved rows source error error_type (codes "onError") members all b c is_error same second (of_key rows source role.Invocation role.Transitions json (codes "onError") refl refl sound)))
    (moved rows source snapshot snapshot_type (codes "onSnapshot") members all c d is_snapshot same third (of_key rows source role.Invocation role.Transitions json (codes "onSnapshot") refl refl sound))

pub under_object : (rows : List Node) (source : ℕ) (whole : Role) (object : Option OrderedJson) → ((kind : NodeKind) (key : List ℕ) → member_role whole kind key ≡ Some role.Transitions)
    → IfSome object (IsFaultlessAs rows source whole) → AreFaultlessUnder rows source role.Transitions (unwrap_or (option_and_then as_object object) [])
under_object rows source whole None has sound = λ k member at. absurd (cc)
under_object rows source whole (Some json) has sound = λ k member at. of_member_at rows source whole role.Transitions json k member sound at (has (node_kind json) member.key) refl

pub of_texts : (rows : List Node) (source : ℕ) (invoke : Option OrderedJson) → IfSome invoke (IsFaultlessAs rows source role.Invocations)
    → AreFaultlessAs rows source role.Invocation (option_map_or listed invoke [])
of_texts rows source None sound = λ k json at. absurd (cc)
of_texts rows source (Some invoke) sound = λ k json at. of_invocations rows source invoke json k sound at

pub candidates_added : (rows : List Node) (source : ℕ) (node : NodeParts) (id : List ℕ) (members on after : List MemberParts) (texts : List OrderedJson) (done : List ℕ) (a b c d e : List UnlinkedTransition)
    → members ≡ fields_in node → on ≡ unwrap_or (get_object (codes "on") members) [] → done ≡ codes "xstate.done.state." ++ id
    → texts ≡ invocation_texts members → after ≡ unwrap_or (get_object (codes "after") members) [] → a ≡ []
    → (AreFaultlessUnder rows source role.Transitions on → AddsTransitions rows source (flat_map (λ (m : MemberParts). under m.key m.value) on) a b)
    → AddsUnderKey rows source done (codes "onDone") members b c
    → (AreFaultlessAs rows source role.Invocation texts → AddsTransitions rows source (flat_map (of_invocation id) (enumerate_from 0 texts)) c d)
    → (AreFaultlessUnder rows source role.Transitions after → AddsTransitions rows source (flat_map (λ (m : MemberParts). under (after_type m.key id) m.value) after) d e)
    → IsFaultlessAs rows source (node_role node) node.json → AreTransitions rows source (candidates_of id (fields_in node)) e
candidates_added rows source node id members on after texts done a b c d e same is_on is_done is_texts is_after none first second third fourth sound =
    let all = fields_in node in
    let done_type = codes "xstate.done.state." ++ id in
    let f : MemberParts → List (List ℕ × OrderedJson) = λ m. under m.key m.value in
    let g : MemberParts → List (List ℕ × OrderedJson) = λ m. under (after_type m.key id) m.value in
    let ons : List MemberParts = unwrap_or (get_object (codes "on") all) [] in
    let afters : List MemberParts = unwrap_or (get_object (codes "after") all) [] in
    let on_is : on ≡ ons = is_on ∙ ap (λ (m : List MemberParts). unwrap_or (get_object (codes "on") m) []) same in
    let after_is : after ≡ afters = is_after ∙ ap (λ (m : List MemberParts). unwrap_or (get_object (codes "after") m) []) same in
    let texts_is : texts ≡ invocation_texts all = is_texts ∙ ap invocation_texts same in
    let IsOn : List MemberParts → Type 0 = λ l. AreFaultlessUnder rows source role.Transitions l → AddsTransitions rows source (flat_map f l) a b in
    let IsInvoked : List OrderedJson → Type 0 = λ l. AreFaultlessAs rows source role.Invocation l → AddsTransitions rows source (flat_map (of_invocation id) (enumerate_from 0 l)) c d in
    let IsAfter : List MemberParts → Type 0 = λ l. AreFaultlessUnder rows source role.Transitions l → AddsTransitions rows source (flat_map g l) d e in
    let one = flat_map f ons in
    let two = under_key done_type (codes "onDone") all in
    let three = flat_map (of_invocation id) (enumerate_from 0 (invocation_texts all)) in
    let four = flat_map g afters in
    all_added rows source (((one ++ two) ++ three) ++ four) a e none
    (adds_both rows source ((one ++ two) ++ three) four (((one ++ two) ++ three) ++ four) a d e refl
    (adds_both rows source (one ++ two) three ((one ++ two) ++ three) a c d refl
    (adds_both rows source one two (one ++ two) a b c refl
    (subst IsOn on_is first (under_object rows source role.On (get (codes "on") all) (λ kind key. refl) (of_field rows source node (codes "on") field.On refl refl sound)))
    (moved rows source done done_type (codes "onDone") members all b c is_done same second (of_field rows source node (codes "onDone") field.OnDone refl refl sound)))
    (subst IsInvoked texts_is third (of_texts rows source (get (codes "invoke") all) (of_field rows source node (codes "invoke") field.Invoke refl refl sound))))
    (subst IsAfter after_is fourth (under_object rows source role.After (get (codes "after") all) (λ kind key. refl) (of_field rows source node (codes "after") field.After refl refl sound))))

pub always_added : (rows : List Node) (source : ℕ) (node : NodeParts) (members : List MemberParts) (old new : List UnlinkedTransition) → members ≡ fields_in node → old ≡ []
    → AddsUnderKey rows source [] (codes "always") members old new
    → IsFaultlessAs rows source (node_role node) node.json → AreTransitions rows source (under_key [] (codes "always") (fields_in node)) new
always_added rows source node members old new same none adds sound =
    all_added rows source (under_key [] (codes "always") (fields_in node)) old new none
    (moved rows source [] [] (codes "always") members (fields_in node) old new refl same adds (of_field rows source node (codes "always") field.Always refl refl sound))
