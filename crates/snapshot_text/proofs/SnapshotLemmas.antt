-- What stands in snapshots, and what a valid office says of the records that they show.
use Rattle.std.proofs.Common.{◌≡◌, inl, inr, ◌+◌, ◌-◌, ◌<◌, ◌≢◌, ℕ, zero, suc, Bool, true, false, cond, List, [], ◌∷◌, ◌++◌, length, get_or, map, take, Option, Some, None, refl, sym, ap, subst, ◌∙◌, arith, append_assoc}
use Rattle.std.specs.Prelude.{All, IfSome, find, nat_eq}
use Rattle.std.specs.List.{flat_map}
use Rattle.std.specs.List.Sorted.{IsStrictlyIncreasing}
use Rattle.std.proofs.lemmas.List.{flat_map_more, take_more}
use Rattle.std.proofs.lemmas.List.Elements.{All-head, All-tail}
use Rattle.json.specs.Token.{Token, begin_array, begin_object, key}
use Rattle.serde_json.specs.Data.{null}
use Rattle.office_types.specs.declared.office.ActorRecord.{ActorRecord}
use Rattle.office_types.specs.declared.office.Item.{Item}
use Rattle.office_types.specs.declared.office.OfficeState.{OfficeState}
use Rattle.office_types.specs.declared.outcome.Own.{Own}
use Rattle.node_tree.specs.Kinds.{Nodes}
use Rattle.office_types.specs.Definitions.{OfficeDefinitions, nodes_of}
use Rattle.office_types.specs.OwnParts.{IsOwnPart}
use Rattle.office_types.specs.Records.{actor_record}
use Rattle.office_types.specs.ValidOffice.{IsActor, IsOfOneKind, IsValidOffice}
use Rattle.snapshot_text.specs.Snapshots.{child_data, snapshot_data, snapshot_members}
use Rattle.snapshot_text.specs.ValueData.{map_data}

-- ---- levels of a snapshot

pub no_levels : (definitions : OfficeDefinitions) (state : OfficeState) (levels number : ℕ) → levels ≡ 0 → snapshot_data definitions state levels number ≡ null
unfolding snapshot_data
no_levels definitions state zero number is = refl
no_levels definitions state (suc levels) number is = absurd (omega (arith, is))

pub no_actor : (definitions : OfficeDefinitions) (state : OfficeState) (levels number : ℕ) → actor_record state number ≡ None → snapshot_data definitions state levels number ≡ null
unfolding snapshot_data
no_actor definitions state zero number is = refl
no_actor definitions state (suc levels) number is = rw is refl

pub of_actor : (definitions : OfficeDefinitions) (state : OfficeState) (levels number : ℕ) (actor : ActorRecord) → levels ≢ 0 → actor_record state number ≡ Some actor
    → snapshot_data definitions state levels number ≡ map_data (snapshot_members definitions (map (child_data (snapshot_data definitions state (levels - 1))) actor.kids) actor)
unfolding snapshot_data
of_actor definitions state zero number actor some is = absurd (some refl)
of_actor definitions state (suc levels) number actor some is =
    let lower : levels ≡ suc levels - 1 = omega arith in
    rw is (ap (λ n. map_data (snapshot_members definitions (map (child_data (snapshot_data definitions state n)) actor.kids) actor)) lower)

-- ---- records of a valid office

inside : {X : Type 0} (x y : X) → Some x ≡ Some y → x ≡ y
inside x y same = cc

-- what holds of all holds of the one that is found
found_has : {X : Type 0} (P : X → Type 0) (p : X → Bool) (xs : List X) (x : X) → All P xs → find p xs ≡ Some x → P x
found_has P p [] x all is = absurd (cc)
found_has {X} P p (y ∷ ys) x all is = by_test (found_has P p ys x (All-tail P y ys all)) (p y) is where
  by_test : (find p ys ≡ Some x → P x) → (b : Bool) → cond b (Some y) (find p ys) ≡ Some x → P x
  by_test later true same = subst P (inside y x same) (All-head P y ys all)
  by_test later false same = later same

-- the nodes of an own part are in order
in_order : (nodes : Nodes) (own : Own) → IsOwnPart nodes own → IsStrictlyIncreasing own.nodes
in_order nodes own (inl fresh) = subst IsStrictlyIncreasing (sym (ap (λ (o : Own). o.nodes) fresh)) (λ k within. absurd (omega (arith, within)))
in_order nodes own (inr begun) = begun.configuration.in_order

-- the own part of a record is of one of the machines, its nodes in order
part_of : (definitions : OfficeDefinitions) (actor : ActorRecord) (own : Option Own) (item : Option Item) → IsOfOneKind definitions actor own item
    → IfSome own (λ (o : Own). o.def < length definitions.machines) × IfSome own (λ (o : Own). IsStrictlyIncreasing o.nodes)
part_of definitions actor None item is = (tt, tt)
part_of definitions actor (Some own) (Some item) is = absurd is
part_of definitions actor (Some own) None is = (is.machine, in_order (nodes_of definitions own.def) own is.part)

pub own_is : (definitions : OfficeDefinitions) (state : OfficeState) (number : ℕ) (actor : ActorRecord) → IsValidOffice definitions state → actor_record state number ≡ Some actor
    → IfSome actor.own (λ (o : Own). o.def < length definitions.machines) × IfSome actor.own (λ (o : Own). IsStrictlyIncreasing o.nodes)
own_is definitions state number actor valid is =
    let one : IsActor definitions state actor = found_has (IsActor definitions state) (λ (a : ActorRecord). nat_eq a.number number) state.actors actor valid.actors is in
    part_of definitions actor actor.own actor.item one.kind

-- ---- the loop over children

-- one more child was written
pub kid_more : {X : Type 0} (f : X → List Token) (front : List Token) (name : List ℕ) (items : List X) (i : ℕ) (kid : X) (old written new : List Token) → i < length items → kid ≡ get_or items i kid
    → written ≡ old ++ (begin_object ∷ (front ++ (key name ∷ begin_array ∷ flat_map f (take i items)))) → new ≡ written ++ f kid
    → new ≡ old ++ (begin_object ∷ (front ++ (key name ∷ begin_array ∷ flat_map f (take (i + 1) items))))
kid_more f front name items i kid old written new within at is next =
    let before = flat_map f (take i items) in
    let split : (old ++ (begin_object ∷ (front ++ (key name ∷ begin_array ∷ before)))) ++ f kid ≡ old ++ (begin_object ∷ (front ++ (key name ∷ begin_array ∷ (before ++ f kid)))) = simp append_assoc in
    next ∙ ap (λ ts. ts ++ f kid) is ∙ split
    ∙ ap (λ ts. old ++ (begin_object ∷ (front ++ (key name ∷ begin_array ∷ ts)))) (flat_map_more f [] (take i items) kid)
    ∙ ap (λ xs. old ++ (begin_object ∷ (front ++ (key name ∷ begin_array ∷ flat_map f xs)))) (sym (take_more items i kid within ∙ ap (λ x. take i items ++ x ∷ []) (sym at)))
