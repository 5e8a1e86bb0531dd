use Rattle.std.proofs.Common.{◌≡◌, ◌+◌, map, ℕ, List, [], ◌∷◌, ◌++◌, take, sym, ap, ◌∙◌, subst, Option, Some, None, Bool, true}
use Rattle.std.specs.Prelude.{IfOk, if◌then◌else◌}
use Rattle.std.proofs.lemmas.List.{take_more, take_all, map-append}
use Rattle.ordered_json.specs.declared.json.OrderedJson.{OrderedJson}
use Rattle.ordered_json.specs.declared.json.OrderedJson.TheVariants as json
use Rattle.ordered_json.specs.declared.json.Member.{Member}
use Rattle.ordered_json.specs.Words.{MemberParts, member_parts}
use Rattle.machine_json.specs.declared.expressions.FormPlace.TheVariants.{AtOperator}
use Rattle.machine_json.specs.Expressions.{HasUnknownForm}
use Rattle.action_table.specs.declared.role.Shape.{Shape}
use Rattle.action_table.specs.declared.role.TableRole.{TableRole}
use Rattle.action_table.specs.declared.role.TableRole.TheVariants as role
use Rattle.action_table.specs.Shapes.{is_complete, key_role, shape_of, takes}
use Rattle.action_table.specs.TablePlaces.{HasItemFault, HasMemberFault, HasTableFault, IsLeastOf}
use Rattle.action_table.proofs.FirstLemmas.{expression-least, given-too, items-more, items-none, list-least, members-more, members-none, no_list-least, not-expression, object-least, one-key, one-value, refused-least}
use Rattle.action_table.proofs.first.+first_fault.Goals.{first_fault-then-is_complete, first_fault-else-is_complete, first_of_members-in-Some+in_ok-found-in-Some, first_of_members-in-None}
use Rattle.action_table.proofs.first.+first_fault.Goals as goal

pub first_fault-returns-in-Expression : goal.first_fault-returns-in-Expression
first_fault-returns-in-Expression t c =
    subst (λ (r : TableRole). IfOk c.unknown_form.result (λ (found : Option ℕ). IsLeastOf (HasTableFault r c.args.json.now) found)) (sym c.in-Expression.is)
    (given-too (IsLeastOf (HasUnknownForm AtOperator c.args.json.now)) (IsLeastOf (HasTableFault role.Expression c.args.json.now)) c.unknown_form.result (expression-least c.args.json.now) c.unknown_form.ensures)

pub first_fault-returns-then-not-takes : goal.first_fault-returns-then-not-takes
first_fault-returns-then-not-takes t c =
    subst (λ (n : ℕ). IsLeastOf (HasTableFault c.args.role c.args.json.now) (Some n)) (sym c.place.ensures)
    (refused-least c.args.role c.args.json.now (not-expression c.args.role c.in_default.not-Expression) (sym c.takes.ensures ∙ c.if-not-takes.true))

pub first_fault-returns-in_ok-inner-in-Object : goal.first_fault-returns-in_ok-inner-in-Object
first_fault-returns-in_ok-inner-in-Object t c =
    let taken : takes c.args.role (json.Object c.in-Object.place c.in-Object.members) ≡ true = ap (λ (j : OrderedJson). takes c.args.role j) (sym c.in-Object.is) ∙ sym c.takes.ensures ∙ c.if-not-takes.false in
    let complete_is : c.is_complete.result ≡ is_complete c.args.role (map member_parts c.in-Object.members) = c.is_complete.ensures ∙ ap (λ (ms : List Member). is_complete c.args.role (map member_parts ms)) c.as_slice-in-Object.ensures in
    let own_is : c.if-is_complete.own ≡ (if is_complete c.args.role (map member_parts c.in-Object.members) then None else Some c.in-Object.place) = elim c.if-is_complete.branch [
      | first_fault-then-is_complete w ↦ w.own-is ∙ ap (λ (b : Bool). if b then None else Some c.in-Object.place) (sym w.if-is_complete.true ∙ complete_is)
      | first_fault-else-is_complete w ↦ w.own-is ∙ ap (λ (b : Bool). if b then None else Some c.in-Object.place) (sym w.if-is_complete.false ∙ complete_is)
    ] in
    let shape_is : c.shape_of-shape.result ≡ shape_of c.args.role (map member_parts c.in-Object.members) = c.shape_of-shape.ensures ∙ ap (λ (ms : List Member). shape_of c.args.role (map member_parts ms)) c.as_slice.ensures in
    subst (λ (j : OrderedJson). IsLeastOf (HasTableFault c.args.role j) c.least_of.result) (sym c.in-Object.is)
    (object-least c.args.role c.in-Object.place c.in-Object.members c.if-is_complete.own c.in_ok-inner-in-Object.inner c.least_of.result (not-expression c.args.role c.in_default.not-Expression) taken own_is
    (subst (λ (s : Option Shape). IsLeastOf (HasMemberFault c.args.role s (map member_parts c.in-Object.members)) c.in_ok-inner-in-Object.inner) shape_is
    (subst (λ (ms : List Member). IsLeastOf (HasMemberFault c.args.role c.shape_of-shape.result (map member_parts ms)) c.in_ok-inner-in-Object.inner) c.as_slice-in-Object-2.ensures c.in_ok-inner-in-Object.ensures))
    c.least_of.ensures)

pub first_fault-returns-in-Some : goal.first_fault-returns-in-Some
first_fault-returns-in-Some t c =
    let taken : takes c.args.role (json.List c.in-List.place c.in-List.items) ≡ true = ap (λ (j : OrderedJson). takes c.args.role j) (sym c.in-List.is) ∙ sym c.takes.ensures ∙ c.if-not-takes.false in
    subst (λ (j : OrderedJson). IfOk c.first_of_items.result (λ (found : Option ℕ). IsLeastOf (HasTableFault c.args.role j) found)) (sym c.in-List.is)
    (given-too (IsLeastOf (HasItemFault c.in-Some.part c.in-List.items)) (IsLeastOf (HasTableFault c.args.role (json.List c.in-List.place c.in-List.items))) c.first_of_items.result
    (λ (found : Option ℕ) (least : IsLeastOf (HasItemFault c.in-Some.part c.in-List.items) found). list-least c.args.role c.in-Some.part c.in-List.place c.in-List.items found (not-expression c.args.role c.in_default.not-Expression) taken (sym c.list_role.ensures ∙ c.in-Some.is) least)
    (subst (λ (js : List OrderedJson). IfOk c.first_of_items.result (λ (found : Option ℕ). IsLeastOf (HasItemFault c.in-Some.part js) found)) c.as_slice-in-Some.ensures c.first_of_items.ensures))

pub first_fault-returns-in-None : goal.first_fault-returns-in-None
first_fault-returns-in-None t c =
    let taken : takes c.args.role (json.List c.in-List.place c.in-List.items) ≡ true = ap (λ (j : OrderedJson). takes c.args.role j) (sym c.in-List.is) ∙ sym c.takes.ensures ∙ c.if-not-takes.false in
    subst (λ (j : OrderedJson). IsLeastOf (HasTableFault c.args.role j) None) (sym c.in-List.is)
    (no_list-least c.args.role c.in-List.place c.in-List.items (not-expression c.args.role c.in_default.not-Expression) taken (sym c.list_role.ensures ∙ c.in-None.is))

pub first_of_items-loop-item-init : goal.first_of_items-loop-item-init
first_of_items-loop-item-init t c = items-none c.args.role

pub first_of_items-loop-item-preserved : goal.first_of_items-loop-item-preserved
first_of_items-loop-item-preserved t c =
    let more_is : take (c.loop-item.item-index + 1) c.args.items.now ≡ take c.loop-item.item-index c.args.items.now ++ c.item-item.result ∷ [] = take_more c.args.items.now c.loop-item.item-index c.item-item.result c.loop-item-test.true ∙ ap (λ (j : OrderedJson). take c.loop-item.item-index c.args.items.now ++ j ∷ []) (sym c.item-item.is) in
    subst (λ (js : List OrderedJson). IsLeastOf (HasItemFault c.args.role js) c.least_of-least.result) (sym more_is)
    (subst (λ (o : Option ℕ). IsLeastOf (HasItemFault c.args.role (take c.loop-item.item-index c.args.items.now ++ c.item-item.result ∷ [])) o) (sym c.least_of-least.ensures)
    (items-more c.args.role (take c.loop-item.item-index c.args.items.now) c.item-item.result c.loop-item.least c.in_ok-first_fault.field-0 c.loop-item.invariant c.in_ok-first_fault.ensures))

pub first_of_items-returns : goal.first_of_items-returns
first_of_items-returns t c =
    subst (λ (js : List OrderedJson). IsLeastOf (HasItemFault c.args.role js) c.loop-item.least) (take_all c.loop-item.item-index c.args.items.now c.loop-item-test.false) c.loop-item.invariant

pub first_of_members-loop-member-init : goal.first_of_members-loop-member-init
first_of_members-loop-member-init t c = members-none c.args.role c.args.shape

pub first_of_members-loop-member-preserved : goal.first_of_members-loop-member-preserved
first_of_members-loop-member-preserved t c =
    let more_is : map member_parts (take (c.loop-member.member-index + 1) c.args.members.now) ≡ map member_parts (take c.loop-member.member-index c.args.members.now) ++ member_parts c.member-item.result ∷ [] =
    ap (λ (l : List Member). map member_parts l) (take_more c.args.members.now c.loop-member.member-index c.member-item.result c.loop-member-test.true ∙ ap (λ (m : Member). take c.loop-member.member-index c.args.members.now ++ m ∷ []) (sym c.member-item.is))
    ∙ map-append member_parts (take c.loop-member.member-index c.args.members.now) (c.member-item.result ∷ []) in
    let role_is : c.key_role.result ≡ key_role c.args.role c.args.shape (member_parts c.member-item.result).key = c.key_role.ensures ∙ ap (λ (k : List ℕ). key_role c.args.role c.args.shape k) c.as_bytes.ensures in
    let here : IsLeastOf (HasMemberFault c.args.role c.args.shape (member_parts c.member-item.result ∷ [])) c.match-key_role.found = elim c.match-key_role.branch [
      | first_of_members-in-Some+in_ok-found-in-Some w ↦
          subst (λ (o : Option ℕ). IsLeastOf (HasMemberFault c.args.role c.args.shape (member_parts c.member-item.result ∷ [])) o) (sym w.found-is)
          (one-value c.args.role c.args.shape (member_parts c.member-item.result) w.in-Some.part w.in_ok-found-in-Some.found (sym role_is ∙ w.in-Some.is) w.in_ok-found-in-Some.ensures)
      | first_of_members-in-None w ↦
          subst (λ (o : Option ℕ). IsLeastOf (HasMemberFault c.args.role c.args.shape (member_parts c.member-item.result ∷ [])) o) (sym w.found-is)
          (one-key c.args.role c.args.shape (member_parts c.member-item.result) (sym role_is ∙ w.in-None.is))
    ] in
    subst (λ (ms : List MemberParts). IsLeastOf (HasMemberFault c.args.role c.args.shape ms) c.least_of-least.result) (sym more_is)
    (subst (λ (o : Option ℕ). IsLeastOf (HasMemberFault c.args.role c.args.shape (map member_parts (take c.loop-member.member-index c.args.members.now) ++ member_parts c.member-item.result ∷ [])) o) (sym c.least_of-least.ensures)
    (members-more c.args.role c.args.shape (map member_parts (take c.loop-member.member-index c.args.members.now)) (member_parts c.member-item.result) c.loop-member.least c.match-key_role.found c.loop-member.invariant here))

pub first_of_members-returns : goal.first_of_members-returns
first_of_members-returns t c =
    subst (λ (ms : List Member). IsLeastOf (HasMemberFault c.args.role c.args.shape (map member_parts ms)) c.loop-member.least) (take_all c.loop-member.member-index c.args.members.now c.loop-member-test.false) c.loop-member.invariant
