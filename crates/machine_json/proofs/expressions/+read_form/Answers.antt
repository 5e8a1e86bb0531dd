use Rattle.std.proofs.Common.{Vec, rules, ◌≡◌, ◌+◌, find, inl, inr, map, ℕ, ℤ, List, [], ◌∷◌, ◌++◌, take, length, sym, ap, ◌∙◌, subst, Option, Some, None, arith, refl, to_z, of_z, w64, ◌<◌, ◌≤◌, ◌⊎◌, Bor}
use Rattle.std.specs.Prelude.{Result, Ok, Err}
use Rattle.std.specs.Option.{option_copied}
use Rattle.std.specs.declared.alloc.Global.{Global}
use Rattle.std.proofs.lemmas.Grind.{common_steps}
use Rattle.std.proofs.lemmas.List.{take_more, take_all, map-append}
use Rattle.ordered_json.specs.declared.json.OrderedJson.{OrderedJson}
use Rattle.ordered_json.specs.declared.json.Member.{Member}
use Rattle.ordered_json.specs.Words.{MemberParts, as_list, as_text, key_of, member_parts}
use Rattle.xs_model.specs.declared.expr.Expr.{Expr}
use Rattle.xs_model.specs.declared.expr.Expr.TheVariants as expr
use Rattle.xs_model.specs.declared.expr.Expr.TheOpen.{Expr-F}
use Rattle.machine_json.specs.Expressions.{EachMeans, HasUnknownAmong, MeansExpr, IsExpressionReading, form_of, form_place, member_form, begins_with_dollar, object_form, none, object_place, only_operator, operator_of}
use Rattle.machine_json.specs.ExpressionParts.{HaveKeysAndMean, IsFirstUnknown, IsFormReading, joined, values_under, lesser}
use Rattle.machine_json.specs.JsonValues.{json_value}
use Rattle.machine_json.specs.declared.expressions.Operator.{Operator}
use Rattle.machine_json.specs.declared.expressions.Operator.TheVariants as operator
use Rattle.machine_json.specs.FirstFaults.{IsLeastPlace}
use Rattle.machine_json.specs.declared.expressions.FormFault.{FormFault}
use Rattle.machine_json.specs.declared.expressions.FormFault.TheVariants.{Unknown}
use Rattle.machine_json.proofs.ExpressionLemmas.{SoFar, bool-means, connect-reading, exact-three, exact-two, if-reading, int-means, list-form, list-items, lit-reading, member-reading, null-means, object-form, object-place, path-reading, reading-from_form, so_far-means, so_far-unknown, text-means, three-joined, two-joined, unary-reading}
use Rattle.machine_json.proofs.MemberLemmas.{MapSoFar, list-means, map-fault, map-reading, map_so_far-means, map_so_far-unknown, only-none, only-one, operator-reading}
use Rattle.machine_json.proofs.expressions.+read_form.Goals.{read_list-in-Ok+in_ok-map_err-in-Ok, read_list-in-Err-Unknown, read_map-in-Ok+in_ok-copy-in-Ok+in_ok-map_err-in-Ok, read_map-in-Err-Unknown, read_object-in_default-members-via-then-members-lt1, read_object-in_default-members-via-else-members-lt1+else-members-lt2}
use Rattle.machine_json.proofs.expressions.+read_form.Goals as goal

pub read_form-returns-in_err-parts-in-List : goal.read_form-returns-in_err-parts-in-List
read_form-returns-in_err-parts-in-List t c =
    let kept : c.from_residual-in_err-parts-in-List.result ≡ Err c.in_err-parts-in-List.field-0.0 = search rules in
    let is : form_of c.args.json.now ≡ Some (Expr-F.List c.in-List.items) = ap (λ (j : OrderedJson). form_of j) c.in-List.is ∙ list-form c.in-List.place c.in-List.items in
    subst (λ (r : Result Expr FormFault). IsExpressionReading c.args.answered c.args.json.now r) (sym kept)
    (reading-from_form c.args.answered c.args.json.now (Err c.in_err-parts-in-List.field-0.0) (Some (Expr-F.List c.in-List.items)) is
    (subst (λ (l : List OrderedJson). IsFirstUnknown c.args.answered l c.in_err-parts-in-List.field-0.0) c.as_slice.ensures c.in_err-parts-in-List.ensures.fault))

pub read_form-returns-in-Null : goal.read_form-returns-in-Null
read_form-returns-in-Null t c = subst (λ (j : OrderedJson). MeansExpr j expr.Null) (sym c.in-Null.is) (null-means c.in-Null.place)

pub read_form-returns-in-Bool : goal.read_form-returns-in-Bool
read_form-returns-in-Bool t c = subst (λ (j : OrderedJson). MeansExpr j (expr.Bool c.in-Bool.value)) (sym c.in-Bool.is) (bool-means c.in-Bool.place c.in-Bool.value)

pub read_form-returns-in-Int : goal.read_form-returns-in-Int
read_form-returns-in-Int t c =
    let kept : to_z w64 (of_z w64 c.in-Int.value) ≡ c.in-Int.value = search rules in
    subst (λ (n : ℤ). MeansExpr c.args.json.now (expr.Int n)) (sym kept)
    (subst (λ (j : OrderedJson). MeansExpr j (expr.Int c.in-Int.value)) (sym c.in-Int.is) (int-means c.in-Int.place c.in-Int.value))

pub read_form-returns-in_ok-copy-in-Text : goal.read_form-returns-in_ok-copy-in-Text
read_form-returns-in_ok-copy-in-Text t c =
    subst (λ (text : List ℕ). MeansExpr c.args.json.now (expr.Text text)) (sym c.in_ok-copy-in-Text.ensures)
    (subst (λ (j : OrderedJson). MeansExpr j (expr.Text c.in-Text.text)) (sym c.in-Text.is) (text-means c.in-Text.place c.in-Text.text))

pub read_form-returns-in_ok-parts-in-List : goal.read_form-returns-in_ok-parts-in-List
read_form-returns-in_ok-parts-in-List t c =
    let is : form_of c.args.json.now ≡ Some (Expr-F.List c.in-List.items) = ap (λ (j : OrderedJson). form_of j) c.in-List.is ∙ list-form c.in-List.place c.in-List.items in
    let each : EachMeans c.in-List.items c.from_vec.result = subst (λ (l : List OrderedJson). EachMeans l c.from_vec.result) c.as_slice.ensures (subst (λ (l : List Expr). EachMeans c.as_slice.result.now l) (sym c.from_vec.ensures) c.in_ok-parts-in-List.ensures.ok) in
    reading-from_form c.args.answered c.args.json.now (Ok (expr.List c.from_vec.result)) (Some (Expr-F.List c.in-List.items)) is (list-means c.in-List.items c.from_vec.result each)

pub read_form-returns-in-Object : goal.read_form-returns-in-Object
read_form-returns-in-Object t c =
    let place_is : form_place c.args.answered c.args.json.now ≡ object_place c.args.answered c.in-Object.place (map member_parts c.in-Object.members) = ap (λ (j : OrderedJson). form_place c.args.answered j) c.in-Object.is ∙ object-place c.args.answered c.in-Object.place c.in-Object.members in
    let is : form_of c.args.json.now ≡ object_form (map member_parts c.in-Object.members) = ap (λ (j : OrderedJson). form_of j) c.in-Object.is ∙ object-form c.in-Object.place c.in-Object.members in
    reading-from_form c.args.answered c.args.json.now c.read_object.result (object_form (map member_parts c.in-Object.members)) is
    (subst (λ (n : ℕ). IsFormReading c.args.answered n (object_form (map member_parts c.in-Object.members)) c.read_object.result) (sym place_is)
    (subst (λ (l : List Member). IsFormReading c.args.answered (object_place c.args.answered c.in-Object.place (map member_parts l)) (object_form (map member_parts l)) c.read_object.result) c.as_slice-in-Object.ensures c.read_object.ensures))

pub read_list-loop-item-init : goal.read_list-loop-item-init
read_list-loop-item-init t c = subst (λ (l : List Expr). EachMeans [] l) (sym c.in_ok-parts.ensures.items) none

pub read_list-loop-item-preserved : goal.read_list-loop-item-preserved
read_list-loop-item-preserved t c =
    let more_is : take (c.loop-item.item-index + 1) c.args.items.now ≡ take c.loop-item.item-index c.args.items.now ++ c.item-item.result ∷ [] = take_more c.args.items.now c.loop-item.item-index c.item-item.result c.loop-item-test.true ∙ ap (λ (j : OrderedJson). take c.loop-item.item-index c.args.items.now ++ j ∷ []) (sym c.item-item.is) in
    subst (λ (l : List OrderedJson). SoFar c.args.answered l c.match-read_form.parts.items c.match-read_form.least) (sym more_is)
    (elim c.match-read_form.branch [
      | read_list-in-Ok+in_ok-map_err-in-Ok w ↦
          (let parts_are : c.match-read_form.parts.items ≡ c.loop-item.parts.items ++ w.in-Ok.part ∷ [] = grind (arith, common_steps) in
          let least_is : c.match-read_form.least ≡ c.loop-item.least = w.least-is in
          subst (λ (l : List Expr). SoFar c.args.answered (take c.loop-item.item-index c.args.items.now ++ c.item-item.result ∷ []) l c.match-read_form.least) (sym parts_are)
          (subst (λ (o : Option ℕ). SoFar c.args.answered (take c.loop-item.item-index c.args.items.now ++ c.item-item.result ∷ []) (c.loop-item.parts.items ++ w.in-Ok.part ∷ []) o) (sym least_is)
          (so_far-means c.args.answered (take c.loop-item.item-index c.args.items.now) c.loop-item.parts.items c.loop-item.least c.item-item.result w.in-Ok.part c.loop-item.invariant w.in-Ok.ensures)))
      | read_list-in-Err-Unknown w ↦
          (let parts_are : c.match-read_form.parts.items ≡ c.loop-item.parts.items = ap (λ (v : Vec Expr Global). v.items) w.parts-is in
          let least_is : c.match-read_form.least ≡ lesser c.loop-item.least w.in-Err-Unknown.place = w.least-is ∙ w.lesser-least.ensures in
          subst (λ (l : List Expr). SoFar c.args.answered (take c.loop-item.item-index c.args.items.now ++ c.item-item.result ∷ []) l c.match-read_form.least) (sym parts_are)
          (subst (λ (o : Option ℕ). SoFar c.args.answered (take c.loop-item.item-index c.args.items.now ++ c.item-item.result ∷ []) c.loop-item.parts.items o) (sym least_is)
          (so_far-unknown c.args.answered (take c.loop-item.item-index c.args.items.now) c.loop-item.parts.items c.loop-item.least c.item-item.result w.in-Err-Unknown.place c.loop-item.invariant (subst (λ (f : FormFault). IsExpressionReading c.args.answered c.item-item.result (Err f)) w.in-Err-Unknown.field-0-is w.in-Err-Unknown.ensures))))
    ])

pub read_list-returns-in-Some-clause-fault : goal.read_list-returns-in-Some-clause-fault
read_list-returns-in-Some-clause-fault t c =
    subst (λ (l : List OrderedJson). IsLeastPlace (HasUnknownAmong c.args.answered l) c.in-Some.place) (take_all c.loop-item.item-index c.args.items.now c.loop-item-test.false)
    (subst (λ (o : Option ℕ). SoFar c.args.answered (take c.loop-item.item-index c.args.items.now) c.loop-item.parts.items o) c.in-Some.is c.loop-item.invariant)

pub read_list-returns-in-None-clause-ok : goal.read_list-returns-in-None-clause-ok
read_list-returns-in-None-clause-ok t c =
    subst (λ (l : List OrderedJson). EachMeans l c.loop-item.parts.items) (take_all c.loop-item.item-index c.args.items.now c.loop-item-test.false)
    (subst (λ (o : Option ℕ). SoFar c.args.answered (take c.loop-item.item-index c.args.items.now) c.loop-item.parts.items o) c.in-None.is c.loop-item.invariant)

pub read_map-loop-member-init : goal.read_map-loop-member-init
read_map-loop-member-init t c = subst (λ (l : List (List ℕ × Expr)). HaveKeysAndMean [] l) (sym c.in_ok-parts.ensures.items) (record { keys = refl; values = none })

pub read_map-loop-member-preserved : goal.read_map-loop-member-preserved
read_map-loop-member-preserved t c =
    let more_is : map member_parts (take (c.loop-member.member-index + 1) c.args.members.now) ≡ map member_parts (take c.loop-member.member-index c.args.members.now) ++ member_parts c.member-item.result ∷ [] =
    ap (λ (l : List Member). map member_parts l) (take_more c.args.members.now c.loop-member.member-index c.member-item.result c.loop-member-test.true ∙ ap (λ (m : Member). take c.loop-member.member-index c.args.members.now ++ m ∷ []) (sym c.member-item.is))
    ∙ map-append member_parts (take c.loop-member.member-index c.args.members.now) (c.member-item.result ∷ []) in
    subst (λ (l : List MemberParts). MapSoFar c.args.answered l c.match-read_form.parts.items c.match-read_form.least) (sym more_is)
    (elim c.match-read_form.branch [
      | read_map-in-Ok+in_ok-copy-in-Ok+in_ok-map_err-in-Ok w ↦
          (let parts_are : c.match-read_form.parts.items ≡ c.loop-member.parts.items ++ ((member_parts c.member-item.result).key, w.in-Ok.part) ∷ [] = grind (arith, common_steps) in
          let least_is : c.match-read_form.least ≡ c.loop-member.least = w.least-is in
          subst (λ (l : List (List ℕ × Expr)). MapSoFar c.args.answered (map member_parts (take c.loop-member.member-index c.args.members.now) ++ member_parts c.member-item.result ∷ []) l c.match-read_form.least) (sym parts_are)
          (subst (λ (o : Option ℕ). MapSoFar c.args.answered (map member_parts (take c.loop-member.member-index c.args.members.now) ++ member_parts c.member-item.result ∷ []) (c.loop-member.parts.items ++ ((member_parts c.member-item.result).key, w.in-Ok.part) ∷ []) o) (sym least_is)
          (map_so_far-means c.args.answered (map member_parts (take c.loop-member.member-index c.args.members.now)) c.loop-member.parts.items c.loop-member.least (member_parts c.member-item.result) w.in-Ok.part c.loop-member.invariant w.in-Ok.ensures)))
      | read_map-in-Err-Unknown w ↦
          (let parts_are : c.match-read_form.parts.items ≡ c.loop-member.parts.items = ap (λ (v : Vec (List ℕ × Expr) Global). v.items) w.parts-is in
          let least_is : c.match-read_form.least ≡ lesser c.loop-member.least w.in-Err-Unknown.place = w.least-is ∙ w.lesser-least.ensures ∙ ap (λ (n : ℕ). lesser c.loop-member.least n) w.in-Err-Unknown.place-is in
          subst (λ (l : List (List ℕ × Expr)). MapSoFar c.args.answered (map member_parts (take c.loop-member.member-index c.args.members.now) ++ member_parts c.member-item.result ∷ []) l c.match-read_form.least) (sym parts_are)
          (subst (λ (o : Option ℕ). MapSoFar c.args.answered (map member_parts (take c.loop-member.member-index c.args.members.now) ++ member_parts c.member-item.result ∷ []) c.loop-member.parts.items o) (sym least_is)
          (map_so_far-unknown c.args.answered (map member_parts (take c.loop-member.member-index c.args.members.now)) c.loop-member.parts.items c.loop-member.least (member_parts c.member-item.result) w.in-Err-Unknown.place c.loop-member.invariant (subst (λ (f : FormFault). IsExpressionReading c.args.answered (member_parts c.member-item.result).value (Err f)) w.in-Err-Unknown.field-0-is w.in-Err-Unknown.ensures))))
    ])

pub read_map-returns-in-Some-clause-fault : goal.read_map-returns-in-Some-clause-fault
read_map-returns-in-Some-clause-fault t c =
    subst (λ (l : List Member). IsLeastPlace (HasUnknownAmong c.args.answered (values_under (map member_parts l))) c.in-Some.place) (take_all c.loop-member.member-index c.args.members.now c.loop-member-test.false)
    (subst (λ (o : Option ℕ). MapSoFar c.args.answered (map member_parts (take c.loop-member.member-index c.args.members.now)) c.loop-member.parts.items o) c.in-Some.is c.loop-member.invariant)

pub read_map-returns-in-None-clause-ok : goal.read_map-returns-in-None-clause-ok
read_map-returns-in-None-clause-ok t c =
    subst (λ (l : List Member). MapSoFar c.args.answered (map member_parts l) c.loop-member.parts.items None) (take_all c.loop-member.member-index c.args.members.now c.loop-member-test.false)
    (subst (λ (o : Option ℕ). MapSoFar c.args.answered (map member_parts (take c.loop-member.member-index c.args.members.now)) c.loop-member.parts.items o) c.in-None.is c.loop-member.invariant)

pub read_object-returns-in_err-parts : goal.read_object-returns-in_err-parts
read_object-returns-in_err-parts t c =
    let kept : c.from_residual.result ≡ Err c.in_err-parts.field-0.0 = search rules in
    let found : find (λ (m : Member). begins_with_dollar (key_of m)) c.args.members.now ≡ None = sym c.first_operator.ensures ∙ ap (λ (o : Option (Bor Member)). option_copied o) c.in_default.is in
    subst (λ (r : Result Expr FormFault). IsFormReading c.args.answered (object_place c.args.answered c.args.place (map member_parts c.args.members.now)) (object_form (map member_parts c.args.members.now)) r) (sym kept)
    (map-fault c.args.answered (object_place c.args.answered c.args.place (map member_parts c.args.members.now)) c.args.members.now c.in_err-parts.field-0.0 found c.in_err-parts.ensures.fault)

pub read_object-returns-in_default : goal.read_object-returns-in_default
read_object-returns-in_default t c =
    let found : find (λ (m : Member). begins_with_dollar (key_of m)) c.args.members.now ≡ None = sym c.first_operator.ensures ∙ ap (λ (o : Option (Bor Member)). option_copied o) c.in_default.is in
    map-reading c.args.answered (object_place c.args.answered c.args.place (map member_parts c.args.members.now)) c.args.members.now c.from_vec.result found
    (subst (λ (l : List (List ℕ × Expr)). HaveKeysAndMean (map member_parts c.args.members.now) l) (sym c.from_vec.ensures) c.in_ok-parts.ensures.ok)

pub read_object-returns-in-len1 : goal.read_object-returns-in-len1
read_object-returns-in-len1 t c =
    let found : find (λ (m : Member). begins_with_dollar (key_of m)) c.args.members.now ≡ Some c.in-Some.first.now = sym c.first_operator.ensures ∙ ap (λ (o : Option (Bor Member)). option_copied o) c.in-Some.is in
    let one : c.args.members.now ≡ c.only-item.result ∷ [] = only-one c.args.members.now c.only-item.result c.in-len1.len_at_least c.in-len1.len_below c.only-item.is in
    operator-reading c.args.answered c.args.place c.unknown_place-unknown.result c.args.members.now c.in-Some.first.now (member_form (member_parts c.only-item.result)) c.read_operator.result found c.unknown_place-unknown.ensures
    (ap (λ (l : List Member). only_operator (map member_parts l)) one) c.read_operator.ensures

pub read_object-returns-in_default-members : goal.read_object-returns-in_default-members
read_object-returns-in_default-members t c =
    let found : find (λ (m : Member). begins_with_dollar (key_of m)) c.args.members.now ≡ Some c.in-Some.first.now = sym c.first_operator.ensures ∙ ap (λ (o : Option (Bor Member)). option_copied o) c.in-Some.is in
    let several : (length c.args.members.now < 1) ⊎ (2 ≤ length c.args.members.now) = elim c.in_default-members.branch [ read_object-in_default-members-via-then-members-lt1 w ↦ inl (search rules) | read_object-in_default-members-via-else-members-lt1+else-members-lt2 w ↦ inr (search rules) ] in
    operator-reading c.args.answered c.args.place c.unknown_place-unknown.result c.args.members.now c.in-Some.first.now None (Err (Unknown c.unknown_place-unknown.result)) found c.unknown_place-unknown.ensures (only-none c.args.members.now several) refl

pub read_operator-returns-in_err-a-in-Unary : goal.read_operator-returns-in_err-a-in-Unary
read_operator-returns-in_err-a-in-Unary t c =
    let op_is : operator_of (member_parts c.args.member.now).key ≡ Some (operator.Unary c.in-Unary.op) = sym (c.operator_of.ensures ∙ ap (λ (k : List ℕ). operator_of k) c.as_bytes.ensures) ∙ c.in-Some.is ∙ ap (λ (o : Operator). Some o) c.in-Unary.is in
    let kept : c.from_residual-in_err-a-in-Unary.result ≡ Err c.in_err-a-in-Unary.field-0.0 = search rules in
    subst (λ (r : Result Expr FormFault). IsFormReading c.args.answered c.args.unknown (member_form (member_parts c.args.member.now)) r) (sym kept)
    (member-reading c.args.answered c.args.unknown (member_parts c.args.member.now) (operator.Unary c.in-Unary.op) (Err c.in_err-a-in-Unary.field-0.0) op_is
    (unary-reading c.args.answered c.args.unknown c.in-Unary.op (member_parts c.args.member.now).value (Err c.in_err-a-in-Unary.field-0.0) c.in_err-a-in-Unary.ensures))

pub read_operator-returns-in_err-a-in-Connect : goal.read_operator-returns-in_err-a-in-Connect
read_operator-returns-in_err-a-in-Connect t c =
    let op_is : operator_of (member_parts c.args.member.now).key ≡ Some (operator.Connect c.in-Connect.op) = sym (c.operator_of.ensures ∙ ap (λ (k : List ℕ). operator_of k) c.as_bytes.ensures) ∙ c.in-Some.is ∙ ap (λ (o : Operator). Some o) c.in-Connect.is in
    let kept : c.from_residual-in_err-a-in-Connect.result ≡ Err c.in_err-a-in-Connect.field-0.0 = search rules in
    subst (λ (r : Result Expr FormFault). IsFormReading c.args.answered c.args.unknown (member_form (member_parts c.args.member.now)) r) (sym kept)
    (member-reading c.args.answered c.args.unknown (member_parts c.args.member.now) (operator.Connect c.in-Connect.op) (Err c.in_err-a-in-Connect.field-0.0) op_is
    (connect-reading c.args.answered c.args.unknown c.in-Connect.op (as_list (member_parts c.args.member.now).value) (Err c.in_err-a-in-Connect.field-0.0) c.in_err-a-in-Connect.ensures))

pub read_operator-returns-in_err-test-in-If : goal.read_operator-returns-in_err-test-in-If
read_operator-returns-in_err-test-in-If t c =
    let op_is : operator_of (member_parts c.args.member.now).key ≡ Some operator.If = sym (c.operator_of.ensures ∙ ap (λ (k : List ℕ). operator_of k) c.as_bytes.ensures) ∙ c.in-Some.is ∙ ap (λ (o : Operator). Some o) c.in-If.is in
    let kept : c.from_residual-in_err-test-in-If.result ≡ Err c.in_err-test-in-If.field-0.0 = search rules in
    subst (λ (r : Result Expr FormFault). IsFormReading c.args.answered c.args.unknown (member_form (member_parts c.args.member.now)) r) (sym kept)
    (member-reading c.args.answered c.args.unknown (member_parts c.args.member.now) operator.If (Err c.in_err-test-in-If.field-0.0) op_is
    (if-reading c.args.answered c.args.unknown (as_list (member_parts c.args.member.now).value) (Err c.in_err-test-in-If.field-0.0) c.in_err-test-in-If.ensures))

pub read_operator-returns-in-Path : goal.read_operator-returns-in-Path
read_operator-returns-in-Path t c =
    let op_is : operator_of (member_parts c.args.member.now).key ≡ Some (operator.Path c.in-Path.root) = sym (c.operator_of.ensures ∙ ap (λ (k : List ℕ). operator_of k) c.as_bytes.ensures) ∙ c.in-Some.is ∙ ap (λ (o : Operator). Some o) c.in-Path.is in
    member-reading c.args.answered c.args.unknown (member_parts c.args.member.now) (operator.Path c.in-Path.root) c.read_path.result op_is
    (path-reading c.args.answered c.args.unknown c.in-Path.root (as_text (member_parts c.args.member.now).value) c.read_path.result c.read_path.ensures)

pub read_operator-returns-in_ok-a-in-Unary : goal.read_operator-returns-in_ok-a-in-Unary
read_operator-returns-in_ok-a-in-Unary t c =
    let op_is : operator_of (member_parts c.args.member.now).key ≡ Some (operator.Unary c.in-Unary.op) = sym (c.operator_of.ensures ∙ ap (λ (k : List ℕ). operator_of k) c.as_bytes.ensures) ∙ c.in-Some.is ∙ ap (λ (o : Operator). Some o) c.in-Unary.is in
    member-reading c.args.answered c.args.unknown (member_parts c.args.member.now) (operator.Unary c.in-Unary.op) (Ok (expr.Unary c.in-Unary.op c.in_ok-a-in-Unary.a)) op_is
    (unary-reading c.args.answered c.args.unknown c.in-Unary.op (member_parts c.args.member.now).value (Ok c.in_ok-a-in-Unary.a) c.in_ok-a-in-Unary.ensures)

pub read_operator-returns-in_ok-a-in-Connect : goal.read_operator-returns-in_ok-a-in-Connect
read_operator-returns-in_ok-a-in-Connect t c =
    let op_is : operator_of (member_parts c.args.member.now).key ≡ Some (operator.Connect c.in-Connect.op) = sym (c.operator_of.ensures ∙ ap (λ (k : List ℕ). operator_of k) c.as_bytes.ensures) ∙ c.in-Some.is ∙ ap (λ (o : Operator). Some o) c.in-Connect.is in
    member-reading c.args.answered c.args.unknown (member_parts c.args.member.now) (operator.Connect c.in-Connect.op) (Ok (expr.Connect c.in-Connect.op c.in_ok-a-in-Connect.a c.in_ok-a-in-Connect.b)) op_is
    (connect-reading c.args.answered c.args.unknown c.in-Connect.op (as_list (member_parts c.args.member.now).value) (Ok (c.in_ok-a-in-Connect.a, c.in_ok-a-in-Connect.b)) c.in_ok-a-in-Connect.ensures)

pub read_operator-returns-in_ok-test-in-If : goal.read_operator-returns-in_ok-test-in-If
read_operator-returns-in_ok-test-in-If t c =
    let op_is : operator_of (member_parts c.args.member.now).key ≡ Some operator.If = sym (c.operator_of.ensures ∙ ap (λ (k : List ℕ). operator_of k) c.as_bytes.ensures) ∙ c.in-Some.is ∙ ap (λ (o : Operator). Some o) c.in-If.is in
    member-reading c.args.answered c.args.unknown (member_parts c.args.member.now) operator.If (Ok (expr.If c.in_ok-test-in-If.test c.in_ok-test-in-If.a c.in_ok-test-in-If.b)) op_is
    (if-reading c.args.answered c.args.unknown (as_list (member_parts c.args.member.now).value) (Ok (c.in_ok-test-in-If.test, (c.in_ok-test-in-If.a, c.in_ok-test-in-If.b))) c.in_ok-test-in-If.ensures)

pub read_operator-returns-in_ok-json_value-in-Lit : goal.read_operator-returns-in_ok-json_value-in-Lit
read_operator-returns-in_ok-json_value-in-Lit t c =
    let op_is : operator_of (member_parts c.args.member.now).key ≡ Some operator.Lit = sym (c.operator_of.ensures ∙ ap (λ (k : List ℕ). operator_of k) c.as_bytes.ensures) ∙ c.in-Some.is ∙ ap (λ (o : Operator). Some o) c.in-Lit.is in
    member-reading c.args.answered c.args.unknown (member_parts c.args.member.now) operator.Lit (Ok (expr.Lit c.in_ok-json_value-in-Lit.field-0)) op_is
    (lit-reading c.args.answered c.args.unknown (json_value (member_parts c.args.member.now).value) c.in_ok-json_value-in-Lit.field-0 c.in_ok-json_value-in-Lit.ensures)

pub read_three-returns : goal.read_three-returns
read_three-returns t c =
    let items_are : c.in-List.items ≡ c.test-item.result ∷ c.a-item.result ∷ c.b-item.result ∷ [] = sym c.as_slice.ensures ∙ exact-three c.as_slice.result.now c.test-item.result c.a-item.result c.b-item.result c.in-len3.len_at_least c.in-len3.len_below c.test-item.is c.a-item.is c.b-item.is in
    let under_is : as_list c.args.under.now ≡ Some (c.test-item.result ∷ c.a-item.result ∷ c.b-item.result ∷ []) = ap (λ (j : OrderedJson). as_list j) c.in-List.is ∙ list-items c.in-List.place c.in-List.items ∙ ap (λ (l : List OrderedJson). Some l) items_are in
    three-joined c.args.answered c.args.unknown (as_list c.args.under.now) c.test-item.result c.a-item.result c.b-item.result c.read_operand-test.result c.read_operand-first.result c.read_operand-second.result c.join-2.result under_is
    (c.join-2.ensures ∙ ap (λ (r : Result (Expr × Expr) FormFault). joined c.read_operand-test.result r) c.join.ensures) c.read_operand-test.ensures c.read_operand-first.ensures c.read_operand-second.ensures

pub read_two-returns : goal.read_two-returns
read_two-returns t c =
    let items_are : c.in-List.items ≡ c.a-item.result ∷ c.b-item.result ∷ [] = sym c.as_slice.ensures ∙ exact-two c.as_slice.result.now c.a-item.result c.b-item.result c.in-len2.len_at_least c.in-len2.len_below c.a-item.is c.b-item.is in
    let under_is : as_list c.args.under.now ≡ Some (c.a-item.result ∷ c.b-item.result ∷ []) = ap (λ (j : OrderedJson). as_list j) c.in-List.is ∙ list-items c.in-List.place c.in-List.items ∙ ap (λ (l : List OrderedJson). Some l) items_are in
    two-joined c.args.answered c.args.unknown (as_list c.args.under.now) c.a-item.result c.b-item.result c.read_operand-first.result c.read_operand-second.result c.join.result under_is c.join.ensures c.read_operand-first.ensures c.read_operand-second.ensures
