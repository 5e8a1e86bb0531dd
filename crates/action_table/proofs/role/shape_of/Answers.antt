use Rattle.std.proofs.Common.{◌≡◌, ◌+◌, ◌<◌, length, ℕ, List, drop, get_or, map, sym, ap, ◌∙◌, Option, Some, None}
use Rattle.std.specs.Option.{option_map_or}
use Rattle.std.proofs.lemmas.List.{at_drop_all, at_drop_more}
use Rattle.ordered_json.specs.declared.json.Member.{Member}
use Rattle.ordered_json.specs.Words.{key_of, member_parts}
use Rattle.action_table.specs.declared.role.Shape.{Shape}
use Rattle.action_table.specs.declared.role.TableRole.{TableRole}
use Rattle.action_table.specs.Shapes.{named_shape, shape_of}
use Rattle.action_table.proofs.role.shape_of.Goals as goal

-- the form of what is left, by its first member
next : (where_it_stands : TableRole) (members : List Member) (i : ℕ) (member : Member) (named : Option Shape) → i < length members → member ≡ get_or members i member → named ≡ named_shape where_it_stands (key_of member)
    → shape_of where_it_stands (map member_parts (drop i members)) ≡ option_map_or Some named (shape_of where_it_stands (map member_parts (drop (i + 1) members)))
next where_it_stands members i member named below is named_is =
    at_drop_more (λ (ms : List Member). shape_of where_it_stands (map member_parts ms)) members i member below
    ∙ ap (λ (m : Member). option_map_or Some (named_shape where_it_stands (key_of m)) (shape_of where_it_stands (map member_parts (drop (i + 1) members)))) (sym is)
    ∙ ap (λ (o : Option Shape). option_map_or Some o (shape_of where_it_stands (map member_parts (drop (i + 1) members)))) (sym named_is)

pub loop-member-preserved : goal.loop-member-preserved
loop-member-preserved c =
    c.loop-member.invariant
    ∙ next c.args.role c.args.members.now c.loop-member.member-index c.member-item.result None c.loop-member-test.true c.member-item.is
    (sym c.in_default.is ∙ c.named_shape.ensures ∙ ap (λ (k : List ℕ). named_shape c.args.role k) c.as_bytes.ensures)

pub returns-in-Some : goal.returns-in-Some
returns-in-Some c =
    sym (c.loop-member.invariant
    ∙ next c.args.role c.args.members.now c.loop-member.member-index c.member-item.result (Some c.in-Some.shape) c.loop-member-test.true c.member-item.is
    (sym c.in-Some.is ∙ c.named_shape.ensures ∙ ap (λ (k : List ℕ). named_shape c.args.role k) c.as_bytes.ensures))

pub returns : goal.returns
returns c =
    sym (c.loop-member.invariant ∙ at_drop_all (λ (ms : List Member). shape_of c.args.role (map member_parts ms)) c.args.members.now c.loop-member.member-index c.loop-member-test.false)
