use Rattle.std.proofs.Common.{◌≡◌, ◌≤◌, ◌+◌, ◌^◌, length, arith, sym, ◌∙◌, decimal, ap, zero-add}
use Rattle.xs_model.proofs.PathLemmas.{member_at-none, member_at-some, path_step-List}
use Rattle.xs_model.proofs.paths.path_step.Goals as goal

pub returns-in_err-place_of_key-in-List : goal.returns-in_err-place_of_key-in-List
returns-in_err-place_of_key-in-List c =
    let members = c.in-List.members in
    let fits : 0 + length members ≤ 2 ^ 63 = rw (← c.as_slice.ensures) (omega (arith, c.as_slice.type_inv)) in
    rw (c.from_residual.ensures, c.in-List.is, path_step-List) (sym (member_at-none c.args.key.now 0 members fits c.in_err-place_of_key-in-List.ensures))

pub returns-in_ok-place_of_key-in-List : goal.returns-in_ok-place_of_key-in-List
returns-in_ok-place_of_key-in-List c =
    let members = c.in-List.members in
    let place = c.in_ok-place_of_key-in-List.field-0 in
    let fits : 0 + length members ≤ 2 ^ 63 = rw (← c.as_slice.ensures) (omega (arith, c.as_slice.type_inv)) in
    let is : decimal (0 + place) ≡ c.args.key.now = ap decimal (zero-add place) ∙ c.in_ok-place_of_key-in-List.ensures.0 in
    rw (c.at.ensures, c.as_slice.ensures, c.in-List.is, path_step-List) (sym (member_at-some c.args.key.now 0 place members fits (omega (arith, c.in_ok-place_of_key-in-List.ensures.1)) is))
