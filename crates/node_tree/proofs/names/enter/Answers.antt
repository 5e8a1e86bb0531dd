use Rattle.std.proofs.Common.{◌≡◌, ℕ, List, sym, ◌∙◌, ap, Global}
use Rattle.std.specs.Prelude.{None, Vec}
use Rattle.std.specs.Option.{option_copied}
use Rattle.node_tree.specs.Tables.{node_named}
use Rattle.node_tree.proofs.NameLemmas.{lookup-insert_entry}
use Rattle.node_tree.proofs.names.enter.Goals as goal

pub returns-clause-after : goal.returns-clause-after
returns-clause-after c = λ q.
    let absent : node_named c.args.names.now c.args.name.now ≡ None = sym c.get.ensures.value ∙ ap option_copied c.in_default.is in
    let view : Vec ℕ Global → List ℕ = λ name. name.items in
    rw (absent, ← c.in_ok-from_slice.ensures.items, c.in_ok-insert.ensures.entries) (lookup-insert_entry view c.args.names.now.entries c.in_ok-from_slice.field-0 c.args.n q)
