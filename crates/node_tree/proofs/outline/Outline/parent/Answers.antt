use Rattle.std.proofs.Common.{◌<◌, length, refl}
use Rattle.std.proofs.lemmas.Option.{slice_get_read}
use Rattle.node_tree.proofs.TreeLemmas.{read_parent_first}
use Rattle.node_tree.proofs.outline.Outline.parent.Goals as goal

pub returns-clause-first : goal.returns-clause-first
returns-clause-first c =
    let inside : c.args.n < length c.self.inside.nodes.items = rw c.self.view_is c.requires in
    read_parent_first c.self.inside.nodes.items c.self.invariant.rows c.args.n c.index.result.now
    (slice_get_read c.self.inside.nodes.items (length c.self.inside.nodes.items) c.args.n c.index.result.now refl inside c.index.ensures)
