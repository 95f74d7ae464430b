-- A canonical tree that is not bare binds a key.
use Rattle.vc_tree_nodes.proofs.Bareness.{bare-keys}
use Rattle.vc_trees.proofs.radix_tree.reading.AbstractRadixTree.is_empty.Goals as goal

pub returns-clause-keys : goal.returns-clause-keys
returns-clause-keys g c =
    bare-keys g.K.Ord.cmp g.met.K.Ord.total (g.Self.RadixNode.tree c.args.self.now) c.canonical.ensures c.is_empty.result
    c.is_empty.ensures
