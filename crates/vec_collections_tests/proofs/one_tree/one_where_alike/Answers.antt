-- Each tree is canonical, and canonical trees that bind the same are one tree.
use Rattle.vec_collections_tests.proofs.one_tree.one_where_alike.Goals as goal

pub returns : goal.returns
returns g c =
    c.canonical_is_unique.ensures (g.S.RadixNode.tree c.args.a.now) (g.T.RadixNode.tree c.args.b.now)
    c.prefix.ensures.canonical c.prefix-2.ensures.canonical
