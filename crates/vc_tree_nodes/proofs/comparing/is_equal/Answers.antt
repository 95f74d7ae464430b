-- The test says that the trees are the same, and canonical trees are the same exactly where their maps are equal.
use Rattle.std.specs.Prelude.{IsTrue}
use Rattle.vc_tree_nodes.specs.SameTests.{same_tree-is}
use Rattle.vc_tree_model.proofs.Uniqueness.{canonical-unique}
use Rattle.vc_tree_nodes.proofs.comparing.is_equal.Goals as goal

pub returns-clause-same : goal.returns-clause-same
returns-clause-same g c =
    rw c.has_same_nodes.ensures
    (same_tree-is g.K.Ord.cmp g.V.PartialEq.eq (g.T.RadixNode.tree c.args.left.now) (g.T.RadixNode.tree c.args.right.now))

pub returns-clause-maps : goal.returns-clause-maps
returns-clause-maps g c =
    let t = (g.T.RadixNode.tree c.args.left.now) in
    let u = (g.T.RadixNode.tree c.args.right.now) in
    let test = same_tree-is g.K.Ord.cmp g.V.PartialEq.eq t u in
    let one =
    canonical-unique g.K.Ord.cmp g.met.K.Ord.total (λ v w. IsTrue (g.V.PartialEq.eq v w)) t u
    c.canonical.ensures c.canonical-2.ensures in
    rw c.has_same_nodes.ensures
    (λ e. one.0 (test.0 e), λ m. test.1 (one.1 m))
