-- A key that goes alone leaves nothing of a tree without children; all begins with a key that is no longer than the prefix.
use Rattle.std.proofs.Common.{ap, length}
use Rattle.std.specs.Prelude.{leb}
use Rattle.vc_tree_removal.proofs.Reaching.{alone-tells, below-tells}
use Rattle.vc_tree_removal.proofs.removal.goes_wholly.Goals as goal

pub returns-in-Alone : goal.returns-in-Alone
returns-in-Alone g c =
    rw c.in-Alone.is (alone-tells g.met.K.Ord.total (g.T.RadixNode.tree c.args.tree.now) (rw c.in-Alone.is at c.requires)
    g.T.RadixNode.tree c.children.result.now _ c.is_empty.ensures c.children.ensures)

pub returns-in-Below : goal.returns-in-Below
returns-in-Below g c =
    rw c.in-Below.is (below-tells g.met.K.Ord.total (g.T.RadixNode.tree c.args.tree.now) (rw c.in-Below.is at c.requires) _
    (ap (λ p. leb (length c.args.key.now) (length p)) c.prefix.ensures.value))
