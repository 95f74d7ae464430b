-- A root of which all keys go leaves the empty tree, and any other loses what goes.
use Rattle.vc_tree_removal.proofs.Parting.{divides-root}
use Rattle.vc_tree_removal.proofs.Staying.{deep-stays}
use Rattle.vc_tree_removal.proofs.removal.remove_met.Goals as goal

pub returns-then-goes_wholly-clause-ok : goal.returns-then-goes_wholly-clause-ok
returns-then-goes_wholly-clause-ok g c =
    rw c.take_root.ensures.taken (divides-root g.met.K.Ord.total g.T.Build.keeps g.met.T.Build.keeps_refl
    (g.T.RadixNode.tree c.args.tree.now) _ c.requires c.canonical.ensures c.take_root.ensures.is c.if-goes_wholly.ensures)

pub returns-in_err-taken-clause-all : goal.returns-in_err-taken-clause-all
returns-in_err-taken-clause-all g c e all =
    deep-stays g.met.K.Ord.total (g.T.RadixNode.tree c.args.tree.now) c.args.key.now c.canonical.ensures
    (rw e at c.if-goes_wholly.ensures) all
