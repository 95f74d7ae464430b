-- A copy of the tree comes in.
use Rattle.vc_tree_facing.proofs.Copied.{copied-by}
use Rattle.vc_tree_facing.proofs.Leaving.{if-ok}
use Rattle.vc_tree_edits.proofs.changes.KeepAllChange.right_alone.Goals as goal

pub returns : goal.returns
returns g c =
    if-ok c.copy_shortened.result (λ made alike.
    copied-by g.K.Ord.cmp g.V.Clone.is_clone (g.B.RadixNode.tree c.args.tree.now) _ c.args.from
    c.copy_shortened.ensures.canonical c.requires.within alike _ (λ v z k. k))
    c.copy_shortened.ensures.alike
