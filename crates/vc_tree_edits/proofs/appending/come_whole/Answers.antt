-- The tree stays whole.
use Rattle.vc_tree_facing.proofs.Leaving.{if-ok}
use Rattle.vc_tree_edits.proofs.Sifting.{stayed}
use Rattle.vc_tree_edits.proofs.appending.come_whole.Goals as goal

pub returns : goal.returns
returns g c =
    if-ok c.shorten.result (λ whole left.
    stayed g.K.Ord.cmp g.met.K.Ord.total g.T.Build.keeps g.met.T.Build.keeps_refl (g.T.RadixNode.tree c.args.tree) _ c.args.from
    c.shorten.ensures.canonical c.requires left _ (λ v z k. k))
    c.shorten.ensures.left
