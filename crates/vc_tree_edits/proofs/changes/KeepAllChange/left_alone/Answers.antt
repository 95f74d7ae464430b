-- The tree stays whole.
use Rattle.vc_tree_facing.proofs.Leaving.{if-ok}
use Rattle.vc_tree_edits.specs.Editing.{KeptThen}
use Rattle.vc_tree_edits.proofs.Meeting.{alone-outer}
use Rattle.vc_tree_edits.proofs.Sifting.{stayed}
use Rattle.vc_tree_edits.proofs.changes.KeepAllChange.left_alone.Goals as goal

pub returns : goal.returns
returns g c =
    if-ok c.shorten.result (λ made left.
    stayed g.K.Ord.cmp g.met.K.Ord.total g.T.Build.keeps g.met.T.Build.keeps_refl (g.T.RadixNode.tree c.args.tree) _ c.args.from
    c.shorten.ensures.canonical c.requires.within left _
    (alone-outer g.T.Build.keeps g.V.Clone.is_clone (KeptThen g.T.Build.keeps (g.M.Meet.may c.args.self.now.at.now))))
    c.shorten.ensures.left
