-- A copy of the whole tree.
use Rattle.vc_tree_facing.proofs.Next.{made-right}
use Rattle.vc_tree_combines.proofs.Alone.{copy-added}
use Rattle.vc_tree_combines.proofs.combines.OuterCombine.add_right.Goals as goal

pub returns : goal.returns
returns g c =
    copy-added g.V.Clone.is_clone _ _ g.M.RadixNode.tree (λ v z h. h) (λ o. made-right)
    c.copy_onto.ensures.canonical c.requires.within c.copy_onto.result _ _ c.copy_onto.ensures.alike
