-- A copy of the whole tree.
use Rattle.std.proofs.Common.{arith}
use Rattle.vc_tree_facing.proofs.Next.{made-left}
use Rattle.vc_tree_combines.proofs.Alone.{copy-added, kept_copies}
use Rattle.vc_tree_combines.proofs.combines.CopyAllCombine.add_left.Goals as goal

pub returns : goal.returns
returns g c =
    copy-added g.V.Clone.is_clone _ _ g.M.RadixNode.tree (λ v z h. grind (arith, kept_copies)) (λ o. made-left)
    c.copy_onto.ensures.canonical c.requires.within c.copy_onto.result _ _ c.copy_onto.ensures.alike
