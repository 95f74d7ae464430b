-- The walk from the lower key on, up to the first key that is not less than the upper one.
use Rattle.vc_tree_model.specs.Map.{lookup}
use Rattle.vc_tree_walks.specs.Bounds.{not_below}
use Rattle.vc_tree_walks.specs.IterLeft.{pairs_left}
use Rattle.vc_tree_walks.proofs.Bounded.{walk-until}
use Rattle.vc_tree_walks.proofs.range.Range.new.Goals as goal

pub returns : goal.returns
returns g c =
    walk-until g.K.Ord.cmp g.met.K.Ord.total c.args.to.now
    (not_below g.K.Ord.cmp (lookup g.K.Ord.cmp (g.T.RadixNode.tree c.args.tree.now)) c.args.from.now)
    (pairs_left g.T.RadixNode.tree c.in_ok-pairs.pairs) c.in_ok-pairs.ensures
