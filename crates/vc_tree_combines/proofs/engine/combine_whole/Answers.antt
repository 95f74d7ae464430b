-- The node after two fronts is made of what was built below them.
use Rattle.std.proofs.Common.{[], rules}
use Rattle.vc_tree_model.specs.Look.{values}
use Rattle.vc_tree_model.specs.Tree.{shortened}
use Rattle.vc_tree_facing.proofs.Ending.{front-asked}
use Rattle.vc_tree_combines.proofs.Shapes.{below-made}
use Rattle.vc_tree_combines.proofs.engine.combine_whole.Goals as goal

pub end-requires-clause-asks : goal.end-requires-clause-asks
end-requires-clause-asks g c =
    let m = c.in_ok-front.ensures.made in
    front-asked g.met.K.Ord.total (values g.K.Ord.cmp) (shortened 0 (g.A.RadixNode.tree c.args.this.now))
    (shortened 0 (g.B.RadixNode.tree c.args.that.now)) _ m.agree.same (g.O.Combine.asks c.args.op.now) c.requires.asks []

pub returns-clause-made : goal.returns-clause-made
returns-clause-made g c =
    let h = c.in_ok-tree.ensures in
    let both = below-made g.met.K.Ord.total (g.O.Combine.says c.args.op.now) (g.met.O.Combine.says_none c.args.op.now)
    c.in_ok-front.ensures.made h.value h.said h.child in
    search rules
