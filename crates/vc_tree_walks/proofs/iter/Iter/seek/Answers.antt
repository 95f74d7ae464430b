-- Where the key is told apart from those of the node, the walk stands behind it.
use Rattle.vc_tree_walks.proofs.WalkingFrom.{from-before, from-behind, from-between, from-own, seeking-into, seeking-root}
use Rattle.vc_tree_walks.proofs.iter.Iter.seek.Goals as goal

pub loop-walk-init : goal.loop-walk-init
loop-walk-init g c =
    let new = c.new-walk.ensures in
    seeking-root g.K.Ord.cmp g.T.RadixNode.tree c.args.tree.now c.args.key.now c.new-walk.result new.start new.key new.base
    new.rows

pub returns-in-Before : goal.returns-in-Before
returns-in-Before g c =
    let l = c.loop-walk in
    from-before g.K.Ord.cmp g.T.RadixNode.tree c.args.tree.now c.args.key.now g.met.K.Ord.total c.canonical.ensures l.node.now
    l.known l.walk l.siblings l.invariant c.split_at.result.1.now c.split_at.ensures.back _ c.with_node.ensures c.in-Before.ensures

pub returns-in-Own : goal.returns-in-Own
returns-in-Own g c =
    let l = c.loop-walk in
    from-own g.K.Ord.cmp g.T.RadixNode.tree c.args.tree.now c.args.key.now g.met.K.Ord.total c.canonical.ensures l.node.now
    l.known l.walk l.siblings l.invariant c.split_at.result.1.now c.split_at.ensures.back _ c.with_node-in-Own.ensures c.in-Own.ensures

pub returns-in-Behind : goal.returns-in-Behind
returns-in-Behind g c =
    let l = c.loop-walk in
    from-behind g.K.Ord.cmp g.T.RadixNode.tree c.args.tree.now c.args.key.now g.met.K.Ord.total c.canonical.ensures l.node.now
    l.known l.walk l.siblings l.invariant c.split_at.result.1.now c.split_at.ensures.back
    c.in-Behind.ensures

pub returns-in-Between : goal.returns-in-Between
returns-in-Between g c =
    let l = c.loop-walk in
    from-between g.K.Ord.cmp g.T.RadixNode.tree c.args.tree.now c.args.key.now g.met.K.Ord.total c.canonical.ensures l.node.now
    l.known l.walk l.siblings l.invariant c.split_at.result.1.now c.split_at.ensures.back
    c.go_below.new.self c.prefix.result.now c.prefix.ensures.value c.in-Between.field-0.now c.in-Between.upper.now
    c.in_ok-go_below-in-Between.ensures.key c.in_ok-go_below-in-Between.ensures.trees c.in_ok-go_below-in-Between.ensures.base c.in_ok-go_below-in-Between.ensures.above
    c.in_ok-go_below-in-Between.ensures.start c.in-Between.ensures

pub loop-walk-preserved : goal.loop-walk-preserved
loop-walk-preserved g c =
    let l = c.loop-walk in
    seeking-into g.K.Ord.cmp g.T.RadixNode.tree c.args.tree.now c.args.key.now g.met.K.Ord.total c.canonical.ensures l.node.now
    l.known l.walk l.siblings l.invariant c.split_at.result.1.now c.split_at.ensures.back
    c.go_below-in-Into.new.self c.prefix-in-Into.result.now c.prefix-in-Into.ensures.value c.in-Into.field-0.now
    c.in-Some.upper.now c.in_ok-go_below-in-Into.ensures.key c.in_ok-go_below-in-Into.ensures.trees c.in_ok-go_below-in-Into.ensures.base
    c.in_ok-go_below-in-Into.ensures.above c.in_ok-go_below-in-Into.ensures.start c.in-Into.row c.in-Some.child.now c.in-Some.ensures.cases.0
    c.in-Into.ensures
