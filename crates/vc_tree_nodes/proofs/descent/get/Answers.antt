-- The next node binds what is left, and what it may cost stays within the bound.
use Rattle.std.proofs.Common.{◌≡◌, ◌+◌, ◌*◌, length, Some, sym, ap, arith, rules}
use Rattle.vc_merge.specs.Count.{digits}
use Rattle.vc_tree_model.specs.Key.{behind}
use Rattle.vc_tree_model.specs.Tree.{width, forest_width}
use Rattle.vc_tree_nodes.specs.Children.{seen}
use Rattle.vc_tree_nodes.proofs.Descending.{searched-within, down-behind, down-searched, down-missed}
use Rattle.vc_tree_nodes.proofs.descent.get.Goals as goal

pub returns-in_err-node-clause-counted : goal.returns-in_err-node-clause-counted
returns-in_err-node-clause-counted g c =
    let tree = g.T.RadixNode.tree in
    let node = tree c.loop-left.node.now in
    let d = digits (width (tree c.args.tree.now)) in
    let most = g.C.Count.counted c.args.steps.now + length c.args.key.now * (1 + d) in
    let down = g.C.Count.counted c.rest_behind.new.steps in
    let goes_down =
    down-behind g.K.Ord.cmp most d (g.C.Count.counted c.loop-left.steps) down c.loop-left.known c.prefix.result.now node.prefix
    c.loop-left.rest.now c.in_ok-left.left.now c.prefix.ensures.value (sym c.in_ok-left.ensures.rest) c.loop-left.invariant.3
    c.loop-left.invariant.1.within_prefix c.in_ok-left.ensures.counted in
    let cost = searched-within tree c.children.result.now node (tree c.args.tree.now) c.children.ensures
    c.loop-left.invariant.2 in
    down-missed most d down (g.C.Count.counted c.child_at.new.steps) (length c.in_ok-left.left.now) goes_down
    (grind (arith, c.in-Some.ensures.value))
    (omega (arith, cost, c.child_at.ensures.counted))

pub loop-left-preserved : goal.loop-left-preserved
loop-left-preserved g c =
    let tree = g.T.RadixNode.tree in
    let node = tree c.loop-left.node.now in
    let d = digits (width (tree c.args.tree.now)) in
    let most = g.C.Count.counted c.args.steps.now + length c.args.key.now * (1 + d) in
    let down = g.C.Count.counted c.rest_behind.new.steps in
    let goes_down =
    down-behind g.K.Ord.cmp most d (g.C.Count.counted c.loop-left.steps) down c.loop-left.known c.prefix.result.now node.prefix
    c.loop-left.rest.now c.in_ok-left.left.now c.prefix.ensures.value (sym c.in_ok-left.ensures.rest) c.loop-left.invariant.3
    c.loop-left.invariant.1.within_prefix c.in_ok-left.ensures.counted in
    let cost = searched-within tree c.children.result.now node (tree c.args.tree.now) c.children.ensures
    c.loop-left.invariant.2 in
    let left : behind g.K.Ord.cmp c.prefix.result.now c.loop-left.rest.now ≡ Some c.in_ok-left.left.now =
    sym c.in_ok-left.ensures.rest in
    let narrow : forest_width (seen tree c.children.result.now) ≡ forest_width node.children =
    ap forest_width c.children.ensures in (
      search rules,
      search rules,
      omega (arith, narrow, c.loop-left.invariant.2, c.in_ok-node.ensures.child.narrower),
      down-searched most d down (g.C.Count.counted c.child_at.new.steps) (length c.in_ok-left.left.now) goes_down
          (omega (arith, cost, c.in_ok-node.ensures.counted)),
    )
