-- Where the key is told apart from those of the node, the pair beside it is found.
use Rattle.std.proofs.Common.{◌∙◌, [], map, refl, sym}
use Rattle.vc_tree_model.specs.Walk.{prepended, walk, walk_in}
use Rattle.vc_tree_walks.specs.Standing.{first_pairs}
use Rattle.vc_tree_walks.proofs.Sought.{before-first, behind-first, behind-last, beside-bare, between, own-first, skip-last}
use Rattle.vc_tree_walks.proofs.Sought.{sought-into, sought-root, whole-own}
use Rattle.vc_tree_walks.proofs.beside.find_beside.Goals as goal

pub returns-then-is_empty : goal.returns-then-is_empty
returns-then-is_empty g c =
    let tree = g.T.RadixNode.tree in
    beside-bare g.K.Ord.cmp tree (tree c.args.tree.now) c.args.key.now c.args.end g.met.K.Ord.total c.canonical.ensures
    (sym c.is_empty.ensures ∙ c.if-is_empty.true)

pub loop-found-init : goal.loop-found-init
loop-found-init g c =
    let tree = g.T.RadixNode.tree in
    sought-root g.K.Ord.cmp tree (tree c.args.tree.now) c.args.key.now c.args.end g.met.K.Ord.total c.canonical.ensures
    (sym c.is_empty.ensures ∙ c.if-is_empty.false)

pub returns-in-First : goal.returns-in-First
returns-in-First g c =
    let tree = g.T.RadixNode.tree in
    let l = c.loop-found in
    before-first g.K.Ord.cmp tree (tree c.args.tree.now) c.args.key.now c.args.end g.met.K.Ord.total c.canonical.ensures l.node
    l.used l.known l.found l.invariant c.split_at.result.1.now c.split_at.ensures.back c.in-First.is c.in-Before.ensures

pub returns-in-Last : goal.returns-in-Last
returns-in-Last g c =
    let tree = g.T.RadixNode.tree in
    let l = c.loop-found in
    skip-last g.K.Ord.cmp tree (tree c.args.tree.now) c.args.key.now c.args.end g.met.K.Ord.total c.canonical.ensures l.node
    l.used l.known l.found l.invariant c.split_at.result.1.now c.split_at.ensures.back
    c.in-Last.is [] (walk (tree l.node.now)) refl tt c.in-Before.ensures

pub returns-in-First-end : goal.returns-in-First-end
returns-in-First-end g c =
    let tree = g.T.RadixNode.tree in
    let l = c.loop-found in
    behind-first g.K.Ord.cmp tree (tree c.args.tree.now) c.args.key.now c.args.end g.met.K.Ord.total c.canonical.ensures l.node
    l.used l.known l.found l.invariant c.split_at.result.1.now c.split_at.ensures.back
    c.in-First-end.is c.in-Behind.ensures

pub returns-in-Last-end : goal.returns-in-Last-end
returns-in-Last-end g c =
    let tree = g.T.RadixNode.tree in
    let l = c.loop-found in
    behind-last g.K.Ord.cmp tree (tree c.args.tree.now) c.args.key.now c.args.end g.met.K.Ord.total c.canonical.ensures l.node
    l.used l.known l.found l.invariant c.split_at.result.1.now c.split_at.ensures.back
    c.in-Last-end.is c.in-Behind.ensures

pub returns-in-First-end-2 : goal.returns-in-First-end-2
returns-in-First-end-2 g c =
    let tree = g.T.RadixNode.tree in
    let l = c.loop-found in
    own-first g.K.Ord.cmp tree (tree c.args.tree.now) c.args.key.now c.args.end g.met.K.Ord.total c.canonical.ensures l.node
    l.used l.known l.found l.invariant c.split_at.result.1.now c.split_at.ensures.back
    c.prefix.result.now c.prefix.ensures.value [] c.children.result.now c.nearest.result c.nearest.ensures.pair
    c.nearest.ensures.fits c.in-First-end-2.is refl c.children.ensures c.in-Own.ensures

pub returns-in-Last-end-2 : goal.returns-in-Last-end-2
returns-in-Last-end-2 g c =
    let tree = g.T.RadixNode.tree in
    let l = c.loop-found in
    skip-last g.K.Ord.cmp tree (tree c.args.tree.now) c.args.key.now c.args.end g.met.K.Ord.total c.canonical.ensures l.node
    l.used l.known l.found l.invariant c.split_at.result.1.now c.split_at.ensures.back
    c.in-Last-end-2.is (first_pairs g.K.Ord.cmp tree (tree l.node.now) [])
    (map (prepended (tree l.node.now).prefix) (walk_in (tree l.node.now).children))
    (whole-own g.K.Ord.cmp tree (tree l.node.now)) c.in-Own.ensures.tied c.in-Own.ensures.greater

pub returns-in-Between : goal.returns-in-Between
returns-in-Between g c =
    let tree = g.T.RadixNode.tree in
    let l = c.loop-found in
    between g.K.Ord.cmp tree (tree c.args.tree.now) c.args.key.now c.args.end g.met.K.Ord.total c.canonical.ensures l.node
    l.used l.known l.found l.invariant c.split_at.result.1.now c.split_at.ensures.back
    c.prefix-in-Between.result.now c.prefix-in-Between.ensures.value c.in-Between.lower.now c.in-Between.upper.now
    c.nearest-in-Between.result c.nearest-in-Between.ensures.pair c.nearest-in-Between.ensures.fits c.in-Between.ensures

pub loop-found-preserved : goal.loop-found-preserved
loop-found-preserved g c =
    let tree = g.T.RadixNode.tree in
    let l = c.loop-found in
    sought-into g.K.Ord.cmp tree (tree c.args.tree.now) c.args.key.now c.args.end g.met.K.Ord.total c.canonical.ensures l.node
    l.used l.known l.found l.invariant c.split_at.result.1.now c.split_at.ensures.back
    c.prefix-in-Into.result.now c.prefix-in-Into.ensures.value c.in-Into.lower.now c.in-Some.upper.now
    c.nearest-found.result c.nearest-found.ensures.pair c.nearest-found.ensures.fits c.in-Into.row.now c.in-Some.child.now
    c.in-Some.ensures.cases.0 c.in-Into.ensures
