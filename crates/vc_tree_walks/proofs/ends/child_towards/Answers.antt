-- The pair is that of the node, or below its first or its last child.
use Rattle.std.proofs.Common.{◌≡◌, subst, sym}
use Rattle.std.specs.Prelude.{MatchOption}
use Rattle.vc_tree_walks.specs.Towards.{IsTowards, end_of, own_end}
use Rattle.vc_tree_model.specs.Walk.{walk}
use Rattle.vc_tree_walks.proofs.EndPairs.{first-below, last-below}
use Rattle.vc_tree_walks.proofs.ends.child_towards.Goals as goal

pub returns-in-None : goal.returns-in-None
returns-in-None g c =
    let tree = g.T.RadixNode.tree in
    let t = tree c.args.node.now in
    subst (λ e. MatchOption c.first.result (end_of e (walk t) ≡ own_end t.prefix t.value)
    (λ child. IsTowards e t (tree child.now)))
    (sym c.in-First.is)
    (first-below g.K.Ord.cmp g.met.K.Ord.total tree t c.canonical.ensures.1
    (sym c.in-None.ensures)
    c.children.result.now c.children.ensures c.first.result c.first.ensures.value)

pub returns-in-Last : goal.returns-in-Last
returns-in-Last g c =
    let tree = g.T.RadixNode.tree in
    let t = tree c.args.node.now in
    subst (λ e. MatchOption c.last.result (end_of e (walk t) ≡ own_end t.prefix t.value)
    (λ child. IsTowards e t (tree child.now)))
    (sym c.in-Last.is)
    (last-below g.K.Ord.cmp g.met.K.Ord.total tree t c.canonical.ensures.1
    c.children-in-Last.result.now c.children-in-Last.ensures c.last.result c.last.ensures.value)
