-- The pair that was found is that at the end of those on its side of the key.
use Rattle.vc_tree_model.specs.Map.{lookup}
use Rattle.vc_tree_walks.specs.Beside.{spelled_pair}
use Rattle.vc_tree_walks.specs.Bounds.{below}
use Rattle.vc_tree_walks.specs.declared.ends.End.TheVariants.{Last}
use Rattle.vc_tree_walks.proofs.Besides.{greatest-near, none-near, side-same}
use Rattle.vc_tree_walks.proofs.beside.last_before.Goals as goal

pub returns-clause-last : goal.returns-clause-last
returns-clause-last g c =
    let cmp = g.K.Ord.cmp in
    let o = g.met.K.Ord.total in
    let tree = g.T.RadixNode.tree in
    let t = tree c.args.tree.now in
    let key = c.args.key.now in
    let found = c.find_beside-found.ensures in
    greatest-near cmp o (below cmp (lookup cmp t) key) (side-same cmp o Last t key) found.pairs found.walks
    (λ b. (b.0.items, b.1.now)) (spelled_pair tree Last key c.find_beside-found.result) c.pair_of.result
    c.pair_of.ensures.pair found.near

pub returns-clause-none : goal.returns-clause-none
returns-clause-none g c n =
    let cmp = g.K.Ord.cmp in
    let o = g.met.K.Ord.total in
    let tree = g.T.RadixNode.tree in
    let t = tree c.args.tree.now in
    let key = c.args.key.now in
    let found = c.find_beside-found.ensures in
    c.pair_of.ensures.none
    (none-near cmp o (below cmp (lookup cmp t) key) (side-same cmp o Last t key) found.pairs found.walks Last
    (spelled_pair tree Last key c.find_beside-found.result) found.near n)
