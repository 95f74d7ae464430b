-- The pair that was found is that at the end of those on its side of the key.
use Rattle.vc_tree_model.specs.Map.{lookup}
use Rattle.vc_tree_walks.specs.Beside.{spelled_pair}
use Rattle.vc_tree_walks.specs.Bounds.{above}
use Rattle.vc_tree_walks.specs.declared.ends.End.TheVariants.{First}
use Rattle.vc_tree_walks.proofs.Besides.{least-near, none-near, side-same}
use Rattle.vc_tree_walks.proofs.beside.next_after.Goals as goal

pub returns-clause-next : goal.returns-clause-next
returns-clause-next g c =
    let cmp = g.K.Ord.cmp in
    let o = g.met.K.Ord.total in
    let tree = g.T.RadixNode.tree in
    let t = tree c.args.tree.now in
    let key = c.args.key.now in
    let found = c.find_beside-found.ensures in
    least-near cmp o (above cmp (lookup cmp t) key) (side-same cmp o First t key) found.pairs found.walks
    (λ b. (b.0.items, b.1.now)) (spelled_pair tree First key c.find_beside-found.result) c.pair_of.result
    c.pair_of.ensures.pair found.near

pub returns-clause-none : goal.returns-clause-none
returns-clause-none g c n =
    let cmp = g.K.Ord.cmp in
    let o = g.met.K.Ord.total in
    let tree = g.T.RadixNode.tree in
    let t = tree c.args.tree.now in
    let key = c.args.key.now in
    let found = c.find_beside-found.ensures in
    c.pair_of.ensures.none
    (none-near cmp o (above cmp (lookup cmp t) key) (side-same cmp o First t key) found.pairs found.walks First
    (spelled_pair tree First key c.find_beside-found.result) found.near n)
