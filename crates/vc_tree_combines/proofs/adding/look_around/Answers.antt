-- The place of the tree, and the trees on both sides of it.
use Rattle.std.proofs.Common.{arith, rules}
use Rattle.vc_tree_nodes.proofs.Finding.{begins-below}
use Rattle.vc_tree_nodes.proofs.Growing.{gap-within}
use Rattle.vc_tree_combines.proofs.Around.{around-found, around-gap}
use Rattle.vc_tree_combines.proofs.adding.look_around.Goals as goal

pub split_at-requires : goal.split_at-requires
split_at-requires g c =
    let h = begins-below g.K.Ord.cmp g.T.RadixNode.tree c.args.trees.now c.args.first.now c.in-Ok.at c.in-Ok.ensures.place in
    omega (arith, h)

pub split_at-requires-in-Err : goal.split_at-requires-in-Err
split_at-requires-in-Err g c = search (rules, gap-within)

pub returns-in-Some-clause-around : goal.returns-in-Some-clause-around
returns-in-Some-clause-around g c =
    around-found g.K.Ord.cmp g.T.RadixNode.tree c.args.first.now g.met.K.Ord.total c.args.trees.now c.in-Ok.at _ c.requires
    c.in-Ok.ensures.place c.split_at.ensures.front c.split_at.ensures.back c.in-Some.ensures.cases.0

pub returns-in-None-clause-around : goal.returns-in-None-clause-around
returns-in-None-clause-around g c =
    let h = begins-below g.K.Ord.cmp g.T.RadixNode.tree c.args.trees.now c.args.first.now c.in-Ok.at c.in-Ok.ensures.place in
    let k = c.split_at.ensures.back_len in
    let l = c.in-None.ensures.cases in
    absurd (omega (arith, h, k, l))

pub returns-in-Err-clause-around : goal.returns-in-Err-clause-around
returns-in-Err-clause-around g c =
    around-gap g.K.Ord.cmp g.T.RadixNode.tree c.args.first.now g.met.K.Ord.total c.args.trees.now c.in-Err.at
    c.in-Err.ensures.place c.split_at-in-Err.ensures.front c.split_at-in-Err.ensures.back
