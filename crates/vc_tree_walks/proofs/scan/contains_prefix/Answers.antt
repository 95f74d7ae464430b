-- The walk of the keys that start with the prefix is that of the node that was found.
use Rattle.std.proofs.Common.{◌≡◌, ap, subst}
use Rattle.vc_tree_model.specs.Map.{lookup}
use Rattle.vc_tree_model.specs.Under.{under}
use Rattle.vc_tree_model.specs.Walk.{IsWalk}
use Rattle.vc_tree_walks.specs.IterLeft.{pairs_from}
use Rattle.vc_tree_walks.proofs.Filtered.{nothing-listed, told-below}
use Rattle.vc_tree_walks.proofs.scan.contains_prefix.Goals as goal

pub returns : goal.returns
returns g c =
    let cmp = g.K.Ord.cmp in
    let f = lookup cmp (g.T.RadixNode.tree c.args.tree.now) in
    told-below cmp g.met.K.Ord.total (λ v w. v ≡ w) f c.args.prefix.now c.in-Some.field-0-0.now
    (g.T.RadixNode.tree c.in-Some.node.now) c.canonical.ensures
    (subst (IsWalk cmp (under cmp f c.args.prefix.now)) (ap (pairs_from g.T.RadixNode.tree) c.in-Some.is)
    c.find_under.ensures)
    c.is_empty.result c.is_empty.ensures

pub returns-in_default : goal.returns-in_default
returns-in_default g c =
    let cmp = g.K.Ord.cmp in
    let binds = under cmp (lookup cmp (g.T.RadixNode.tree c.args.tree.now)) c.args.prefix.now in
    nothing-listed cmp g.met.K.Ord.total binds
    (subst (IsWalk cmp binds) (ap (pairs_from g.T.RadixNode.tree) c.in_default.is) c.find_under.ensures)
