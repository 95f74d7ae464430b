-- The child at the place that was found, or none.
use Rattle.std.proofs.Common.{arith}
use Rattle.vc_tree_nodes.proofs.Finding.{begins-below, found-at, gap-none}
use Rattle.vc_tree_nodes.proofs.places.child_at.Goals as goal

pub offset_bounds-children-i : goal.offset_bounds-children-i
offset_bounds-children-i g c =
    let h =
    begins-below g.K.Ord.cmp g.T.RadixNode.tree c.args.children.now c.args.first.now c.in-Ok.i
    c.in-Ok.ensures.place in omega (arith, h)

pub bounds-children-i : goal.bounds-children-i
bounds-children-i g c =
    begins-below g.K.Ord.cmp g.T.RadixNode.tree c.args.children.now c.args.first.now c.in-Ok.i c.in-Ok.ensures.place

pub returns-in-Ok-clause-child : goal.returns-in-Ok-clause-child
returns-in-Ok-clause-child g c =
    found-at g.K.Ord.cmp g.T.RadixNode.tree g.met.K.Ord.total c.args.children.now c.in-Ok.i c.args.first.now
    c.index-children-i.result
    c.requires c.in-Ok.ensures.place c.index-children-i.is

pub returns-in-Err-clause-child : goal.returns-in-Err-clause-child
returns-in-Err-clause-child g c =
    gap-none g.K.Ord.cmp g.met.K.Ord.total _ c.args.first.now c.in-Err.field-0 c.in-Err.ensures.place
