-- The search stops at the place of the component that the tree goes on with.
use Rattle.vc_tree_edits.proofs.Passing.{component-at, place-next, gap-next}
use Rattle.vc_tree_edits.proofs.pairs.search_pair.Goals as goal

pub returns-in-Ok : goal.returns-in-Ok
returns-in-Ok g c =
    place-next g.K.Ord.cmp g.met.K.Ord.total g.A.RadixNode.tree g.B.RadixNode.tree c.args.from c.args.tree.now c.index-prefix-from.result
    (component-at _ _ c.args.from c.index-prefix-from.result c.prefix.ensures.value c.requires.within c.index-prefix-from.is)
    c.args.lefts.now c.in-Ok.at c.in-Ok.ensures

pub returns-in-Err : goal.returns-in-Err
returns-in-Err g c =
    gap-next g.K.Ord.cmp g.met.K.Ord.total g.A.RadixNode.tree g.B.RadixNode.tree c.args.from c.args.tree.now c.index-prefix-from.result
    (component-at _ _ c.args.from c.index-prefix-from.result c.prefix.ensures.value c.requires.within c.index-prefix-from.is)
    c.args.lefts.now c.in-Err.field-0 c.in-Err.ensures
