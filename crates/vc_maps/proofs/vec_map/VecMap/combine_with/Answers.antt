use Rattle.vc_merge.proofs.Parted.{cut-off}
use Rattle.vc_maps.proofs.Combined.{combined-by}
use Rattle.vc_maps.proofs.vec_map.VecMap.combine_with.Goals as goal

pub combine_parts-kept-requires-clause-callable : goal.combine_parts-kept-requires-clause-callable
combine_parts-kept-requires-clause-callable g c =
    let end = c.len-end.ensures.value in let slice = c.as_mut_slice.ensures.value in
    let parts = c.in_ok-next.ensures in let moved = c.into_inner.ensures.pairs in
    λ k v w h. c.requires.callable k v w (rw (end, slice, parts.front, parts.behind, c.self.view_is, moved) at h)

pub combine_parts-kept-requires-clause-left_ascends : goal.combine_parts-kept-requires-clause-left_ascends
combine_parts-kept-requires-clause-left_ascends g c =
    rw (c.len-end.ensures.value, c.as_mut_slice.ensures.value, c.in_ok-next.ensures.front) c.self.invariant

pub combine_parts-kept-requires-clause-right_ascends : goal.combine_parts-kept-requires-clause-right_ascends
combine_parts-kept-requires-clause-right_ascends g c =
    rw (c.as_mut_slice.ensures.value, c.in_ok-next.ensures.behind, c.into_inner.ensures.pairs) c.into_inner.ensures.ascends

pub returns-clause-joins : goal.returns-clause-joins
returns-clause-joins g c =
    let end = c.len-end.ensures.value in let slice = c.as_mut_slice.ensures.value in
    let parts = c.in_ok-next.ensures in let moved = c.into_inner.ensures.pairs in
    let cut = cut-off c.append_behind.new.list _ c.combine_parts-kept.new.list c.truncate.new.self.items
    c.combine_parts-kept.result c.as_mut_slice.ensures.value c.combine_parts-kept.auto.list c.truncate.ensures.items in
    rw cut (rw (end, slice, parts.front, parts.behind, c.self.view_is, moved) at c.combine_parts-kept.ensures)

pub invariant_of-self-2 : goal.invariant_of-self-2
invariant_of-self-2 g c = (returns-clause-joins g c).ascends

pub returns-clause-function : goal.returns-clause-function
returns-clause-function g c = combined-by g.K.Ord.cmp _ _ _ (λ v w x. g.F.Fn.post c.args.f (v, (w, tt)) x)
    (returns-clause-joins g c)
