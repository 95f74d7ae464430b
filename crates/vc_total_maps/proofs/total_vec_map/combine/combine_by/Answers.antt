use Rattle.vc_total_maps.proofs.Combining.{combined-canonical}
use Rattle.vc_total_maps.proofs.total_vec_map.combine.combine_by.Goals as goal

pub invariant_of-result : goal.invariant_of-result
invariant_of-result g c =
    let e = c.of_two-maps.ensures in
    combined-canonical g.K.Ord.cmp g.V.PartialEq.eq _ _ _ _ _
    (rw (← c.map_of_list-mappings.ensures, e.same.0) at c.in_ok-made.ensures.combined)

pub returns : goal.returns
returns g c = let e = c.of_two-maps.ensures in
    rw (← c.map_of_list-mappings.ensures, e.left, e.right, e.same.0, e.same.1) at c.in_ok-made.ensures.combined
