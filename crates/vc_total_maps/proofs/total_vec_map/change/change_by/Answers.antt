use Rattle.vc_total_maps.proofs.Mapping.{combined-maps, mapped-canonical}
use Rattle.vc_total_maps.proofs.total_vec_map.change.change_by.Goals as goal

pub invariant_of-result : goal.invariant_of-result
invariant_of-result g c =
    let e = c.of_one-maps.ensures in
    mapped-canonical g.K.Ord.cmp g.X.PartialEq.eq
    (λ x. g.C.CombineValues.may c.args.change.now x c.args.map.now.default) g.K.Clone.is_clone c.args.map.now _
    (combined-maps g.K.Ord.cmp _ _ g.X.PartialEq.eq (g.C.CombineValues.may c.args.change.now) g.K.Clone.is_clone _
    (rw (← c.map_of_list-mappings.ensures, e.left, e.right, e.same.0, e.same.1) at c.in_ok-made.ensures.combined))

pub returns : goal.returns
returns g c =
    let e = c.of_one-maps.ensures in
    combined-maps g.K.Ord.cmp _ _ g.X.PartialEq.eq (g.C.CombineValues.may c.args.change.now) g.K.Clone.is_clone _
    (rw (← c.map_of_list-mappings.ensures, e.left, e.right, e.same.0, e.same.1) at c.in_ok-made.ensures.combined)
