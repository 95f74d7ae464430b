use Rattle.vc_maps.proofs.vec_map.VecMap.from_iter.Goals as goal

pub invariant_of-result : goal.invariant_of-result
invariant_of-result g c =
    let all = c.in_ok-pairs.ensures.items in
    g.met.I.SortedByKey.keys_ascend c.args.iter all.1.0 _ c.requires.sorted all.1.1
