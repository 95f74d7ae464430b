use Rattle.vc_total_maps.proofs.Copying.{copy-canonical}
use Rattle.vc_total_maps.proofs.total_vec_map.TotalVecMap.clone.Goals as goal

pub invariant_of-result : goal.invariant_of-result
invariant_of-result g c =
    copy-canonical g.K.Ord.cmp g.met.K.Ord.total g.V.PartialEq.eq g.met.V.Eq.laws g.K.Clone.is_clone c.requires.keys
    g.V.Clone.is_clone c.requires.values _ _ _ _ c.in_ok-mappings.ensures c.in_ok-default.ensures.cases c.self.invariant

pub returns : goal.returns
returns g c = rw (← c.self.view_is) (record { mappings = c.in_ok-mappings.ensures; default = c.in_ok-default.ensures.cases })
