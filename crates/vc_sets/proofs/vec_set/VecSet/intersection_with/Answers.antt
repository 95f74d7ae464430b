use Rattle.vc_sets.proofs.Sifted.{keeps-and, sifted}
use Rattle.vc_sets.proofs.vec_set.VecSet.intersection_with.Goals as goal

pub returns : goal.returns
returns g c =
    sifted g.T.Ord.cmp _ _ _ _ keeps-and c.self.inside.elements _ c.sift-kept.result c.self.view_is c.as_mut_slice.ensures.value
    c.as_slice.ensures.elements c.sift-kept.auto.list c.truncate.ensures.items c.sift-kept.ensures
