use Rattle.vc_sets.proofs.Sifted.{keeps-and_not, sifted}
use Rattle.vc_sets.proofs.vec_set.VecSet.difference_with.Goals as goal

pub returns : goal.returns
returns g c =
    sifted g.T.Ord.cmp _ _ _ _ keeps-and_not c.self.inside.elements _ c.sift-kept.result c.self.view_is
    c.as_mut_slice.ensures.value c.as_slice.ensures.elements c.sift-kept.auto.list c.truncate.ensures.items
    c.sift-kept.ensures
