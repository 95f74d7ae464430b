use Rattle.vc_total_maps.proofs.Combining.{joined-ascends, joined-combines}
use Rattle.vc_total_maps.proofs.total_vec_map.combine.combine_pairs.Goals as goal

pub returns-clause-ascends : goal.returns-clause-ascends
returns-clause-ascends g c = joined-ascends _ _ g.K.Ord.cmp _ _ c.join_asking.result c.join_asking.ensures.joins

pub returns-clause-combined : goal.returns-clause-combined
returns-clause-combined g c =
    joined-combines g.X.PartialEq.eq (g.C.CombineValues.may c.args.maps.now.combine.now) g.K.Clone.is_clone _ _ _ c.requires.default
    (g.met.X.Eq.laws.refl _) g.K.Ord.cmp _ _ c.join_asking.result c.join_asking.ensures.joins
