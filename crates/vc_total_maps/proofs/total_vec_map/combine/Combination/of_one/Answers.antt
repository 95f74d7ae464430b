use Rattle.std.proofs.Common.{◌≡◌, [], sym, subst, ◌∙◌}
use Rattle.vc_total_maps.proofs.Combining.{takes-values}
use Rattle.vc_total_maps.proofs.Mapping.{none-ascends, each-everywhere}
use Rattle.vc_total_maps.specs.CombinedTotals.{HoldsEverywhere}
use Rattle.vc_total_maps.specs.TotalMap.{total_map}
use Rattle.vc_total_maps.proofs.total_vec_map.combine.Combination.of_one.Goals as goal

pub returns-clause-right_ascends : goal.returns-clause-right_ascends
returns-clause-right_ascends g c = none-ascends g.K.Ord.cmp

pub returns-clause-takes : goal.returns-clause-takes
returns-clause-takes g c =
    let can = g.C.CombineValues.can c.args.combine.now in let map = c.args.map.now in
    let left : total_map c.as_ref-pairs.result.now c.default_value.result.now ≡ map =
    (λ i. total_map ((c.as_ref-pairs.ensures.pairs ∙ c.non_default_mappings.ensures.pairs) i) (c.default_value.ensures i)) in
    takes-values _ _ can g.K.Ord.cmp _ _
    (subst (λ m. HoldsEverywhere g.K.Ord.cmp can m (total_map [] c.default_value-2.result.now)) (sym left)
    (subst (λ d. HoldsEverywhere g.K.Ord.cmp can map (total_map [] d)) (sym c.default_value-2.ensures)
    (each-everywhere g.K.Ord.cmp map map.default can c.requires.callable)))
