use Rattle.std.proofs.Common.{◌≡◌, sym, subst, ◌∙◌}
use Rattle.vc_total_maps.proofs.Combining.{takes-values}
use Rattle.vc_total_maps.specs.CombinedTotals.{HoldsEverywhere}
use Rattle.vc_total_maps.specs.TotalMap.{total_map}
use Rattle.vc_total_maps.proofs.total_vec_map.combine.Combination.of_two.Goals as goal

pub returns-clause-takes : goal.returns-clause-takes
returns-clause-takes g c =
    let can = g.C.CombineValues.can c.args.combine.now in
    let left : total_map c.as_ref.result.now c.default_value.result.now ≡ c.args.this.now =
    (λ i. total_map ((c.as_ref.ensures.pairs ∙ c.non_default_mappings.ensures.pairs) i) (c.default_value.ensures i)) in
    let right : total_map c.as_ref-2.result.now c.default_value-2.result.now ≡ c.args.that.now =
    (λ i. total_map ((c.as_ref-2.ensures.pairs ∙ c.non_default_mappings-2.ensures.pairs) i) (c.default_value-2.ensures i)) in
    takes-values _ _ can g.K.Ord.cmp _ _
    (subst (λ m. HoldsEverywhere g.K.Ord.cmp can m (total_map c.as_ref-2.result.now c.default_value-2.result.now)) (sym left)
    (subst (λ n. HoldsEverywhere g.K.Ord.cmp can c.args.this.now n) (sym right) c.requires.callable))
