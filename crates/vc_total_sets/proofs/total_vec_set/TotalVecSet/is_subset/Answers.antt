use Rattle.vc_total_sets.specs.TotalTests.{IsTotalSubset}
use Rattle.vc_total_sets.proofs.Tested.{seen-so, subset-plain, subset-into_negated, subset-negated}
use Rattle.vc_total_sets.proofs.total_vec_set.TotalVecSet.is_subset.Goals as goal

pub returns-in-false-false : goal.returns-in-false-false
returns-in-false-false g c =
    seen-so (IsTotalSubset g.T.Ord.cmp) c.self.view_is c.that.view_is c.in-false-false.is-0
    c.in-false-false.is-1 c.is_subset-in-false-false.ensures (subset-plain g.T.Ord.cmp _ _)

pub returns-in-false-true : goal.returns-in-false-true
returns-in-false-true g c =
    seen-so (IsTotalSubset g.T.Ord.cmp) c.self.view_is c.that.view_is c.in-false-true.is-0
    c.in-false-true.is-1 c.is_disjoint.ensures (subset-into_negated g.T.Ord.cmp _ _)

pub returns-in-true-true : goal.returns-in-true-true
returns-in-true-true g c =
    seen-so (IsTotalSubset g.T.Ord.cmp) c.self.view_is c.that.view_is c.in-true-true.is-0
    c.in-true-true.is-1 c.is_subset.ensures (subset-negated g.T.Ord.cmp _ _)
