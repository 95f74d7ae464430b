use Rattle.vc_total_sets.specs.TotalTests.{IsTotalDisjoint}
use Rattle.vc_total_sets.proofs.Tested.{seen-so, disjoint-plain, disjoint-from_negated, disjoint-negated_from}
use Rattle.vc_total_sets.proofs.total_vec_set.TotalVecSet.is_disjoint.Goals as goal

pub returns-in-false-false : goal.returns-in-false-false
returns-in-false-false g c =
    seen-so (IsTotalDisjoint g.T.Ord.cmp) c.self.view_is c.that.view_is c.in-false-false.is-0
    c.in-false-false.is-1 c.is_disjoint.ensures (disjoint-plain g.T.Ord.cmp _ _)

pub returns-in-false-true : goal.returns-in-false-true
returns-in-false-true g c =
    seen-so (IsTotalDisjoint g.T.Ord.cmp) c.self.view_is c.that.view_is c.in-false-true.is-0
    c.in-false-true.is-1 c.is_subset-in-false-true.ensures (disjoint-from_negated g.T.Ord.cmp _ _)

pub returns-in-true-false : goal.returns-in-true-false
returns-in-true-false g c =
    seen-so (IsTotalDisjoint g.T.Ord.cmp) c.self.view_is c.that.view_is c.in-true-false.is-0
    c.in-true-false.is-1 c.is_subset.ensures (disjoint-negated_from g.T.Ord.cmp _ _)
