use Rattle.std.proofs.Common.{ap, ◌∙◌}
use Rattle.vc_merge.specs.Ascending.{member}
use Rattle.vc_sets.proofs.Searching.{place-is_ok}
use Rattle.vc_sets.proofs.vec_set.AbstractVecSet.contains.Goals as goal

pub returns : goal.returns
returns g c =
    c.is_ok.ensures.value ∙ place-is_ok (λ y. g.T.Ord.cmp y c.args.value.now) c.as_slice.result.now
    c.find.result c.find.ensures
    ∙ ap (λ l. member g.T.Ord.cmp l c.args.value.now) c.as_slice.ensures.elements
