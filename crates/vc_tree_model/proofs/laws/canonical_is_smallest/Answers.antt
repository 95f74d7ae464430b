use Rattle.vc_tree_model.proofs.Uniqueness.{canonical-one}
use Rattle.vc_tree_model.proofs.Smallness.{canonical-smallest}
use Rattle.vc_tree_model.proofs.laws.canonical_is_smallest.Goals as goal

pub returns : goal.returns
returns g c t canonical =
    let cmp = g.K.Ord.cmp in
    let total = g.met.K.Ord.total in
    let matches = g.M.Matching.matches in
    (canonical-one cmp total matches t canonical, canonical-smallest cmp matches total t canonical)
