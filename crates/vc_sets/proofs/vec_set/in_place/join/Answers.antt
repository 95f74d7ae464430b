use Rattle.std.proofs.Common.{◌≡◌, true, ap, arith}
use Rattle.vc_merge.specs.PartsViews.{built_items, right_items, list_name}
use Rattle.vc_merge.proofs.Builds.{merged-is_ok, both-is_ok, advances-adds}
use Rattle.vc_sets.proofs.Witnessed.{same-equal}
use Rattle.vc_sets.proofs.Combined.{merged-set_of}
use Rattle.vc_sets.proofs.vec_set.in_place.join.Goals as goal

pub returns : goal.returns
returns g c =
    let same = same-equal g.T.Ord.cmp g.met.T.Ord.total in
    merged-set_of g.T.Ord.cmp g.met.T.Ord.total _ _ same same true true _ built_items list_name _ _ _
    (λ s t n answer h. h.1) (λ s t n answer h. advances-adds built_items list_name (λ x y. x ≡ y) right_items s t n true answer
    h.1) (λ s t answer h. h) (λ s t answer h. h.1) (λ s t answer h. h.1) _ _ _ _ _
    (merged-is_ok _ _ _ _ _ c.merge-never_refused.ensures.merged (λ s t n answer h. h.0) (λ s t n answer h. h.0)
    (λ s t answer h. both-is_ok _ _ (λ s t answer h. h.0) (λ s t answer h. h.0) s t answer h))
    c.new-state.ensures.left c.new-state.ensures.right c.new-state.ensures.built
    (λ e. let k = c.kept.ensures in let n = ap (λ l. l.ghost_name) c.new-state.ensures.same_reference in grind arith)
