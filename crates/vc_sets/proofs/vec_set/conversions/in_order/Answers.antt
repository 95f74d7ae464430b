use Rattle.std.proofs.Common.{ap, refl, ◌∙◌}
use Rattle.std.proofs.lemmas.List.Filters.{dedup_is}
use Rattle.std.proofs.lemmas.List.Kept.{IsStrictlySortedBy-dedup}
use Rattle.std.specs.Ordering.{eq_by_cmp}
use Rattle.vc_merge.specs.Ascending.{element_at}
use Rattle.vc_merge.proofs.Unordered.{found-unordered}
use Rattle.vc_sets.proofs.vec_set.conversions.in_order.Goals as goal

pub returns : goal.returns
returns g c =
    let cmp = g.T.Ord.cmp in
    let left = dedup_is g.T.PartialEq.eq _ _ c.dedup.ensures.filtered in
    record {
      ascends = rw left (IsStrictlySortedBy-dedup g.met.T.Ord.total g.met.T.Ord.matches_eq _ c.in_ok-sort.ensures.sorted);
      kept = λ x. ap (λ l. element_at cmp l x) left
          ∙ found-unordered cmp g.met.T.Ord.total (λ y. y) (λ y. eq_by_cmp cmp y x) x
          (λ y. refl) g.T.PartialEq.eq g.met.T.Ord.matches_eq _ _ c.in_ok-sort.ensures.stable
          ∙ ap (λ l. element_at cmp l x) c.reverse.ensures.items;
    }
