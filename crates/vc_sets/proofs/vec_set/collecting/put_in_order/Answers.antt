-- The list is what its slice was sorted to, without what repeats.
use Rattle.std.proofs.Common.{length, reverse, ap, refl, ◌∙◌}
use Rattle.std.proofs.lemmas.List.Kept.{IsStrictlySortedBy-dedup}
use Rattle.std.specs.List.{dedup}
use Rattle.std.specs.Ordering.{eq_by_cmp}
use Rattle.smallvec.proofs.SmallVecLemmas.{items-with_items}
use Rattle.vc_merge.specs.Ascending.{element_at}
use Rattle.vc_merge.proofs.Unordered.{found-unordered}
use Rattle.vc_sets.proofs.vec_set.collecting.put_in_order.Goals as goal

pub returns : goal.returns
returns g c =
    let cmp = g.T.Ord.cmp in
    let whole = items-with_items (record { items = c.args.list.now.items; capacity = 0 }) c.sort.new.self
    (c.sort.ensures.len ∙ c.reverse.ensures.len ∙ ap length c.as_mut_slice-items.ensures.value) in
    let left = c.dedup.ensures.items ∙ ap (dedup g.T.PartialEq.eq) whole in
    record {
      ascends = rw left (IsStrictlySortedBy-dedup g.met.T.Ord.total g.met.T.Ord.matches_eq _ c.in_ok-sort.ensures.sorted);
      kept = λ x. ap (λ l. element_at cmp l x) left
          ∙ found-unordered cmp g.met.T.Ord.total (λ y. y) (λ y. eq_by_cmp cmp y x) x
          (λ y. refl) g.T.PartialEq.eq g.met.T.Ord.matches_eq _ _ c.in_ok-sort.ensures.stable
          ∙ ap (λ l. element_at cmp l x) (c.reverse.ensures.after ∙ ap reverse c.as_mut_slice-items.ensures.value);
    }
