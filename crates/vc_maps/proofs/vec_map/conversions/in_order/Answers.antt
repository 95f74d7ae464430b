use Rattle.std.proofs.Common.{◌≡◌, ap, reverse, rules, ◌∙◌}
use Rattle.std.proofs.lemmas.Cmp.{on_total}
use Rattle.std.proofs.lemmas.Fn.{always_returns_same, dedup_same}
use Rattle.std.proofs.lemmas.List.Kept.{IsStrictlySortedBy-dedup}
use Rattle.std.proofs.lemmas.List.Sorted.{ranks_by}
use Rattle.std.specs.Ordering.{is_lt}
use Rattle.vc_joins.specs.Entries.{entry_at}
use Rattle.vc_merge.specs.Yielded.{by_first, keys-ascend}
use Rattle.vc_maps.proofs.Unsorted.{entry-unordered, values-of_entries}
use Rattle.vc_maps.proofs.vec_map.conversions.in_order.Goals as goal

pub returns : goal.returns
returns g c =
    let cmp = g.K.Ord.cmp in
    let lost = dedup_same _ (λ x y. g.K.PartialEq.eq x.0 y.0) _
    (λ x y b f' x' y' k. search rules) _ _ c.dedup_by.ensures.filtered in
    let entries : (k : g.row.K.Denot) → entry_at cmp c.dedup_by.new.self.items k ≡ entry_at cmp (reverse c.args.vec.items) k =
    λ k. ap (λ l. entry_at cmp l k) lost
    ∙ entry-unordered cmp g.met.K.Ord.total (λ x y. g.K.PartialEq.eq x.0 y.0) (λ x y. g.met.K.Ord.matches_eq x.0 y.0) _ _
    (c.in_ok-sort_by.ensures.stable (λ x y. is_lt (cmp x.0 y.0)) (ranks_by g.met.K.Ord.total (λ e. e.0))
    (always_returns_same _ _ _ (λ a r f' k. search rules))) k
    ∙ ap (λ l. entry_at cmp l k) c.reverse.ensures.items in
    record {
      ascends = rw lost
          (keys-ascend cmp _
          (IsStrictlySortedBy-dedup {R = by_first cmp} (on_total (λ q. q.0) g.met.K.Ord.total)
          (λ x y. g.met.K.Ord.matches_eq x.0 y.0) _
          (c.in_ok-sort_by.ensures.sorted (λ x y. is_lt (cmp x.0 y.0)) (ranks_by g.met.K.Ord.total (λ e. e.0))
          (always_returns_same _ _ _ (λ a r f' k. search rules)))));
      values = λ k. values-of_entries cmp _ _ k (entries k);
      entries = entries;
    }
