use Rattle.std.proofs.Common.{◌≡◌, ◌++◌, reverse, ap, ◌∙◌}
use Rattle.vc_joins.specs.Entries.{entry_at}
use Rattle.vc_maps.proofs.Unsorted.{values-of_entries}
use Rattle.vc_maps.proofs.vec_map.collecting.VecMapFromIteratorTuple2.from_iter.Goals as goal

pub returns : goal.returns
returns g c =
    let cmp = g.K.Ord.cmp in let ran = c.in_ok-extend.ensures.ran in let put = c.in_ok-put_in_order.ensures in
    let items : c.extend.new.self.items ≡ ran.1 = ran.3 ∙ ap (λ l. l ++ ran.1) c.new-pairs.ensures.items in
    let entries : (k : g.row.K.Denot) → entry_at cmp c.put_in_order.new.list.items k ≡ entry_at cmp (reverse ran.1) k =
    λ k. put.entries k ∙ ap (λ l. entry_at cmp (reverse l) k) items in
    record {
      ran = (
        ran.0,
        ran.1,
        ran.2,
        (ran.4.1.0, ran.4.1.1, λ _. (ran.4.0, ran.4.1.2)),
        record { ascends = put.ascends; values = λ k. values-of_entries cmp _ (reverse ran.1) k (entries k); entries = entries },
      );
    }
