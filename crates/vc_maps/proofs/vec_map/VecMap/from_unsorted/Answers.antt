use Rattle.std.proofs.Common.{◌≡◌, reverse}
use Rattle.vc_joins.specs.Entries.{entry_at, value_at}
use Rattle.vc_merge.proofs.Unordered.{if-made}
use Rattle.vc_maps.proofs.vec_map.VecMap.from_unsorted.Goals as goal

pub returns-clause-values : goal.returns-clause-values
returns-clause-values g c =
    let cmp = g.K.Ord.cmp in
    if-made (λ m. (k : g.row.K.Denot) → value_at cmp m k ≡ value_at cmp (reverse c.args.vec.items) k) _
    c.in_ok-in_order.ensures.values c.from_vec.result c.from_vec.ensures.pairs

pub returns-clause-entries : goal.returns-clause-entries
returns-clause-entries g c =
    let cmp = g.K.Ord.cmp in
    if-made (λ m. (k : g.row.K.Denot) → entry_at cmp m k ≡ entry_at cmp (reverse c.args.vec.items) k) _
    c.in_ok-in_order.ensures.entries c.from_vec.result c.from_vec.ensures.pairs
