use Rattle.std.proofs.Common.{◌≡◌, reverse}
use Rattle.vc_merge.specs.Ascending.{element_at, member}
use Rattle.vc_merge.proofs.Unordered.{if-made}
use Rattle.vc_sets.proofs.Collected.{members-kept}
use Rattle.vc_sets.proofs.vec_set.VecSet.from_unsorted.Goals as goal

pub returns-clause-members : goal.returns-clause-members
returns-clause-members g c =
    let cmp = g.T.Ord.cmp in let vec = c.args.vec.items in
    if-made (λ s. (x : g.row.T.Denot) → member cmp s x ≡ member cmp vec x) _
    (λ x. members-kept cmp vec _ x (c.in_ok-in_order.ensures.kept x))
    c.from_vec.result c.from_vec.ensures.elements

pub returns-clause-kept : goal.returns-clause-kept
returns-clause-kept g c =
    let cmp = g.T.Ord.cmp in
    if-made (λ s. (x : g.row.T.Denot) → element_at cmp s x ≡ element_at cmp (reverse c.args.vec.items) x) _
    c.in_ok-in_order.ensures.kept c.from_vec.result c.from_vec.ensures.elements
