-- Two lists whose first trees begin alike.
use Rattle.std.proofs.Common.{Some, sym, ap, ◌∙◌}
use Rattle.vc_tree_facing.specs.Sides.{lower_side}
use Rattle.vc_tree_combines.proofs.Passing.{meets, tails-start}
use Rattle.vc_tree_combines.proofs.keys.meeting_at_front.Goals as goal

pub returns-in-Equal : goal.returns-in-Equal
returns-in-Equal g c shared =
    let el = c.in_ok-x.ensures.cases.0 in
    let er = c.in_ok-y.ensures.cases.0 in
    rw (el, er) (meets g.K.Ord.cmp g.met.K.Ord.total g.A.RadixNode.tree g.B.RadixNode.tree shared _ _ _ _
    (tails-start (rw el at c.requires.left) (rw er at c.requires.right))
    (ap (λ r. Some (lower_side r)) (sym c.compare_at.ensures.order ∙ c.in-Equal.is)))
