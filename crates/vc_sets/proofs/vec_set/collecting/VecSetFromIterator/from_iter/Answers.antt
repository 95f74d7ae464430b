use Rattle.std.proofs.Common.{◌≡◌, ◌++◌, reverse, ap, ◌∙◌}
use Rattle.vc_merge.specs.Ascending.{element_at}
use Rattle.vc_sets.proofs.Collected.{members-kept}
use Rattle.vc_sets.proofs.vec_set.collecting.VecSetFromIterator.from_iter.Goals as goal

pub returns : goal.returns
returns g c =
    let cmp = g.T.Ord.cmp in let ran = c.in_ok-extend.ensures.ran in let put = c.in_ok-put_in_order.ensures in
    let items : c.extend.new.self.items ≡ ran.1 = ran.3 ∙ ap (λ l. l ++ ran.1) c.new-elements.ensures.items in
    let kept : (x : g.row.T.Denot) → element_at cmp c.put_in_order.new.list.items x ≡ element_at cmp (reverse ran.1) x =
    λ x. put.kept x ∙ ap (λ l. element_at cmp (reverse l) x) items in
    record {
      ran = (
        ran.0,
        ran.1,
        ran.2,
        (ran.4.1.0, ran.4.1.1, λ _. (ran.4.0, ran.4.1.2)),
        record { ascends = put.ascends; members = λ x. members-kept cmp ran.1 _ x (kept x); kept = kept },
      );
    }
