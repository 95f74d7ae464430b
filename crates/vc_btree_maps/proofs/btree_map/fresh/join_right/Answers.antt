use Rattle.std.proofs.Common.{rules, refl, ◌∙◌}
use Rattle.vc_joins.specs.declared.question.JoinKind.TheVariants.{Right}
use Rattle.vc_btree_maps.proofs.Asking.{right-asked, right-asks, right-shown, right-silent, next-asks, next-asked, all-joined}
use Rattle.vc_btree_maps.proofs.Passing.{start, next-before}
use Rattle.vc_btree_maps.proofs.btree_map.fresh.join_right.Goals as goal

pub keys-init : goal.keys-init
keys-init g c =
    rw (c.into_iter-key-iterator.ensures.into_iter_gives, c.iter-key-items.ensures.pairs, c.new-joined.ensures.empty)
    (start c.iter-key-items.ensures.ascends (search rules) (λ k. refl)
    (λ k e b. record { is = rw (e, right-silent Right refl _) b }))

pub put_right-requires-clause-takes : goal.put_right-requires-clause-takes
put_right-requires-clause-takes g c =
    c.requires.takes _ (next-asks g.met.K.Ord.total (rw c.in-Some.ensures.steps at c.keys.invariant)
    (λ k t e. right-asked g.met.K.Ord.total _ _ c.in-Some.key c.get.result c.in-Some.other c.get.ensures Right k t e
    ∙ right-asks c.in-Some.key c.get.result c.in-Some.other))

pub put_right-requires-clause-absent : goal.put_right-requires-clause-absent
put_right-requires-clause-absent g c = next-before g.met.K.Ord.total (rw c.in-Some.ensures.steps at c.keys.invariant)

pub keys-preserved : goal.keys-preserved
keys-preserved g c =
    next-asked g.met.K.Ord.total (rw c.in-Some.ensures.steps at c.keys.invariant)
    (λ k t e. right-asked g.met.K.Ord.total _ _ c.in-Some.key c.get.result c.in-Some.other c.get.ensures Right k t e
    ∙ right-asks c.in-Some.key c.get.result c.in-Some.other)
    (right-shown c.in-Some.key c.get.result c.in-Some.other) c.in_ok-put_right.ensures

pub returns : goal.returns
returns g c = all-joined c.keys.invariant c.in-None.ensures.steps.0
