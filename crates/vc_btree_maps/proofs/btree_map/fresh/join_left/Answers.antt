use Rattle.std.proofs.Common.{rules, refl}
use Rattle.vc_btree_maps.proofs.Asking.{left-asked, left-shown, left-silent, next-asks, next-asked, all-joined}
use Rattle.vc_btree_maps.proofs.Passing.{start, next-before}
use Rattle.vc_btree_maps.proofs.btree_map.fresh.join_left.Goals as goal

pub keys-init : goal.keys-init
keys-init g c =
    rw (c.into_iter-key-iterator.ensures.into_iter_gives, c.iter-key-items.ensures.pairs, c.new-joined.ensures.empty)
    (start c.iter-key-items.ensures.ascends (search rules) (λ k. refl) (λ k e b. record { is = rw (e, left-silent _) b }))

pub put_left-requires-clause-takes : goal.put_left-requires-clause-takes
put_left-requires-clause-takes g c =
    c.requires.takes _ (next-asks g.met.K.Ord.total (rw c.in-Some.ensures.steps at c.keys.invariant)
    (left-asked g.met.K.Ord.total _ _ c.in-Some.key c.in-Some.value c.get.result c.get.ensures))

pub put_left-requires-clause-absent : goal.put_left-requires-clause-absent
put_left-requires-clause-absent g c = next-before g.met.K.Ord.total (rw c.in-Some.ensures.steps at c.keys.invariant)

pub keys-preserved : goal.keys-preserved
keys-preserved g c =
    next-asked g.met.K.Ord.total (rw c.in-Some.ensures.steps at c.keys.invariant)
    (left-asked g.met.K.Ord.total _ _ c.in-Some.key c.in-Some.value c.get.result c.get.ensures)
    (left-shown c.in-Some.key c.in-Some.value c.get.result) c.in_ok-put_left.ensures

pub returns : goal.returns
returns g c = all-joined c.keys.invariant c.in-None.ensures.steps.0
