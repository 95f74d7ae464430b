use Rattle.std.proofs.Common.{rules, not, ap, refl, ◌∙◌}
use Rattle.vc_btree_maps.proofs.Asking.{alone-asked, alone-bare, shared-joined, left-joined, next-asks, next-asked, all-joined}
use Rattle.vc_btree_maps.proofs.Passing.{start, next-same}
use Rattle.vc_btree_maps.proofs.btree_map.fresh.join_outer.Goals as goal

pub keys-init : goal.keys-init
keys-init g c = search (rules, left-joined, start)

pub put_right-requires-clause-takes : goal.put_right-requires-clause-takes
put_right-requires-clause-takes g c =
    c.requires.takes _ (next-asks g.met.K.Ord.total (rw c.in-Some.ensures.steps at c.keys.invariant)
    (alone-asked g.met.K.Ord.total _ _ c.in-Some.key c.get.result c.in-Some.other c.get.ensures
    (c.is_none.ensures ∙ ap not c.if-is_none.true)))

pub put_right-requires-clause-absent : goal.put_right-requires-clause-absent
put_right-requires-clause-absent g c =
    alone-bare g.met.K.Ord.total _ _ c.in-Some.key c.get.result c.in-Some.other c.get.ensures
    (c.is_none.ensures ∙ ap not c.if-is_none.true) (rw c.in-Some.ensures.steps at c.keys.invariant)

pub keys-preserved-in-Continue-branch-2 : goal.keys-preserved-in-Continue-branch-2
keys-preserved-in-Continue-branch-2 g c =
    next-asked g.met.K.Ord.total (rw c.in-Some.ensures.steps at c.keys.invariant)
    (alone-asked g.met.K.Ord.total _ _ c.in-Some.key c.get.result c.in-Some.other c.get.ensures
    (c.is_none.ensures ∙ ap not c.if-is_none.true)) refl c.in_ok-put_right.ensures

-- at a key of both maps nothing is asked again
pub keys-preserved : goal.keys-preserved
keys-preserved g c =
    next-same g.met.K.Ord.total (rw c.in-Some.ensures.steps at c.keys.invariant)
    (λ k t e b. shared-joined g.met.K.Ord.total _ _ c.in-Some.key c.get.result c.in-Some.other c.get.ensures
    (c.is_none.ensures ∙ ap not c.if-is_none.false) t b)

pub returns : goal.returns
returns g c = all-joined c.keys.invariant c.in-None.ensures.steps.0
