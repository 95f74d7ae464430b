use Rattle.std.proofs.Common.{rules, refl, sym, ◌∙◌}
use Rattle.vc_joins.specs.declared.question.JoinKind.TheVariants.{Inner}
use Rattle.vc_btree_maps.proofs.Asking.{right-asked, right-shown, right-silent, inner-asks, inner-silent}
use Rattle.vc_btree_maps.proofs.Asking.{next-asks, next-asked, all-joined}
use Rattle.vc_btree_maps.proofs.Passing.{start, next-before, next-same}
use Rattle.vc_btree_maps.proofs.btree_map.fresh.join_inner.Goals as goal

pub keys-init : goal.keys-init
keys-init g c =
    rw (c.into_iter-key-iterator.ensures.into_iter_gives, c.iter-key-items.ensures.pairs, c.new-joined.ensures.empty)
    (start c.iter-key-items.ensures.ascends (search rules) (λ k. refl)
    (λ k e b. record { is = rw (e, right-silent Inner refl _) b }))

pub put_right-requires-clause-takes : goal.put_right-requires-clause-takes
put_right-requires-clause-takes g c =
    c.requires.takes _ (next-asks g.met.K.Ord.total (rw c.in-Some.ensures.steps at c.keys.invariant)
    (λ k t e. right-asked g.met.K.Ord.total _ _ c.in-Some.key c.get-value.result c.in-Some.other c.get-value.ensures
    Inner k t e ∙ inner-asks c.in-Some.key c.get-value.result c.in-Some.other (sym c.is_some.ensures ∙ c.if-is_some.true)))

pub put_right-requires-clause-absent : goal.put_right-requires-clause-absent
put_right-requires-clause-absent g c = next-before g.met.K.Ord.total (rw c.in-Some.ensures.steps at c.keys.invariant)

pub keys-preserved-in-Continue-1 : goal.keys-preserved-in-Continue-1
keys-preserved-in-Continue-1 g c =
    next-asked g.met.K.Ord.total (rw c.in-Some.ensures.steps at c.keys.invariant)
    (λ k t e. right-asked g.met.K.Ord.total _ _ c.in-Some.key c.get-value.result c.in-Some.other c.get-value.ensures
    Inner k t e ∙ inner-asks c.in-Some.key c.get-value.result c.in-Some.other (sym c.is_some.ensures ∙ c.if-is_some.true))
    (right-shown c.in-Some.key c.get-value.result c.in-Some.other) c.in_ok-put_right.ensures

-- at a key of the right map alone nothing is asked
pub keys-preserved : goal.keys-preserved
keys-preserved g c =
    next-same g.met.K.Ord.total (rw c.in-Some.ensures.steps at c.keys.invariant)
    (λ k t e b. record {
      is = rw (inner-silent g.met.K.Ord.total _ _ c.in-Some.key c.get-value.result c.in-Some.other c.get-value.ensures
          (sym c.is_some.ensures ∙ c.if-is_some.false) k t) b;
    })

pub returns : goal.returns
returns g c = all-joined c.keys.invariant c.in-None.ensures.steps.0
