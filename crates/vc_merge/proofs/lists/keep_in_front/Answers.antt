use Rattle.std.proofs.Common.{◌<◌, Bool, length, sym, arith}
use Rattle.std.specs.Fn.{CalledAt, TakesAt}
use Rattle.vc_merge.proofs.Callable.{callable-first, callable-others}
use Rattle.vc_merge.proofs.Keeping.{KeepsInFront-next, KeepsInFront-refused}
use Rattle.vc_merge.proofs.Keeping.{KeepsInFront-accepted, KeepsInFront-all}
use Rattle.vc_merge.proofs.lists.keep_in_front.Goals as goal
use Rattle.vc_merge.proofs.lists.keep_in_front.Goals.{then-f, else-f}

pub f-requires : goal.f-requires
f-requires g c =
    let R = CalledAt {A = g.row.T.Denot} {R = Bool} g.F.FnMut in
    let lt : c.elements.at < length c.elements.list = omega arith in
    callable-first (λ p y q. (r : Bool) × R p y r q) (TakesAt g.F.FnMut) c.elements.f c.index-list-at.result _ _
    (KeepsInFront-next R _ _ _ c.elements.f _ _ _ _ c.elements.invariant.keeps lt c.index-list-at.is)
    c.elements.invariant.callable _ (sym c.index-list-at.is)

pub elements-preserved : goal.elements-preserved
elements-preserved g c =
    let R = CalledAt {A = g.row.T.Denot} {R = Bool} g.F.FnMut in
    let keeps = c.elements.invariant.keeps in
    let t = c.f.new.self in
    let lt : c.elements.at < length c.elements.list = omega arith in
    let called : R c.elements.f c.index-list-at.result c.f.result t =
    record { shown = _; shows = sym c.index-list-at.is; called = c.f.ensures } in
    record {
      callable = callable-others (λ p y q. (r : Bool) × CalledAt g.F.FnMut p y r q) (TakesAt g.F.FnMut) c.elements.f _ _ _
          (KeepsInFront-next R _ _ _ t _ _ _ _ keeps lt c.index-list-at.is) c.elements.invariant.callable t (_, called);
      keeps = elim c.if-f.branch [
        | then-f w ↦ rw (w.list-is, w.kept-is) (KeepsInFront-accepted R _ _ _ t _ _ _ _ keeps lt c.index-list-at.is _
            (rw w.if-f.true at called) w.swap.ensures.len w.swap.ensures.by_index)
        | else-f w ↦ rw (w.list-is, w.kept-is)
            (KeepsInFront-refused R _ _ _ t _ _ _ _ keeps lt c.index-list-at.is (rw w.if-f.false at called))
      ];
    }

pub returns-clause-kept : goal.returns-clause-kept
returns-clause-kept g c = KeepsInFront-all (CalledAt g.F.FnMut) _ _ _ _ _ _ c.elements.invariant.keeps c.elements-test.false
