use Rattle.std.proofs.Common.{◌≡◌, false, arith, refl, sym, is_lt}
use mathlib.Core.Bool.{true≢false}
use Rattle.std.proofs.lemmas.Cmp.{on_total}
use Rattle.vc_merge.specs.Yielded.{by_first, keys-ascend}
use Rattle.vc_merge.proofs.ListLemmas.{ascends-not, ascends-from_below, pairs-ascend}
use Rattle.vc_merge.proofs.iterators.ascends_by_key.Goals as goal

pub returns-then-not-is_lt : goal.returns-then-not-is_lt
returns-then-not-is_lt g c =
    let R = by_first g.K.Ord.cmp in
    let x = c.index-list-at.result in
    let y = c.index-list-at-in-loop-at.result in
    let lt : is_lt (R x y) ≡ false = rw (c.index-list-at.is, c.index-list-at-in-loop-at.is)
    (grind (arith, c.cmp.ensures, c.is_lt.ensures, c.if-not-is_lt.true)) in (
      λ e. absurd (true≢false (sym e)),
      λ p. absurd (ascends-not R (on_total (λ q. q.0) g.met.K.Ord.total) _ _ x y c.loop-at.auto.at c.loop-at-test.true
          c.index-list-at.is c.index-list-at-in-loop-at.is lt (pairs-ascend g.K.Ord.cmp c.args.list.now p)),
    )

pub returns : goal.returns
returns g c = (
  λ _. keys-ascend g.K.Ord.cmp c.args.list.now
      (ascends-from_below (by_first g.K.Ord.cmp) (on_total (λ q. q.0) g.met.K.Ord.total) c.args.list.now c.loop-at.at
      c.loop-at-test.false c.loop-at.invariant),
  λ _. refl,
)
