-- The closure is asked at pairs of the walk, which are bound, and what it answers is noted.
use Rattle.std.proofs.Common.{◌∙◌, List, Some, ap, subst, sym}
use Rattle.vc_tree_walks.specs.IterLeft.{pairs_left}
use Rattle.vc_trees.specs.RetainedPairs.{CanTell, IsNoted, MayTell, binds}
use Rattle.vc_trees.proofs.Noting.{next-bound, none-bound, noted-begun, noted-ended, noted-next}
use Rattle.vc_trees.proofs.radix_tree.retaining.keys_that_go.Goals as goal

pub loop-pair-init : goal.loop-pair-init
loop-pair-init g c =
    let tree = g.T.RadixNode.tree in
    let cmp = g.K.Ord.cmp in
    let left = ap (pairs_left tree) c.into_iter-pair-iterator.ensures.into_iter_gives ∙ c.iter-pair-items.ensures.all in
    let none = λ (k : List g.row.K.Denot). ap (λ t. binds cmp t k) c.blank-going.ensures ∙ none-bound cmp g.G.Build.keeps k in
    (tt, tt, noted-begun cmp g.met.K.Ord.total (MayTell g.F.Fn c.args.keep.now) (tree c.args.tree.now) _ _ left none)

pub noted-requires : goal.noted-requires
noted-requires g c =
    let cmp = g.K.Ord.cmp in
    let step = rw c.in_ok-key.was at c.in-Some.ensures.steps in
    let bound =
    next-bound cmp g.met.K.Ord.total (MayTell g.F.Fn c.args.keep.now) (g.T.RadixNode.tree c.args.tree.now) c.canonical.ensures _ _
    (c.in_ok-key.key, c.in_ok-key.value.now) _ c.loop-pair.invariant.2 step in
    subst (λ key. CanTell g.F.Fn c.args.keep.now key (Some c.in_ok-key.value.now)) (sym c.as_ref.ensures)
    (subst (λ o. CanTell g.F.Fn c.args.keep.now c.in_ok-key.key o) bound (c.requires c.in_ok-key.key))

pub loop-pair-preserved-in_ok-going : goal.loop-pair-preserved-in_ok-going
loop-pair-preserved-in_ok-going g c =
    let cmp = g.K.Ord.cmp in
    let may = MayTell g.F.Fn c.args.keep.now in
    let step = rw c.in_ok-key.was at c.in-Some.ensures.steps in
    let noted =
    subst (λ key. IsNoted cmp may key c.in_ok-key.value.now (binds cmp (g.G.RadixNode.tree c.loop-pair.going))
    (binds cmp (g.G.RadixNode.tree c.in_ok-going.going))) c.as_ref.ensures c.in_ok-going.ensures in (
      tt,
      tt,
      noted-next cmp g.met.K.Ord.total may (g.T.RadixNode.tree c.args.tree.now) _ _ (c.in_ok-key.key, c.in_ok-key.value.now) _ _
          c.loop-pair.invariant.2 step noted,
    )

pub loop-pair-preserved : goal.loop-pair-preserved
loop-pair-preserved g c =
    let cmp = g.K.Ord.cmp in
    let may = MayTell g.F.Fn c.args.keep.now in
    let step = rw c.in_ok-key.was at c.in-Some.ensures.steps in
    let noted =
    subst (λ key. IsNoted cmp may key c.in_ok-key.value.now (binds cmp (g.G.RadixNode.tree c.loop-pair.going))
    (binds cmp (g.G.RadixNode.tree c.in_ok-going.going))) c.as_ref.ensures c.in_ok-going.ensures in (
      tt,
      tt,
      noted-next cmp g.met.K.Ord.total may (g.T.RadixNode.tree c.args.tree.now) _ _ (c.in_ok-key.key, c.in_ok-key.value.now) _ _
          c.loop-pair.invariant.2 step noted,
    )

pub returns : goal.returns
returns g c =
    noted-ended g.K.Ord.cmp g.met.K.Ord.total (MayTell g.F.Fn c.args.keep.now) (g.T.RadixNode.tree c.args.tree.now)
    c.canonical.ensures _ _ c.loop-pair.invariant.2 c.in-None.ensures.steps.0
