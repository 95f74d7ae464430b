-- Each pair that comes is one more, and at the end the run is whole. A canonical tree is the one tree of its map.
use Rattle.std.proofs.Common.{arith, ◌∙◌}
use Rattle.std.proofs.iter.SoFar.{exit_by}
use Rattle.vc_tree_model.specs.Matches.{AreCopies}
use Rattle.vc_tree_model.proofs.ValueLemmas.{maps-by}
use Rattle.vc_tree_model.proofs.Uniqueness.{canonical-one}
use Rattle.vc_tree_model.proofs.Smallness.{canonical-smallest}
use Rattle.std.proofs.lemmas.List.{map-append}
use Rattle.vc_tree_nodes.proofs.Runs.{bound-parted}
use Rattle.vc_tree_nodes.proofs.collecting.collect.Goals as goal

pub loop-key-init : goal.loop-key-init
loop-key-init g c = (
  grind (arith, c.new-gathering.ensures.none, c.new-gathering.ensures.no_values),
  λ k. grind (arith, c.new-gathering.ensures.none, c.blank-tree.ensures),
)

pub loop-key-preserved : goal.loop-key-preserved
loop-key-preserved g c = (
  c.in_ok-add.ensures.grows,
  λ k. grind (
    arith,
    c.loop-key.invariant.1 k,
    c.in_ok-add.ensures.binds k,
    map-append,
    bound-parted,
    g.met.T.Build.keeps_refl,
    g.met.T.Build.keeps_trans,
  ),
)

pub returns-clause-pairs : goal.returns-clause-pairs
returns-clause-pairs g c =
    let whole =
    exit_by g.I.Iterator.next_gives (c.loop-key.yielded, c.loop-key.yielded_by) c.next.new.self
    (rw c.in-None.is at c.next.ensures.steps) in (
      whole.0,
      whole.1 ∙ c.into_iter-key-iterator.ensures.into_iter_gives,
      whole.2,
      rw (← whole.3.0) at (maps-by g.T.Build.keeps _ _ _ c.loop-key.invariant.1 c.in_ok-finish.ensures),
    )

pub returns-clause-one : goal.returns-clause-one
returns-clause-one g c =
    canonical-one g.K.Ord.cmp g.met.K.Ord.total (AreCopies g.V.Clone.is_clone) _ c.canonical.ensures

pub returns-clause-smallest : goal.returns-clause-smallest
returns-clause-smallest g c =
    canonical-smallest g.K.Ord.cmp (AreCopies g.V.Clone.is_clone) g.met.K.Ord.total _ c.canonical.ensures
