-- The pair comes behind those that are kept.
use Rattle.std.proofs.Common.{arith}
use Rattle.vc_tree_nodes.proofs.Runs.{keep-grows, pairs-more, bound-parted}
use Rattle.vc_tree_nodes.proofs.gathering.Gathering.keep.Goals as goal

pub returns-clause-grows : goal.returns-clause-grows
returns-clause-grows g c =
    keep-grows g.K.Ord.cmp (λ s. g.S.Spelled.components s.key) (λ s. s.common) _ _ _ _ c.requires.ascends c.requires.grows
    c.requires.follows c.in_ok-push.ensures.items c.in_ok-push-2.ensures.items

pub returns-clause-binds : goal.returns-clause-binds
returns-clause-binds g c = λ k.
    grind (
      arith,
      pairs-more,
      bound-parted,
      c.requires.ascends,
      c.requires.grows,
      c.in_ok-push.ensures.items,
      c.in_ok-push-2.ensures.items,
    )
