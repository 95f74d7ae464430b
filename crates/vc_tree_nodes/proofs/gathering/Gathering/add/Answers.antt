-- Once the tree of the run is made, the pair is bound in it.
use Rattle.std.proofs.Common.{arith}
use Rattle.std.proofs.lemmas.Result.{on_ok_weaker}
use Rattle.vc_tree_model.proofs.ValueLemmas.{kept-refl}
use Rattle.vc_tree_nodes.proofs.gathering.Gathering.add.Goals as goal

pub returns-in_ok-end_run-in-None-clause-binds : goal.returns-in_ok-end_run-in-None-clause-binds
returns-in_ok-end_run-in-None-clause-binds g c =
    on_ok_weaker c.insert.result
    (λ u. λ j. grind (
      arith,
      c.if-self.true,
      c.in_ok-end_run-in-None.ensures.ended,
      c.in_ok-end_run-in-None.ensures.pairs j,
      c.as_key-in-None.ensures,
      u.at j,
      u.others j,
      g.met.T.Build.keeps_refl,
    )) c.insert.ensures.ok

pub returns-in-Some-clause-binds : goal.returns-in-Some-clause-binds
returns-in-Some-clause-binds g c =
    on_ok_weaker c.keep.result
    (λ h. λ j. grind (arith, c.if-self.true, c.keep.ensures.ascends, h j, kept-refl g.T.Build.keeps g.met.T.Build.keeps_refl))
    c.keep.ensures.binds

pub returns-else-self-clause-binds : goal.returns-else-self-clause-binds
returns-else-self-clause-binds g c =
    on_ok_weaker c.insert-else-self.result
    (λ u. λ j. grind (arith, c.if-self.false, c.as_key-else-self.ensures, u.at j, u.others j, g.met.T.Build.keeps_refl))
    c.insert-else-self.ensures.ok
