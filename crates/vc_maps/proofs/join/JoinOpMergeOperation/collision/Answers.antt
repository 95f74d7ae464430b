use Rattle.std.proofs.Common.{refl}
use Rattle.std.specs.declared.cmp.Ordering.TheVariants.{Equal}
use Rattle.vc_maps.proofs.Asked.{heads-passed, heads-taken}
use Rattle.vc_maps.proofs.join.JoinOpMergeOperation.collision.Goals as goal

pub ask_both-requires-clause-takes : goal.ask_both-requires-clause-takes
ask_both-requires-clause-takes g c =
    let r = c.requires.ready in (heads-passed g.met.K.Ord.total Equal _ _ r.1 c.requires.equal r.2).asked refl

pub returns-clause-takes : goal.returns-clause-takes
returns-clause-takes g c = let r = c.requires.ready in
    heads-taken g.met.K.Ord.total g.M.MergeState.left g.M.MergeState.right g.M.MergeStateMut.ready Equal _ _ _
    r.1 c.requires.equal r.2 c.ask_both.ensures.passes
