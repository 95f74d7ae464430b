use Rattle.vc_sets.proofs.vec_set.VecSet.from_iter.Goals as goal

pub returns-clause-runs : goal.returns-clause-runs
returns-clause-runs g c = c.in_ok-elements.ensures.runs
