use Rattle.std.proofs.Common.{◌∙◌, ap, ◌&&◌, not, cond, None}
use Rattle.vc_merge.specs.Ascending.{member, element_at}
use Rattle.vc_sets.proofs.Searching.{equal-turned}
use Rattle.vc_sets.proofs.vec_set.VecSet.remove.Goals as goal

pub returns-clause-members : goal.returns-clause-members
returns-clause-members g c = λ x. c.remove_by.ensures.members x
    ∙ ap (λ b. not b && member g.T.Ord.cmp c.args.self.now x) (equal-turned g.T.Ord.cmp g.met.T.Ord.total x c.args.that.now)

pub returns-clause-kept : goal.returns-clause-kept
returns-clause-kept g c = λ x. c.remove_by.ensures.kept x
    ∙ ap (λ b. cond b None (element_at g.T.Ord.cmp c.args.self.now x))
    (equal-turned g.T.Ord.cmp g.met.T.Ord.total x c.args.that.now)
