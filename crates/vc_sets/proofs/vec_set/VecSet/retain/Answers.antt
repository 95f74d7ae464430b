use Rattle.std.proofs.Common.{◌∙◌, length, ap}
use Rattle.std.specs.Fn.{CalledAt}
use Rattle.std.proofs.lemmas.Fn.{filter_same}
use Rattle.vc_merge.proofs.Chosen.{ascends-chosen}
use Rattle.vc_merge.proofs.Keeping.{front-refilled}
use Rattle.vc_merge.proofs.Retained.{asked, asked-member}
use Rattle.vc_sets.proofs.vec_set.VecSet.retain.Goals as goal

pub keep_in_front-kept-requires : goal.keep_in_front-kept-requires
keep_in_front-kept-requires g c = rw (c.as_mut_slice.ensures.value, c.self.view_is) c.requires

pub invariant_of-self : goal.invariant_of-self
invariant_of-self g c =
    let f = c.keep_in_front-kept.ensures.kept in
    let e = c.truncate.ensures.items ∙ front-refilled c.self.inside.elements.items c.keep_in_front-kept.new.list
    c.keep_in_front-kept.result c.keep_in_front-kept.ensures.within
    (c.keep_in_front-kept.auto.list ∙ ap length c.as_mut_slice.ensures.value) ∙ f.4 in
    rw e (ascends-chosen g.T.Ord.cmp f.0 c.as_mut_slice.result.now (rw c.as_mut_slice.ensures.value c.self.invariant))

pub returns-clause-filtered : goal.returns-clause-filtered
returns-clause-filtered g c =
    let e = c.truncate.ensures.items ∙ front-refilled c.self.inside.elements.items c.keep_in_front-kept.new.list
    c.keep_in_front-kept.result c.keep_in_front-kept.ensures.within
    (c.keep_in_front-kept.auto.list ∙ ap length c.as_mut_slice.ensures.value) in
    rw e (rw (c.as_mut_slice.ensures.value, c.self.view_is) at c.keep_in_front-kept.ensures.kept)

pub returns-clause-kept : goal.returns-clause-kept
returns-clause-kept g c =
    asked g.T.Ord.cmp g.met.T.Ord.total (CalledAt g.F.FnMut) c.args.f _ _ (rw c.self.view_is at c.self.invariant)
    (returns-clause-filtered g c)

pub returns-clause-members : goal.returns-clause-members
returns-clause-members g c = λ x. asked-member g.T.Ord.cmp g.met.T.Ord.total (CalledAt g.F.FnMut) _ _ x
    (returns-clause-kept g c x)

pub returns-clause-plain : goal.returns-clause-plain
returns-clause-plain g c = λ test h. filter_same (CalledAt g.F.FnMut) test c.args.f h _ _ (returns-clause-filtered g c)
