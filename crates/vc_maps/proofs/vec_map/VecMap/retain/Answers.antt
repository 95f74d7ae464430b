use Rattle.std.proofs.Common.{◌∙◌, length, ap}
use Rattle.std.proofs.lemmas.Fn.{filter_same}
use Rattle.std.specs.Fn.{CalledAt}
use Rattle.vc_merge.proofs.Keeping.{front-refilled}
use Rattle.vc_maps.proofs.Retaining.{chosen-ascends, entries-asked}
use Rattle.vc_maps.proofs.vec_map.VecMap.retain.Goals as goal

pub keep_in_front-kept-requires : goal.keep_in_front-kept-requires
keep_in_front-kept-requires g c =
    rw (c.as_mut_slice.ensures.value, c.self.view_is) c.requires

pub returns-clause-filtered : goal.returns-clause-filtered
returns-clause-filtered g c =
    let e = c.truncate.ensures.items ∙ front-refilled c.self.inside.pairs.items c.keep_in_front-kept.new.list
    c.keep_in_front-kept.result c.keep_in_front-kept.ensures.within
    (c.keep_in_front-kept.auto.list ∙ ap length c.as_mut_slice.ensures.value) in
    rw e (rw (c.as_mut_slice.ensures.value, c.self.view_is) at c.keep_in_front-kept.ensures.kept)

pub invariant_of-self : goal.invariant_of-self
invariant_of-self g c =
    let f = returns-clause-filtered g c in
    rw f.4 (chosen-ascends g.K.Ord.cmp g.met.K.Ord.total f.0 _ (rw c.self.view_is at c.self.invariant))

pub returns-clause-entries : goal.returns-clause-entries
returns-clause-entries g c =
    entries-asked g.K.Ord.cmp g.met.K.Ord.total (CalledAt g.F.FnMut) c.args.f _ _
    (rw c.self.view_is at c.self.invariant) (returns-clause-filtered g c)

pub returns-clause-plain : goal.returns-clause-plain
returns-clause-plain g c = λ test h. filter_same (CalledAt g.F.FnMut) test c.args.f h _ _ (returns-clause-filtered g c)
