use Rattle.vc_merge.proofs.iterators.VecMapIterDoubleEndedIterator.next_back.Goals as goal

pub invariant_of-self : goal.invariant_of-self
invariant_of-self g c = g.met.I.FromBehind.goes_on _ c.self.inside.pairs c.next_back.new.self c.next_back.result
    c.self.invariant c.next_back.ensures.steps
