use Rattle.vc_merge.specs.Yielded.{along-step}
use Rattle.vc_merge.proofs.iterators.VecMapIterIterator.next.Goals as goal

pub invariant_of-self : goal.invariant_of-self
invariant_of-self g c = along-step _ _ c.self.inside.pairs c.next.new.self c.next.result c.self.invariant c.next.ensures.steps
