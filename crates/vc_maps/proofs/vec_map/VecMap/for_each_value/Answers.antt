-- The list is what was written through the slice of all of it.
use Rattle.std.proofs.Common.{length, ap, ◌∙◌}
use Rattle.vc_maps.specs.Writing.{WritesAt}
use Rattle.vc_maps.proofs.Written.{entries-written, refilled, written-keys}
use Rattle.vc_maps.proofs.vec_map.VecMap.for_each_value.Goals as goal

pub returns-clause-values : goal.returns-clause-values
returns-clause-values g c =
    let same = c.as_mut_slice.ensures.value in let w = c.write_each.ensures in
    let whole = refilled c.self.inside.pairs.items c.write_each.new.pairs (c.write_each.auto.pairs ∙ ap length same) in (
      w.0,
      rw whole (rw (same, c.self.view_is) at w.1),
    )

pub returns-clause-keys : goal.returns-clause-keys
returns-clause-keys g c = let w = returns-clause-values g c in written-keys (WritesAt g.F.FnMut) _ _ _ w.0 w.1

pub invariant_of-self : goal.invariant_of-self
invariant_of-self g c = rw (returns-clause-keys g c, ← c.self.view_is) c.self.invariant

pub returns-clause-entries : goal.returns-clause-entries
returns-clause-entries g c k =
    let w = returns-clause-values g c in
    entries-written (WritesAt g.F.FnMut) g.K.Ord.cmp c.args.f _ _ w.0 w.1 k
