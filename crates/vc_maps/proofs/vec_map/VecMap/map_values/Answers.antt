use Rattle.std.proofs.Common.{sym}
use mathlib.Core.Bool.{true≢false}
use Rattle.vc_maps.proofs.Mapped.{entries-mapped}
use Rattle.vc_maps.proofs.vec_map.VecMap.map_values.Goals as goal

pub returns-in_err-mapped-clause-room : goal.returns-in_err-mapped-clause-room
returns-in_err-mapped-clause-room g c = λ h.
    absurd (true≢false (sym (c.in_err-mapped.ensures.succeeds (rw (c.len.ensures.value, c.into_inner-pairs.ensures.pairs) h))))

pub returns-clause-values : goal.returns-clause-values
returns-clause-values g c =
    rw (c.as_mut_slice.ensures.value, c.into_inner-pairs.ensures.pairs) at c.push_mapped.ensures.values

pub returns-clause-entries : goal.returns-clause-entries
returns-clause-entries g c =
    rw (c.as_mut_slice.ensures.value, c.into_inner-pairs.ensures.pairs) at
    (entries-mapped _ g.K.Ord.cmp _ _ _ _ c.push_mapped.ensures.keys c.push_mapped.ensures.values.1)
