use Rattle.std.proofs.Common.{refl, sym}
use Rattle.vc_maps.proofs.Editing.{gap-value}
use Rattle.vc_maps.proofs.Lending.{found-at, unwritten, written}
use Rattle.vc_maps.proofs.vec_map.VecMap.get_mut.Goals as goal

pub invariant_of-self-lent : goal.invariant_of-self-lent
invariant_of-self-lent g c w =
    let found = rw c.as_slice.ensures at c.in-Ok.ensures in
    rw (written g.met.K.Ord.total found c.in-Some.ensures.value w).keys c.self.invariant

pub returns-in-Some : goal.returns-in-Some
returns-in-Some g c =
    let found = rw c.as_slice.ensures at c.in-Ok.ensures in (
      (refl, (λ w. rw (← c.self.view_is) (written g.met.K.Ord.total found c.in-Some.ensures.value w)), refl),
      record {
        writes_back = tt;
        value = rw (← c.self.view_is) (found-at g.met.K.Ord.total found c.in-Some.ensures.value);
      },
    )

pub returns-in-Err : goal.returns-in-Err
returns-in-Err g c =
    let gap = rw c.as_slice.ensures at c.in-Err.ensures in (
      (refl, (λ w. rw (← c.self.view_is) (unwritten g.met.K.Ord.total gap w)), c.self.view_is),
      record { writes_back = tt; value = rw (← c.self.view_is) (sym (gap-value g.met.K.Ord.total gap)) },
    )
