use Rattle.std.proofs.Common.{refl, rules, arith}
use mathlib.Core.Bool.{false≢true}
use Rattle.vc_maps.proofs.Bound.{bound, lent-value}
use Rattle.vc_maps.proofs.Upserted.{place-written}
use Rattle.vc_maps.proofs.vec_map.VecMap.get_or_insert_with.Goals as goal

pub returns-in_err-place : goal.returns-in_err-place
returns-in_err-place g c = (
  grind (arith, c.from_residual.ensures.0, c.in_err-place.ensures.err, c.self.view_is),
  record {
    writes_back = tt;
    value = grind (arith, c.from_residual.ensures.0);
    known = λ h. absurd (false≢true (c.in_err-place.ensures.known (rw c.self.view_is h)));
    room = λ h. absurd (false≢true (c.in_err-place.ensures.room (rw c.self.view_is h)));
  },
)

pub invariant_of-self-lent : goal.invariant_of-self-lent
invariant_of-self-lent g c w =
    let put = c.in_ok-place.ensures in (place-written g.met.K.Ord.total put.found c.in-Some.ensures.value put.ascends w).ascends

pub returns : goal.returns
returns g c =
    let is = c.in-Some.ensures.value in
    let made = λ (v : g.row.V.Denot). g.F.FnOnce.post c.args.make tt v in
    let put = c.in_ok-place.ensures in (
      (
        refl,
        (λ w _. rw (← c.self.view_is) (bound g.met.K.Ord.total made _ _ put.found is put.ascends put.entry put.others w)),
        tt,
      ),
      record {
        writes_back = tt;
        value = rw (← c.self.view_is) (lent-value g.met.K.Ord.total made _ _ put.found is put.ascends put.entry);
        known = search rules;
        room = search rules;
      },
    )
