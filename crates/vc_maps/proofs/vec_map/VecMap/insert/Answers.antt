use Rattle.std.proofs.Common.{refl, rules}
use mathlib.Core.Bool.{false≢true}
use Rattle.std.specs.Cmp.{tied_itself}
use Rattle.vc_maps.proofs.Editing.{found-changed, gap-changed, found-value, gap-value}
use Rattle.vc_maps.proofs.Written.{refilled-set}
use Rattle.vc_maps.proofs.vec_map.VecMap.insert.Goals as goal

-- ---- a known key

pub invariant_of-self : goal.invariant_of-self
invariant_of-self g c =
    (found-changed g.met.K.Ord.total refl c.as_slice.ensures c.in-Ok.ensures c.self.invariant (c.args.key, c.args.value)
    (tied_itself g.met.K.Ord.total c.args.key)
    (refilled-set _ c.as_mut_slice.ensures.value c.replace-old.ensures.after)).ascends

pub returns-in-Ok : goal.returns-in-Ok
returns-in-Ok g c =
    let put = found-changed g.met.K.Ord.total c.self.view_is c.as_slice.ensures c.in-Ok.ensures c.self.invariant
    (c.args.key, c.args.value) (tied_itself g.met.K.Ord.total c.args.key)
    (refilled-set _ c.as_mut_slice.ensures.value c.replace-old.ensures.after) in
    record {
      old = cc (found-value g.met.K.Ord.total c.in-Ok.ensures c.index-as_mut_slice-place.result);
      values = put.values;
      entries = put.entries;
      known = search rules;
      room = search rules;
      err = search rules;
    }

-- ---- a new key

pub invariant_of-self-in-Err : goal.invariant_of-self-in-Err
invariant_of-self-in-Err g c =
    (gap-changed g.met.K.Ord.total refl c.as_slice.ensures c.in-Err.ensures c.self.invariant c.args.value
    c.in_ok-insert_at-in-Err.ensures.ok).ascends

pub returns-in_ok-insert_at-in-Err : goal.returns-in_ok-insert_at-in-Err
returns-in_ok-insert_at-in-Err g c =
    let put = gap-changed g.met.K.Ord.total c.self.view_is c.as_slice.ensures c.in-Err.ensures c.self.invariant
    c.args.value c.in_ok-insert_at-in-Err.ensures.ok in
    let none = gap-value g.met.K.Ord.total c.in-Err.ensures in
    search (rules, put, none)

pub returns-in_err-insert_at-in-Err-clause-room : goal.returns-in_err-insert_at-in-Err-clause-room
returns-in_err-insert_at-in-Err-clause-room g c = λ h.
    cc (c.insert_at.ensures.few (rw c.self.view_is h), c.in_err-insert_at-in-Err.was {u = tt})

pub returns-in_err-insert_at-in-Err-clause-known : goal.returns-in_err-insert_at-in-Err-clause-known
returns-in_err-insert_at-in-Err-clause-known g c =
    let none = gap-value g.met.K.Ord.total c.in-Err.ensures in
    λ h. absurd (false≢true (rw (← c.self.view_is, ← c.as_slice.ensures, none) at h))
