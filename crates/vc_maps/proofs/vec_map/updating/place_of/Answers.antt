use Rattle.std.proofs.Common.{refl, rules}
use mathlib.Core.Bool.{false≢true}
use Rattle.vc_sets.proofs.ByForm.{at-place}
use Rattle.vc_maps.proofs.Bound.{put-new}
use Rattle.vc_maps.proofs.Editing.{found-entry, gap-value}
use Rattle.vc_maps.proofs.vec_map.updating.place_of.Goals as goal

-- ---- a known key

pub returns-in-Ok-clause-found : goal.returns-in-Ok-clause-found
returns-in-Ok-clause-found g c = rw c.as_slice.ensures at c.in-Ok.ensures

pub returns-in-Ok-clause-entry : goal.returns-in-Ok-clause-entry
returns-in-Ok-clause-entry g c =
    let found = rw c.as_slice.ensures at c.in-Ok.ensures in
    rw (found-entry g.met.K.Ord.total found (at-place _ _ found.within).0) refl

-- ---- a new key

pub make-requires : goal.make-requires
make-requires g c = c.requires.callable (gap-value g.met.K.Ord.total (rw c.as_slice.ensures at c.in-Err.ensures))

pub returns-in_ok-insert_at-in-Err : goal.returns-in_ok-insert_at-in-Err
returns-in_ok-insert_at-in-Err g c =
    let put = put-new g.met.K.Ord.total (λ v. g.F.FnOnce.post c.args.make tt v) c.args.pairs.now.items c.args.key
    c.make.result c.as_slice.ensures c.in-Err.ensures c.requires.ascends c.make.ensures c.make_room.ensures.items
    c.in_ok-insert_at-in-Err.ensures.ok in
    search (rules, put)

pub returns-in_err-make_room-in-Err-clause-known : goal.returns-in_err-make_room-in-Err-clause-known
returns-in_err-make_room-in-Err-clause-known g c =
    let none = gap-value g.met.K.Ord.total (rw c.as_slice.ensures at c.in-Err.ensures) in
    λ h. absurd (false≢true (rw none at h))
