use Rattle.std.proofs.Common.{ap, refl, sym, rules}
use mathlib.Core.Bool.{false≢true}
use Rattle.std.specs.Map.Calls.{MayWrite}
use Rattle.vc_maps.proofs.Editing.{found-value, gap-value}
use Rattle.vc_maps.proofs.Upserted.{upserts-new, upserts-place}
use Rattle.vc_maps.proofs.vec_map.VecMap.upsert.Goals as goal

-- ---- a known key

pub f-requires : goal.f-requires
f-requires g c =
    let found = rw c.as_slice.ensures at c.in-Ok.ensures in
    c.requires.callable _ (rw (c.as_mut_slice.ensures.value, ← c.self.view_is)
    (found-value g.met.K.Ord.total found c.index-as_mut_slice-place.result))

pub invariant_of-self : goal.invariant_of-self
invariant_of-self g c =
    let found = rw c.as_slice.ensures at c.in-Ok.ensures in
    (upserts-place g.met.K.Ord.total (λ v w. Unit {0}) _ c.args.default refl c.as_mut_slice.ensures.value found
    c.index-as_mut_slice-place.is c.self.invariant c.f.new.arg2 tt).ascends

pub returns-in-Ok : goal.returns-in-Ok
returns-in-Ok g c =
    let found = rw c.as_slice.ensures at c.in-Ok.ensures in
    let did : MayWrite g.F.FnOnce c.args.f c.index-as_mut_slice-place.result.1 c.f.new.arg2 =
    record {
      lent = _;
      result = c.f.result;
      left = _;
      before = ap (λ q. q.1) (sym c.index-as_mut_slice-place.is);
      met = c.f.ensures;
      after = refl;
    } in
    let says = upserts-place g.met.K.Ord.total (MayWrite g.F.FnOnce c.args.f) _ c.args.default c.self.view_is
    c.as_mut_slice.ensures.value found c.index-as_mut_slice-place.is c.self.invariant c.f.new.arg2 did in
    search (rules, says)

-- ---- a new key

pub invariant_of-self-in-Err-1 : goal.invariant_of-self-in-Err-1
invariant_of-self-in-Err-1 g c =
    (upserts-new g.met.K.Ord.total (λ v w. Unit {0}) _ _ refl c.as_slice.ensures c.in-Err.ensures c.self.invariant
    c.in_ok-insert_at-in-Err.ensures.ok).ascends

pub returns-in_ok-insert_at-in-Err : goal.returns-in_ok-insert_at-in-Err
returns-in_ok-insert_at-in-Err g c =
    let says = upserts-new g.met.K.Ord.total (MayWrite g.F.FnOnce c.args.f) _ _ c.self.view_is c.as_slice.ensures
    c.in-Err.ensures c.self.invariant c.in_ok-insert_at-in-Err.ensures.ok in
    search (rules, says)

pub returns-in_err-insert_at-in-Err-clause-room : goal.returns-in_err-insert_at-in-Err-clause-room
returns-in_err-insert_at-in-Err-clause-room g c = λ h.
    absurd (false≢true (c.in_err-insert_at-in-Err.ensures.few (rw c.self.view_is h)))

pub returns-in_err-insert_at-in-Err-clause-known : goal.returns-in_err-insert_at-in-Err-clause-known
returns-in_err-insert_at-in-Err-clause-known g c =
    let none = gap-value g.met.K.Ord.total c.in-Err.ensures in
    λ h. absurd (false≢true (rw (← c.self.view_is, ← c.as_slice.ensures, none) at h))
