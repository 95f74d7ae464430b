use Rattle.std.proofs.Common.{refl, sym}
use Rattle.vc_btree_maps.proofs.Staying.{kept-written, kept-removed, kept-nothing}
use Rattle.vc_btree_maps.proofs.btree_map.in_place.keep_at.Goals as goal

pub returns-in_default-clause-kept : goal.returns-in_default-clause-kept
returns-in_default-clause-kept g c =
    rw c.get_mut.follows.holds-at-none (kept-nothing g.met.K.Ord.total (g.J.Keep.may c.args.judge.now) _ _ _ _
    c.get_mut.ensures.ordered (rw c.in_default.is at (sym c.get_mut.ensures.value)) refl)

pub returns-then-not-keep-clause-kept : goal.returns-then-not-keep-clause-kept
returns-then-not-keep-clause-kept g c =
    let wrote = c.get_mut.follows.holds c.keep.new.value in
    kept-removed g.met.K.Ord.total (g.J.Keep.may c.args.judge.now) _ _ _ wrote.4 c.remove.ensures.ordered
    (sym c.in-Some.ensures.value) (rw c.if-not-keep.true at c.keep.ensures) wrote.0 c.remove.ensures.entries

pub returns-else-not-keep-clause-kept : goal.returns-else-not-keep-clause-kept
returns-else-not-keep-clause-kept g c =
    let wrote = c.get_mut.follows.holds c.keep.new.value in
    kept-written g.met.K.Ord.total (g.J.Keep.may c.args.judge.now) _ _ wrote.4 (sym c.in-Some.ensures.value)
    (rw c.if-not-keep.false at c.keep.ensures) wrote.0
