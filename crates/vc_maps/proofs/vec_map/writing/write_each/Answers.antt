-- The pair at the place is as it was, the closure may be called at it, and it is written then.
use Rattle.std.proofs.Common.{◌+◌, ◌<◌, length, drop, get_or, refl, sym, ap, ◌∙◌, drop-drop, arith}
use Rattle.std.proofs.lemmas.List.{drop-set-lt}
use Rattle.vc_merge.proofs.Callable.{callable-first, callable-others}
use Rattle.vc_maps.specs.Writing.{CanWriteAt, WritesAt}
use Rattle.vc_maps.proofs.Mapped.{drop-next}
use Rattle.vc_maps.proofs.Written.{written-next}
use Rattle.vc_maps.proofs.vec_map.writing.write_each.Goals as goal

pub f-requires : goal.f-requires
f-requires g c =
    let i = c.pairs.at in let p = c.index-pairs-at.result in let before = c.pairs.invariant in
    let within : i < length c.pairs.pairs = rw c.pairs.auto.pairs c.pairs-test.true in
    let left = drop-next c.pairs.pairs c.args.pairs.now i p before.rest within c.pairs.auto.pairs c.index-pairs-at.is in
    callable-first (λ f p h. (w : g.row.V.Denot) × WritesAt g.F.FnMut f p.0 p.1 w h) (CanWriteAt g.F.FnMut) c.pairs.f p _ _
    left before.callable _ _ (ap (λ q. q.0) (sym c.index-pairs-at.is)) (ap (λ q. q.1) (sym c.index-pairs-at.is))

pub pairs-preserved : goal.pairs-preserved
pairs-preserved g c =
    let old = c.args.pairs.now in let now = c.pairs.pairs in
    let i = c.pairs.at in let p = c.index-pairs-at.result in let before = c.pairs.invariant in
    let within : i < length now = rw c.pairs.auto.pairs c.pairs-test.true in
    let is = c.index-pairs-at.is in
    let left = drop-next now old i p before.rest within c.pairs.auto.pairs is in
    let q : g.row.K.Denot × g.row.V.Denot = ((get_or now i p).0, c.f.new.arg3) in
    let written : WritesAt g.F.FnMut c.pairs.f p.0 p.1 c.f.new.arg3 c.f.new.self =
    record {
      key = _;
      value = _;
      shows = (ap (λ q. q.0) (sym is), ap (λ q. q.1) (sym is));
      left = _;
      called = c.f.ensures;
      leaves = refl;
    } in
    record {
      callable = callable-others (λ f p h. (w : g.row.V.Denot) × WritesAt g.F.FnMut f p.0 p.1 w h) (CanWriteAt g.F.FnMut)
          c.pairs.f p _ _ left before.callable c.f.new.self (c.f.new.arg3, written);
      rest = drop-set-lt (i + 1) now i q (omega arith)
          ∙ sym (drop-drop 1 i now) ∙ ap (drop 1) before.rest ∙ drop-drop 1 i old;
      written =
          written-next (WritesAt g.F.FnMut) c.args.f old now i p q c.pairs.f c.f.new.self before.rest within c.pairs.auto.pairs is
          before.written written (ap (λ q. q.0) (sym is));
    }
