use Rattle.std.proofs.Common.{◌≡◌, ◌+◌, ◌<◌, length, drop, get_or, sym, ap, ◌∙◌, drop-drop, arith}
use Rattle.std.proofs.lemmas.List.{drop-set-lt, take_all}
use denote.Param.Members.{Called}
use Rattle.std.specs.Fn.{Takes}
use Rattle.std.specs.Map.{values_of}
use Rattle.vc_merge.proofs.Callable.{callable-first, callable-others}
use Rattle.vc_merge.proofs.Extending.{room-push}
use Rattle.vc_maps.proofs.Mapped.{take-next, drop-next, keys-mapped, values-mapped}
use Rattle.vc_maps.proofs.vec_map.mapping.push_mapped.Goals as goal

pub f-answer-requires : goal.f-answer-requires
f-answer-requires g c =
    let i = c.pairs.at in let p = c.replace-key.result in let before = c.pairs.invariant in
    let is : p ≡ get_or c.pairs.pairs i p = cc (c.replace-key.ensures.value, c.index-pairs-at.is) in
    let within : i < length c.pairs.pairs = rw c.pairs.auto.pairs c.pairs-test.true in
    let left = drop-next c.pairs.pairs c.args.pairs.now i p before.rest within c.pairs.auto.pairs is in
    callable-first (λ s v t. (x : _) × Called g.F.FnMut s (v, tt) x t)
    (λ s v. Takes g.F.FnMut s (v, tt)) c.pairs.f p.1 _ _ (ap values_of left) before.callable

pub pairs-preserved : goal.pairs-preserved
pairs-preserved g c =
    let old = c.args.pairs.now in let i = c.pairs.at in let p = c.replace-key.result in let before = c.pairs.invariant in
    let is : p ≡ get_or c.pairs.pairs i p = cc (c.replace-key.ensures.value, c.index-pairs-at.is) in
    let within : i < length c.pairs.pairs = rw c.pairs.auto.pairs c.pairs-test.true in
    let more = take-next c.pairs.pairs old i p before.rest within c.pairs.auto.pairs is in
    let left = drop-next c.pairs.pairs old i p before.rest within c.pairs.auto.pairs is in
    let pushed = c.push_reserved.ensures.items in
    record {
      callable = callable-others (λ s v t. (x : _) × Called g.F.FnMut s (v, tt) x t) (λ s v. Takes g.F.FnMut s (v, tt)) c.pairs.f
          p.1 _ _ (ap values_of left) before.callable c.f-answer.new.self (c.f-answer.result, c.f-answer.ensures);
      room = room-push _ _ pushed c.push_reserved.ensures.capacity c.pairs-test.true before.room;
      rest = drop-set-lt (i + 1) c.pairs.pairs i c.replace-key.new.dest (omega arith)
          ∙ sym (drop-drop 1 i c.pairs.pairs) ∙ ap (drop 1) before.rest ∙ drop-drop 1 i old;
      keys = keys-mapped old i p c.pairs.mapped.items c.push_reserved.new.self.items c.f-answer.result more pushed before.keys;
      values = values-mapped _ old i p c.pairs.mapped.items c.push_reserved.new.self.items c.args.f c.pairs.f
          c.f-answer.new.self c.f-answer.result more pushed before.values c.f-answer.ensures;
    }

pub returns-clause-values : goal.returns-clause-values
returns-clause-values g c =
    (c.pairs.f, rw (take_all c.pairs.at c.args.pairs.now c.pairs-test.false) at c.pairs.invariant.values)
