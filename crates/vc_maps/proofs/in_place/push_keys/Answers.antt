use Rattle.std.proofs.Common.{◌≡◌, ◌+◌, ◌∷◌, [], ap, ◌∙◌, length, length-append, take, arith}
use Rattle.std.proofs.lemmas.List.{take-append-le}
use Rattle.vc_merge.proofs.Extending.{room-push}
use Rattle.vc_maps.proofs.Kept.{keys-more}
use Rattle.vc_maps.proofs.in_place.push_keys.Goals as goal

pub pairs-preserved : goal.pairs-preserved
pairs-preserved g c =
    let old = c.args.list.now.items in let mid = c.pairs.list.items in let behind = c.pairs.invariant.behind in
    let q : g.row.K.Denot × g.row.V.Denot = (c.in_ok-clone.field-0, c.made_with-blank.result.1) in
    let pushed = c.push_reserved.ensures.items in
    let longer : length c.push_reserved.new.self.items ≡ length mid + 1 = ap length pushed ∙ length-append mid (q ∷ []) in
    record {
      front = ap (take (length old)) pushed ∙ take-append-le (length old) mid (q ∷ []) behind ∙ c.pairs.invariant.front;
      behind = omega arith;
      cloned = keys-more g.K.Clone.is_clone _ _ _ q c.pairs-test.true c.pair-item.is
          c.in_ok-clone.ensures.cases pushed c.pairs.invariant.cloned;
      room = room-push _ _ pushed c.push_reserved.ensures.capacity c.pairs-test.true c.pairs.invariant.room;
    }
