use Rattle.std.proofs.Common.{rules, refl, ap, ◌∙◌, ◌≡◌}
use Rattle.std.proofs.lemmas.Fn.{chained_keeps}
use Rattle.vc_btree_maps.specs.Keeping.{at_pair}
use Rattle.vc_joins.specs.Entries.{value_at}
use Rattle.vc_btree_maps.proofs.Staying.{judged, join-of_judged, asked-in}
use Rattle.vc_btree_maps.proofs.btree_map.in_place.keep_each.Goals as goal

pub retain-requires : goal.retain-requires
retain-requires g c =
    let pairs = g.M.AbstractBTreeMap.pairs in
    record {
      at = λ before after h k v e folds p q is_key is_value.
          let same = chained_keeps _ (λ xs f. (f.0.now ≡ c.args.judge.now) × (f.1.now ≡ c.args.that.now))
          (λ xs f x u is step. let stays : u ≡ f = let call = step.2 in search rules in
          (ap (λ s. s.0.now) stays ∙ is.0, ap (λ s. s.1.now) stays ∙ is.1)) before _ h (refl, refl) folds in
          rw (same.0, same.1, is_key, is_value)
          (c.requires.takes _ (asked-in g.met.K.Ord.total (g.J.Keep.may c.args.judge.now)
          (pairs c.args.that.now) _ before after k v c.keys_ascend.ensures e));
    }

pub returns : goal.returns
returns g c =
    join-of_judged g.met.K.Ord.total (g.J.Keep.may c.args.judge.now) _ _ _ c.retain.ensures.ordered
    (λ x. judged g.met.K.Ord.total _ _
    (λ k v r. g.J.Keep.may c.args.judge.now
    (at_pair k v (value_at g.K.Ord.cmp (g.M.AbstractBTreeMap.pairs c.args.that.now) k)) r)
    (λ k v b w h t. search rules) x _ _ _ refl c.retain.ensures.was_ordered c.retain.ensures.filtered)
