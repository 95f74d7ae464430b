-- What the closure answered is what set put at the key.
use Rattle.std.proofs.Common.{subst}
use Rattle.std.proofs.lemmas.Result.{on_ok_weaker}
use Rattle.vc_total_maps.specs.Putting.{IsPut}
use Rattle.vc_total_maps.specs.TotalMap.{at}
use Rattle.vc_total_maps.proofs.Put.{put-both}
use Rattle.vc_total_maps.proofs.total_vec_map.TotalVecMap.update.Goals as goal

pub returns-clause-put : goal.returns-clause-put
returns-clause-put g c =
    on_ok_weaker c.set.result
    (λ put. (c.in_ok-value.value, (c.index.result, c.in_ok-value.ensures, c.index.ensures), put))
    (put-both g.K.Ord.cmp g.V.PartialEq.eq _ _ _ _ c.set.result c.set.ensures.values c.set.ensures.entries)

pub returns-clause-plain : goal.returns-clause-plain
returns-clause-plain g c =
    on_ok_weaker c.set.result
    (λ put f answers. subst (λ v. IsPut g.K.Ord.cmp g.V.PartialEq.eq c.args.self.now c.args.key v c.set.new.self)
    (answers (at g.K.Ord.cmp c.args.self.now c.args.key) c.in_ok-value.value
    (c.index.result, c.in_ok-value.ensures, c.index.ensures)) put)
    (put-both g.K.Ord.cmp g.V.PartialEq.eq _ _ _ _ c.set.result c.set.ensures.values c.set.ensures.entries)
