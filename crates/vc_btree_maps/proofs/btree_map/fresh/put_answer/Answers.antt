use Rattle.vc_merge.proofs.Clones.{clone-equal}
use Rattle.vc_btree_maps.proofs.Entries.{put-some, put-none}
use Rattle.vc_btree_maps.proofs.btree_map.fresh.put_answer.Goals as goal

pub returns-in_ok-insert-in-Some-clause-put : goal.returns-in_ok-insert-in-Some-clause-put
returns-in_ok-insert-in-Some-clause-put g c =
    let clone = c.in_ok-clone-in-Some.ensures.cases in
    let equal = clone-equal g.K.Ord.cmp g.met.K.Ord.total g.K.Clone.is_clone c.requires.clones _ _ clone in
    let put = c.in_ok-insert-in-Some.ensures in
    rw c.in-Some.is (put-some g.met.K.Ord.total g.K.Clone.is_clone _ _ _ _ _ put.ordered clone equal
    c.requires.absent put.entries)

pub returns-in-None-clause-put : goal.returns-in-None-clause-put
returns-in-None-clause-put g c =
    rw c.in-None.is (put-none g.met.K.Ord.total g.K.Clone.is_clone _ _ c.requires.ascends c.requires.absent)
