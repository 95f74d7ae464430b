use Rattle.std.specs.Prelude.{Ok}
use Rattle.vc_joins.specs.declared.question.JoinKind.TheVariants as kind
use Rattle.vc_joins.specs.Question.{right_spelling}
use Rattle.vc_btree_maps.specs.Pairs.{pairs_left}
use Rattle.vc_btree_maps.proofs.Asking.{Bare, IsJoined}
use Rattle.vc_btree_maps.proofs.Passing.{IsPassed}
use Rattle.vc_btree_maps.proofs.btree_map.fresh.join_right.Given as goal

-- nothing stands at the keys of the pairs that are left, and what the join makes at all others
abbrev pub invariant-keys : goal.invariant-keys
invariant-keys g l =
    IsPassed g.K.Ord.cmp Bare (IsJoined (λ a r. g.Q.Question.may l.question a (Ok r)) g.K.Clone.is_clone g.K.Ord.cmp
    kind.Right right_spelling (g.L.AbstractBTreeMap.pairs l.this) (g.M.AbstractBTreeMap.pairs l.that))
    (g.M.AbstractBTreeMap.pairs l.that) (pairs_left l.key-iterator) l.joined.entries
