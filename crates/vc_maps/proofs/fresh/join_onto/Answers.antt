use Rattle.std.proofs.Common.{ap, arith, Ok}
use Rattle.vc_joins.specs.Join.{ClonedKey}
use Rattle.vc_merge.proofs.Clones.{clone-equal}
use Rattle.vc_maps.specs.FreshViews.{list_name}
use Rattle.vc_maps.proofs.Asked.{both-ascend, can-ask}
use Rattle.vc_maps.proofs.Asking.{asked-kind}
use Rattle.vc_maps.proofs.Joined.{merged-join}
use Rattle.vc_maps.proofs.fresh.join_onto.Goals as goal

pub merge-requires-clause-ready : goal.merge-requires-clause-ready
merge-requires-clause-ready g c =
    rw (c.new-state.ensures.a, c.new-state.ensures.b) (
      c.new-state.ensures.places,
      both-ascend g.K.Ord.cmp _ _ c.requires.this_ascends c.requires.that_ascends,
      can-ask g.K.Ord.cmp g.met.K.Ord.total c.args.kind (g.Q.Question.takes c.args.question.now) c.args.this.now
          c.args.that.now (λ a h. c.requires.takes a h (asked-kind g.K.Ord.cmp c.args.kind a h)),
    )

pub merge-requires-clause-ascend : goal.merge-requires-clause-ascend
merge-requires-clause-ascend g c =
    rw (c.new-state.ensures.a, c.new-state.ensures.b)
    (both-ascend g.K.Ord.cmp _ _ c.requires.this_ascends c.requires.that_ascends)

pub returns-clause-joins : goal.returns-clause-joins
returns-clause-joins g c =
    merged-join (λ a r. g.Q.Question.may c.args.question.now a (Ok r)) (ClonedKey g.K.Clone.is_clone) c.args.kind
    (λ s. g.S.PairList.pairs s.built.now) list_name _ (λ r. Unit {0})
    (record { from_a = λ s t n r h. grind (arith, h); from_b = λ s t n r h. grind (arith, h); collision = λ s t r h. (tt, h) })
    g.met.K.Ord.total (λ a k i h. clone-equal g.K.Ord.cmp g.met.K.Ord.total g.K.Clone.is_clone c.requires.clones _ _ h) _ _ _ _ _
    c.new-state.ensures.a c.new-state.ensures.b
    (rw c.new-state.ensures.same_reference c.requires.empty)
    (λ e. let k = c.new-state.ensures.same_reference in let n = ap (λ r. r.ghost_name) k in grind arith)
    c.in_ok-merge.ensures.merged
