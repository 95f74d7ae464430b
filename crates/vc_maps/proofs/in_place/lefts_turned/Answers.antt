use Rattle.std.proofs.Common.{◌≡◌, length, take, drop, refl, ap, ◌∙◌, arith, drop-drop, length-drop}
use Rattle.vc_joins.specs.declared.question.OuterJoinArg.TheVariants.{Left}
use Rattle.vc_joins.specs.Join.{OldKey}
use Rattle.vc_merge.specs.PartsViews.{left_items}
use Rattle.vc_maps.proofs.Joined.{asked-one}
use Rattle.vc_maps.proofs.Kept.{appends-in, next-is, each-next, under-key}
use Rattle.vc_maps.proofs.in_place.lefts_turned.Goals as goal

pub replace_left-key-requires : goal.replace_left-key-requires
replace_left-key-requires g c =
    let all = left_items c.at-parts.result in
    rw c.pairs.invariant.left (omega (arith, length-drop c.pairs.at all, ap length c.at-parts.ensures.left, c.pairs-test))

pub turn_left-answer-requires : goal.turn_left-answer-requires
turn_left-answer-requires g c =
    let all = left_items c.at-parts.result in let p = c.replace_left-key.result in
    let is = next-is all (left_items c.pairs.parts) c.pairs.at p c.pairs.invariant.left c.replace_left-key.ensures.first in
    each-next (λ p. g.Q.Turn.takes c.args.question.now (Left p.0 p.1)) all c.args.n c.pairs.at p
    (rw c.at-parts.ensures.left c.requires.takes) (omega arith) is.0 is.1

pub pairs-preserved : goal.pairs-preserved
pairs-preserved g c =
    let all = left_items c.at-parts.result in let i = c.pairs.at in let p = c.replace_left-key.result in
    let is = next-is all (left_items c.pairs.parts) i p c.pairs.invariant.left c.replace_left-key.ensures.first in
    let taken = c.replace_left-key.ensures.others in let kept = c.keep_left.ensures in
    record {
      name = kept.name ∙ taken.name ∙ c.pairs.invariant.name;
      left = kept.left ∙ ap (drop 1) taken.left ∙ ap (drop 1) c.pairs.invariant.left ∙ drop-drop 1 i all;
      right = kept.right ∙ taken.right ∙ c.pairs.invariant.right;
      built = asked-one (λ a r. g.Q.Turn.may c.args.question.now a r) (OldKey g.K.Clone.is_clone)
          (λ p. Left p.0 p.1) all i p c.turn_left-answer.result _ _ _ is.0 is.1
          c.pairs.invariant.built c.turn_left-answer.ensures
          (under-key {W = g.row.W.Denot} (OldKey g.K.Clone.is_clone) (Left p.0 p.1) p.0 c.turn_left-answer.result _ _ refl
          (rw taken.built at kept.built));
    }

pub returns-clause-built : goal.returns-clause-built
returns-clause-built g c =
    let at = c.at-parts.ensures in
    let all : c.pairs.at ≡ c.args.n = omega arith in
    appends-in (ap (take c.args.n) at.left) at.built
    (let k = c.spans.ensures in let t = c.pairs.invariant.name in let n =
    ap (λ l. l.ghost_name) at.same_reference in grind arith) (rw all at c.pairs.invariant.built)
