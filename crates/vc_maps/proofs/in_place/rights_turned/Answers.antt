use Rattle.std.proofs.Common.{◌≡◌, length, take, drop, refl, sym, ap, ◌∙◌, arith, drop-drop, length-drop, take_all}
use Rattle.vc_joins.specs.declared.question.OuterJoinArg.TheVariants.{Right}
use Rattle.vc_joins.specs.Join.{OldKey}
use Rattle.vc_merge.specs.PartsViews.{right_items}
use Rattle.vc_maps.specs.Keeping.{HaveKeys}
use Rattle.vc_maps.proofs.Joined.{asked-one}
use Rattle.vc_maps.proofs.Kept.{appends-in, zip-at, zip-within, under-key}
use Rattle.vc_maps.proofs.in_place.rights_turned.Goals as goal

pub replace_right-key-requires : goal.replace_right-key-requires
replace_right-key-requires g c =
    let rights = right_items c.at-parts.result in let pairs = c.args.pairs.now in
    let keys : HaveKeys g.K.Clone.is_clone pairs (take (length pairs) rights) = rw c.at-parts.ensures.right c.requires.keys in
    let long = zip-within (λ p q. g.K.Clone.is_clone p.0 q.0) pairs (length pairs) rights keys in
    rw c.pairs.invariant.right (omega (arith, length-drop c.pairs.pair-index rights, long, c.pairs-test.true))

pub pairs-preserved : goal.pairs-preserved
pairs-preserved g c =
    let rights = right_items c.at-parts.result in let pairs = c.args.pairs.now in let i = c.pairs.pair-index in
    let p = c.pair-item.result in let q = c.replace_right-key.result in
    let taken = c.replace_right-key.ensures.others in let kept = c.keep_right.ensures in
    let keys : HaveKeys g.K.Clone.is_clone pairs (take (length pairs) rights) = rw c.at-parts.ensures.right c.requires.keys in
    let cloned : g.K.Clone.is_clone p.0 q.0 = zip-at (λ p q. g.K.Clone.is_clone p.0 q.0) pairs (length pairs) rights _ i p q
    keys c.pairs-test.true c.pair-item.is (sym c.pairs.invariant.right ∙ c.replace_right-key.ensures.first) in
    record {
      name = kept.name ∙ taken.name ∙ c.pairs.invariant.name;
      left = kept.left ∙ taken.left ∙ c.pairs.invariant.left;
      right = kept.right ∙ ap (drop 1) taken.right ∙ ap (drop 1) c.pairs.invariant.right ∙ drop-drop 1 i rights;
      built = asked-one (λ a r. g.Q.Turn.may c.args.question.now a r) (OldKey g.K.Clone.is_clone)
          (λ p. Right p.0 p.1) pairs i p c.turn-answer.result _ _ _ c.pairs-test.true c.pair-item.is
          c.pairs.invariant.built c.turn-answer.ensures
          (under-key {V = g.row.V.Denot} {W = g.row.W.Denot} (OldKey g.K.Clone.is_clone) (Right p.0 p.1) q.0
          c.turn-answer.result _ _ cloned (rw taken.built at kept.built));
    }

pub returns-clause-built : goal.returns-clause-built
returns-clause-built g c =
    let pairs = c.args.pairs.now in let i = c.pairs.pair-index in let at = c.at-parts.ensures in
    let whole : take i pairs ≡ pairs = take_all i pairs (omega (arith, c.pairs-test.false)) in
    appends-in refl at.built
    (let k = c.spans.ensures in let t = c.pairs.invariant.name in let n =
    ap (λ l. l.ghost_name) at.same_reference in grind arith) (rw whole at c.pairs.invariant.built)
