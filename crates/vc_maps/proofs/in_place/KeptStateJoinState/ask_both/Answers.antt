use Rattle.std.proofs.Common.{refl}
use Rattle.vc_maps.specs.KeptViews.{left_pairs}
use Rattle.vc_maps.proofs.Joined.{heads-weaker}
use Rattle.vc_maps.proofs.Kept.{appends-in}
use Rattle.vc_maps.proofs.in_place.KeptStateJoinState.ask_both.Goals as goal

pub returns-clause-gives : goal.returns-clause-gives
returns-clause-gives g c =
    let s = c.args.self.now in let passed = c.pass_right.ensures in (
      refl,
      heads-weaker _ _ (left_pairs s) s.right.now
          (λ p r h. (refl, passed.name, appends-in refl refl passed.built h)) c.pair_turned-self.ensures.built,
    )
